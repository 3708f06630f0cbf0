-- A side's calls: on its own plain list, and on the joint list of both sides' frames (REFERENCE, "Two sides").
-- Assumes nothing.
use Rattle.std.specs.Prelude.{ℕ, Bool, false, cond, not, ◌&&◌, List, ltb, length, Ok, Err}
use Rattle.refusal.specs.declared.Refusal.TheVariants.{OwnersWrong, OtherSide}
use Rattle.table.specs.Table.{action, settings}
use Rattle.settings.specs.Settings.{slot_for, slot_of}
use Rattle.owners.specs.Owners.{OwnerTable, is_side, owns, quota_of, table_right}
use Rattle.book.specs.Plain.{Turn, ask_on, clear_on, placed, put_on, refuse, remove_on, replay_on, without, Answer}
use Rattle.book.specs.Book.{Edit, Outcome, Read, Use, call_for, layout_in}
use Rattle.sides.specs.Parts.{part_of, rest_of, within_quotas}

-- what a side may ask for
pub data Request : Type 0 where
  Put : List ℕ → Request
  Remove : ℕ → Request
  Ask : ℕ → Request
  Clear : Request
  Replay : Request

-- ---- the side's own list

-- the whole book's step, in some room
abbrev pub step_of : Request → List ℕ → ℕ → List (List ℕ) → Turn
step_of (Put f) o room gs = put_on f o room gs
step_of (Remove k) o room gs = remove_on k o room gs
step_of (Ask k) o room gs = ask_on k o room gs
step_of Clear o room gs = clear_on o room gs
step_of Replay o room gs = replay_on o room gs

-- The slot that a call names; the mark of an action where it names no setting. An ask for a setting that the table has no entry for, since the
-- book's version has no slot for it, names none: it is nobody's, and not held.
abbrev pub named : OwnerTable → Request → ℕ
named t (Put f) = slot_of f
named t (Remove k) = slot_for k
named t (Ask k) = cond (ltb (slot_for k) (length t.owners)) (slot_for k) action
named t Clear = action
named t Replay = action

-- whether a slot is a setting's and not the side's
abbrev pub foreign : OwnerTable → ℕ → ℕ → Bool
foreign t w s = cond (ltb s settings) (not (owns t.owners w s)) false

-- Whether a call is for a setting of the other side: table and call decide, whatever is held.
unfoldable pub barred : OwnerTable → ℕ → Request → Bool
barred t w c = foreign t w (named t c)

-- What a side's call does to its own list: the book's own step, with the side's quota as the room, unless the setting is the other side's.
unfoldable pub own_turn : OwnerTable → ℕ → Request → List ℕ → List (List ℕ) → Turn
own_turn t w c o gs = cond (barred t w c) (refuse OtherSide o gs) (step_of c o (quota_of t w) gs)

-- ---- the joint list

-- What an accepted call makes of all frames: the book's own edit, but a clear takes the side's frames alone, and the others keep their order.
abbrev pub edited : OwnerTable → ℕ → Request → List (List ℕ) → List (List ℕ)
edited t w (Put f) fs = placed f fs
edited t w (Remove k) fs = without (slot_for k) fs
edited t w (Ask k) fs = fs
edited t w Clear fs = rest_of t w fs
edited t w Replay fs = fs

abbrev pub if_accepted : Answer → List (List ℕ) → List (List ℕ) → List (List ℕ)
if_accepted (Ok n) gs fs = gs
if_accepted (Err x) gs fs = fs

-- the turn of a side's own list, carried out among all frames
abbrev pub amid : Turn → List (List ℕ) → List (List ℕ) → Turn
amid x gs fs = record { answer = x.answer; output = x.output; frames = if_accepted x.answer gs fs }

-- Whether a side may call at all: the table is right, the caller is a side, and neither side's frames exceed its quota.
unfoldable pub may_call : ℕ → OwnerTable → ℕ → ℕ → List (List ℕ) → List (List ℕ) → Bool
may_call m t w room gs hs = table_right m room t && (is_side w && within_quotas t gs hs)

-- A call of side w on the frames of a book of m slots. It is answered by the side's own list.
unfoldable pub side_on : ℕ → OwnerTable → ℕ → Request → List ℕ → ℕ → List (List ℕ) → Turn
side_on m t w c o room fs =
    cond (may_call m t w room (part_of t 1 fs) (part_of t 2 fs)) (amid (own_turn t w c o (part_of t w fs)) (edited t w c fs) fs) (refuse OwnersWrong o fs)

-- what a side's call wants of a book
abbrev pub wants_of : Request → Use
wants_of (Put f) = Edit
wants_of (Remove k) = Edit
wants_of (Ask k) = Read
wants_of Clear = Edit
wants_of Replay = Read

-- The same on a buffer's bytes, after the book's own refusals: the table has an entry for each slot of the book's version.
abbrev pub side_call : OwnerTable → ℕ → Request → List ℕ → List ℕ → Outcome
side_call t w c o b = call_for (wants_of c) (side_on (layout_in b).slots t w c) o b
