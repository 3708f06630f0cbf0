-- A shared book's history: calls of both sides and of the whole book, in any order. On bytes, on the joint list, and on two plain lists, one for
-- each side (REFERENCE, "Two sides").
-- Assumes nothing.
use Rattle.std.specs.Prelude.{ℕ, Bool, true, false, cond, ◌&&◌, List, [], ◌∷◌, eqb, Ok, Err}
use Rattle.refusal.specs.declared.Refusal.TheVariants.{OwnersWrong}
use Rattle.settings.specs.Settings.{slot_for, slot_of}
use Rattle.owners.specs.Owners.{OwnerTable, is_side, owns, table_right}
use Rattle.book.specs.Plain.{Turn, placed, refuse, without, Answer}
use Rattle.book.specs.Book.{Outcome}
use Rattle.book.specs.History.{Ask, Call, Clear, Heard, Make, Put, Remove, Replay, after, is_read, turn}
use Rattle.sides.specs.Calls.{Request, may_call, own_turn, side_call, side_on}

-- a side's call: who makes it, what is asked, and the output that is lent
pub record SideCall : Type 0 where
  pub who : ℕ
  pub what : Request
  pub output : List ℕ

pub data Event : Type 0 where
  Side : SideCall → Event
  Whole : Call → Event

abbrev pub by : ℕ → Request → List ℕ → Event
by w c o = Side (record { who = w; what = c; output = o })

-- What an event makes of bytes: the contract of each function says just this.
abbrev pub after_event : OwnerTable → Event → List ℕ → Outcome
after_event t (Side c) b = side_call t c.who c.what c.output b
after_event t (Whole c) b = after c b

-- A call of the whole book that is accepted does to a side's list what it does to the whole one, if it is for a setting of that side.
abbrev pub shared : OwnerTable → ℕ → Call → List (List ℕ) → List (List ℕ)
shared t w Make gs = []
shared t w (Put f) gs = cond (owns t.owners w (slot_of f)) (placed f gs) gs
shared t w (Remove k) gs = cond (owns t.owners w (slot_for k)) (without (slot_for k) gs) gs
shared t w (Ask k o) gs = gs
shared t w Clear gs = []
shared t w (Replay o) gs = gs

abbrev pub shared_by : OwnerTable → Answer → ℕ → Call → List (List ℕ) → List (List ℕ)
shared_by t (Ok n) w c gs = shared t w c gs
shared_by t (Err x) w c gs = gs

-- what a turn says
abbrev pub heard_of : Turn → Heard
heard_of x = record { answer = x.answer; output = x.output }

-- the slots and the room of the book, and the table, which stays the same for its life
module _ (m room : ℕ) (t : OwnerTable) where
  -- what an event makes of the joint list
  abbrev pub jointly : Event → List (List ℕ) → Turn
  jointly (Side c) fs = side_on m t c.who c.what c.output room fs
  jointly (Whole c) fs = turn room c fs

  -- ---- two plain lists

  -- What a side's call gives on two lists, and leaves of the side's own: of the other's nothing counts but that it is within its quota.
  abbrev pub answered : SideCall → List (List ℕ) → List (List ℕ) → List (List ℕ) → Turn
  answered c g1 g2 own =
      cond (may_call m t c.who room g1 g2) (own_turn t c.who c.what c.output own) (refuse OwnersWrong c.output own)

  -- a side's list after an event that got this answer
  abbrev pub own_after : ℕ → Event → Answer → List (List ℕ) → List (List ℕ) → List (List ℕ) → List (List ℕ)
  own_after w (Side c) a g1 g2 own = cond (eqb c.who w) (answered c g1 g2 own).frames own
  own_after w (Whole c) a g1 g2 own = shared_by t a w c own

  -- what is heard of an event: of a side's call what its own list says, of one of the whole book what was said
  abbrev pub said : Event → Heard → List (List ℕ) → List (List ℕ) → Heard
  said (Side c) h g1 g2 = heard_of (answered c g1 g2 (cond (eqb c.who 1) g1 g2))
  said (Whole c) h g1 g2 = h

  -- All that is heard in a history, with each side's call answered by two plain lists alone; of the calls of the whole book the lists learn the
  -- answers.
  unfoldable pub by_two_lists : List Event → List Heard → List (List ℕ) → List (List ℕ) → List Heard
  by_two_lists [] hs g1 g2 = []
  by_two_lists (e ∷ es) [] g1 g2 = []
  by_two_lists (e ∷ es) (h ∷ hs) g1 g2 =
      said e h g1 g2 ∷ by_two_lists es hs (own_after 1 e h.answer g1 g2 g1) (own_after 2 e h.answer g1 g2 g2)

  -- a side's list after a history
  unfoldable pub list_after : ℕ → List Event → List Heard → List (List ℕ) → List (List ℕ) → List (List ℕ)
  list_after w [] hs g1 g2 = cond (eqb w 1) g1 g2
  list_after w (e ∷ es) [] g1 g2 = cond (eqb w 1) g1 g2
  list_after w (e ∷ es) (h ∷ hs) g1 g2 = list_after w es hs (own_after 1 e h.answer g1 g2 g1) (own_after 2 e h.answer g1 g2 g2)

  -- a side's call on its own list alone
  abbrev pub alone : SideCall → List (List ℕ) → Turn
  alone c gs =
      cond (table_right m room t && is_side c.who) (own_turn t c.who c.what c.output gs) (refuse OwnersWrong c.output gs)

-- ---- one side's share of a history

-- the calls of a side
abbrev pub calls_in : ℕ → Event → List SideCall → List SideCall
calls_in w (Side c) cs = cond (eqb c.who w) (c ∷ cs) cs
calls_in w (Whole c) cs = cs

unfoldable pub calls_of : ℕ → List Event → List SideCall
calls_of w [] = []
calls_of w (e ∷ es) = calls_in w e (calls_of w es)

-- what a side hears, of all that is said
abbrev pub is_by : ℕ → Event → Bool
is_by w (Side c) = eqb c.who w
is_by w (Whole c) = false

unfoldable pub heard_by : ℕ → List Event → List Heard → List Heard
heard_by w [] hs = []
heard_by w (e ∷ es) [] = []
heard_by w (e ∷ es) (h ∷ hs) = cond (is_by w e) (h ∷ heard_by w es hs) (heard_by w es hs)

-- the book is written by the sides' calls alone: of the whole book there are only reads
unfoldable pub by_sides : List Event → Bool
by_sides [] = true
by_sides (Side c ∷ es) = by_sides es
by_sides (Whole c ∷ es) = is_read c && by_sides es
