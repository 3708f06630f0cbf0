-- The settings among the kinds: which slot each has in a book, and how long its frame is, both from the one table (REFERENCE, "Book").
-- Assumes nothing.
use Rattle.std.specs.Prelude.{ℕ, cond, List, [], ◌∷◌, eqb, get_or}
use Rattle.table.specs.Table as table
use Rattle.table.specs.Table.{rows, row_of, len_of, action}
use Rattle.refusal.specs.declared.Refusal.{Refusal}
use Rattle.refusal.specs.declared.Refusal.TheVariants.{NotAKind}
use Rattle.table.specs.Table.{is_kind}
use Rattle.decoder.specs.Decoding.{Reading, reading, refuses, decode}

-- The settings' slots count up from 0 in the order of the kinds; an action has none, nor has a number that is no kind.
unfoldable pub slot_for : ℕ → ℕ
slot_for k = cond (is_kind k) (table.slot_of (row_of k)) action

-- the lengths of the settings' frames, in slot order
unfoldable pub lengths : List (List ℕ) → List ℕ
lengths [] = []
lengths (r ∷ rs) = cond (eqb (table.slot_of r) action) (lengths rs) (len_of r ∷ lengths rs)

-- A slot's frames are all of one length; 0 where no setting has the slot.
unfoldable pub size_of : ℕ → ℕ
size_of s = get_or (lengths rows) s 0

-- ---- a frame's setting, by what the decoder says of it

abbrev pub slot_in : Reading → ℕ
slot_in (reading k vs) = slot_for k
slot_in (refuses x) = action

-- the slot of a frame; an action's mark where it does not decode
unfoldable pub slot_of : List ℕ → ℕ
slot_of f = slot_in (decode f)

-- Why a frame is no setting: the decoder's own refusal, or that its kind is an action (REFERENCE, "Refusals").
abbrev pub lacks : Reading → Refusal
lacks (reading k vs) = NotAKind
lacks (refuses x) = x
