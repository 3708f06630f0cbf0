-- The two forms of a setting: some kinds are one setting in two lengths, of which a book holds one at a time (REFERENCE, "Short and long
-- forms"). Which kinds these are stands beside the table's rows.
-- Assumes nothing.
use Rattle.std.specs.Prelude.{ℕ, Bool, true, false, cond, not, ◌&&◌, List, [], ◌∷◌, eqb, get_or}
use Rattle.table.specs.Table.{forms}
use Rattle.settings.specs.Settings.{slot_for}
use Rattle.contents.specs.Frames.{held}

-- ---- the other form

-- the slots of a pair's two kinds
abbrev pub short_of : List ℕ → ℕ
short_of p = slot_for (get_or p 0 0)

abbrev pub long_of : List ℕ → ℕ
long_of p = slot_for (get_or p 1 0)

-- the slot that pairs have beside s; s itself where none has it
unfoldable pub other_in : List (List ℕ) → ℕ → ℕ
other_in [] s = s
other_in (p ∷ ps) s = cond (eqb s (short_of p)) (long_of p) (cond (eqb s (long_of p)) (short_of p) (other_in ps s))

-- The slot of the other form of a slot's setting; its own where the setting has one form.
unfoldable pub other : ℕ → ℕ
other s = other_in forms s

-- ---- both forms at once

-- some pair passes a test with both its slots
unfoldable pub both_in : List (List ℕ) → (ℕ → Bool) → Bool
both_in [] q = false
both_in (p ∷ ps) q = cond (q (short_of p) && q (long_of p)) true (both_in ps q)

-- some setting passes a test in both its forms
unfoldable pub in_both : (ℕ → Bool) → Bool
in_both q = both_in forms q

-- No setting is held in both its forms.
unfoldable pub single : List (List ℕ) → Bool
single fs = not (in_both (λ s. held s fs))

-- ---- the most that a list can have which holds no setting in both its forms (REFERENCE, "Book")

-- bytes of frames
abbrev pub most_bytes : ℕ
most_bytes = 169

-- frames
abbrev pub most_frames : ℕ
most_frames = 26
