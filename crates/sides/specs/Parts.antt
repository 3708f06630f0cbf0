-- A side's part of a list of frames: those of its own slots, in their order (REFERENCE, "Two sides").
-- Assumes nothing.
use Rattle.std.specs.Prelude.{ℕ, Bool, cond, not, ◌&&◌, List, [], ◌∷◌, leb, length}
use Rattle.settings.specs.Settings.{slot_of}
use Rattle.contents.specs.Frames.{flat}
use Rattle.owners.specs.Owners.{OwnerTable, owns}

-- the frames whose slots pass a test
unfoldable pub chosen : (ℕ → Bool) → List (List ℕ) → List (List ℕ)
chosen q [] = []
chosen q (f ∷ fs) = cond (q (slot_of f)) (f ∷ chosen q fs) (chosen q fs)

-- a side's frames
abbrev pub part_of : OwnerTable → ℕ → List (List ℕ) → List (List ℕ)
part_of t w fs = chosen (owns t.owners w) fs

-- all others
abbrev pub rest_of : OwnerTable → ℕ → List (List ℕ) → List (List ℕ)
rest_of t w fs = chosen (λ s. not (owns t.owners w s)) fs

-- Neither side's frames have more bytes than its quota says.
unfoldable pub within_quotas : OwnerTable → List (List ℕ) → List (List ℕ) → Bool
within_quotas t gs hs = leb (length (flat gs)) t.quota1 && leb (length (flat hs)) t.quota2
