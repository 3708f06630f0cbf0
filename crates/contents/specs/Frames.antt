-- A plain list of frames, as far as its bytes go: one after the other, and where each slot's frame stands among them (REFERENCE, "Book").
-- Assumes nothing.
use Rattle.std.specs.Prelude.{ℕ, ◌+◌, Bool, true, false, cond, List, [], ◌∷◌, ◌++◌, eqb, length}
use Rattle.settings.specs.Settings.{slot_of}

-- whether a frame of the slot is held
unfoldable pub held : ℕ → List (List ℕ) → Bool
held s [] = false
held s (f ∷ fs) = cond (eqb (slot_of f) s) true (held s fs)

-- the frames' bytes, one frame after the other
unfoldable pub flat : List (List ℕ) → List ℕ
flat [] = []
flat (f ∷ fs) = f ++ flat fs

-- where the frame of a slot stands, if the first of fs stands at p; 0 if it is not among them
unfoldable pub place : ℕ → List (List ℕ) → ℕ → ℕ
place p [] s = 0
place p (f ∷ fs) s = cond (eqb (slot_of f) s) p (place (p + length f) fs s)
