-- How texts are written (REFERENCE, "Playback", "Widths for banks"): piece by piece, as far as the output goes, and by forms with numbers filled in.
-- Assumes nothing.
use Rattle.std.specs.Prelude.{ℕ, ◌+◌, ◌-◌, min, ◌≡◌, cond, List, [], ◌∷◌, ◌++◌, leb, ltb, length, get_or}
use Rattle.std.proofs.lemmas.List.Edits.{sets}
use Rattle.reading.specs.Decimal.{decimal}

-- where so many bytes put at a place end: behind them, or where the output ends
abbrev pub end_of : ℕ → ℕ → ℕ → ℕ
end_of at count room = at + min count (room - at)

-- as much of the text as the output has room for stands at a place, the rest is as it was, and the answer is where it ends
pub record Puts (text : List ℕ) (at : ℕ) (before : List ℕ) (r : ℕ) (after : List ℕ) : Type 0 where
  pub ends : r ≡ end_of at (length text) (length before)
  pub stands : after ≡ sets before at text

-- what a byte of a form stands for: a digit for the number of that place, where there are so many, and any other byte for itself; 48 is '0'
abbrev pub piece : ℕ → List ℕ → List ℕ
piece b numbers = cond (leb 48 b) (cond (ltb (b - 48) (length numbers)) (decimal (get_or numbers (b - 48) 0)) (b ∷ [])) (b ∷ [])

-- a form with its numbers filled in, and what stands behind it
unfoldable pub filled : List ℕ → List ℕ → List ℕ → List ℕ
filled [] numbers end = end
filled (b ∷ form) numbers end = piece b numbers ++ filled form numbers end
