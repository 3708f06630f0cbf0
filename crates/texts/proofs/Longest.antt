-- How long words and lines are: no decimal has more than twenty digits (`decimal-most`), and a line is as long as its words with a byte for
-- each (`spaced-length`, `spaced-none`).
-- Assumes nothing.
use mathlib.Core.Path.{◌≡◌, refl}
use mathlib.Core.Bool.{Bool, true, false, cond}
use mathlib.Core.List.{List, [], ◌∷◌, ◌++◌}
use Prim.Native.Nat.{ℕ, zero, suc, ◌+◌, ◌/◌, ◌≤◌}
use native.Mathlib.Omega.{arith}
use lib.Dec.{ltb}
use lib.ListN.{length, length-append}
use Rattle.reading.specs.Decimal.{digit, digits, decimal}
use Rattle.texts.specs.Words.{spaced}

digits-most : (most n : ℕ) → length (digits most n) ≤ most
unfolding digits
digits-most zero n = omega arith
digits-most (suc most) n = by (ltb n 10) (digits-most most (n / 10))
  where
    by : (b : Bool) → length (digits most (n / 10)) ≤ most → length (cond b [] (digits most (n / 10)) ++ (digit n ∷ [])) ≤ suc most
    by true h = omega arith
    by false h = simp length-append (omega arith)

pub decimal-most : (n : ℕ) → length (decimal n) ≤ 20
unfolding decimal
decimal-most n = digits-most 20 n

pub spaced-length : (w : List ℕ) (ws : List (List ℕ)) → length (spaced (w ∷ ws) (10 ∷ [])) ≡ suc (length w) + length (spaced ws (10 ∷ []))
unfolding spaced
spaced-length w ws = simp length-append (omega arith)

pub spaced-none : length (spaced [] (10 ∷ [])) ≡ 1
unfolding spaced
spaced-none = refl
