-- What a word is found to be: `said-..`, by its length and its digits.
-- Assumes nothing.
use mathlib.Core.Path.{◌≡◌, refl}
use mathlib.Core.Bool.{Bool, cond, false, false≢true, true}
use mathlib.Core.List.{List, [], ◌∷◌}
use Prim.Native.Nat.{ℕ, zero, suc, ◌<◌}
use native.Mathlib.Omega.{arith}
use borrow.Author.Tests.{eq-eqb, ltb-true, ne_eqb}
use lib.Dec.{ltb}
use lib.ListN.{get_or, length}
use Rattle.status_list.specs.Words.{all_digits, digit_of, status_in}
use Rattle.status_list.specs.Found.{said_by, status_found, wrong_found}

pub digits-at : (w : List ℕ) (i : ℕ) → all_digits w ≡ true → i < length w → digit_of (get_or w i 0) < 16
unfolding all_digits
digits-at [] i e h = absurd (omega arith)
digits-at (b ∷ w) i e h = go (ltb (digit_of b) 16) refl e i h (digits-at w)
  where
    go : (t : Bool) → ltb (digit_of b) 16 ≡ t → cond t (all_digits w) false ≡ true → (i : ℕ) → i < suc (length w)
        → ((j : ℕ) → all_digits w ≡ true → j < length w → digit_of (get_or w j 0) < 16) → digit_of (get_or (b ∷ w) i 0) < 16
    go true f g zero h ih = ltb-true (digit_of b) 16 f
    go true f g (suc i) h ih = ih i g (omega arith)
    go false f g i h ih = absurd (false≢true g)

module _ (w : List ℕ) (start end : ℕ) where
  pub said-status : length w ≡ 4 → all_digits w ≡ true → said_by w start end ≡ status_found (get_or (status_in w) 0 0) (get_or (status_in w) 1 0) end
  said-status n d = rw (eq-eqb (length w) 4 n, d)

  pub said-letter : length w ≡ 4 → all_digits w ≡ false → said_by w start end ≡ wrong_found start end
  said-letter n d = rw (eq-eqb (length w) 4 n, d)

  pub said-length : (length w ≡ 4 → ⊥) → said_by w start end ≡ wrong_found start end
  said-length n = rw (ne_eqb (length w) 4 n)
