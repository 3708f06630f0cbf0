-- A test of every number below n: computed once, and then known of each. Assumes nothing.
use mathlib.Core.Path.{sym, subst}
use mathlib.Core.Logic.{⊎_elim}
use mathlib.Core.Bool.{Bool, true, ◌&&◌}
use Prim.Native.Nat.{ℕ, zero, suc, ◌<◌}
use native.Mathlib.Nat.{eq-or-lt_of_le, le_of_suc-le-suc, not-suc-le-zero}
use lib.Dec.{T}
use Rattle.frame.proofs.Fields.{both_left, both_right}

unfoldable pub below : (ℕ → Bool) → ℕ → Bool
below p zero = true
below p (suc n) = p n && below p n

pub below_at : (p : ℕ → Bool) (n k : ℕ) → T (below p n) → k < n → T (p k)
unfolding below
below_at p zero k t h = absurd (not-suc-le-zero h)
below_at p (suc n) k t h =
    ⊎_elim (λ e. subst (λ (j : ℕ). T (p j)) (sym e) (both_left (p n) (below p n) t)) (λ l. below_at p n k (both_right (p n) (below p n) t) l)
    (eq-or-lt_of_le (le_of_suc-le-suc h))
