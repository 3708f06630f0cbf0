-- Whether a number has at most w bits, by a shift. Assumes nothing.
use mathlib.Core.Path.{◌≡◌, sym, ◌∙◌, subst}
use mathlib.Core.Logic.{⊎_elim}
use Prim.Native.Nat.{ℕ, ◌*◌, ◌/◌, ◌^◌, ◌≤◌, ◌<◌}
use native.Mathlib.Nat.{div-lt_iff_lt-mul, lt_of_lt_of_le, one-mul}
use native.Mathlib.Omega.{arith}
use borrow.Author.Tests.{eq-eqb, ne_eqb, lt-ltb, le-ltb}
use lib.Pow.{pow_pos, pow_mono}
use lib.Dec.{eqb, ltb}
use Rattle.frame.proofs.OneField.{le-or-lt}

pub within-is : (v w : ℕ) → eqb (v / 2 ^ w) 0 ≡ ltb v (2 ^ w)
within-is v w = ⊎_elim out in-it (le-or-lt (2 ^ w) v)
  where
    out : 2 ^ w ≤ v → eqb (v / 2 ^ w) 0 ≡ ltb v (2 ^ w)
    out h =
        let n : v / 2 ^ w ≡ 0 → ⊥ = (λ e. let z : v / 2 ^ w < 1 = omega arith in let y : v < 1 * 2 ^ w = (div-lt_iff_lt-mul (pow_pos w)).0 z in omega arith) in
        ne_eqb (v / 2 ^ w) 0 n ∙ sym (le-ltb v (2 ^ w) h)

    in-it : v < 2 ^ w → eqb (v / 2 ^ w) 0 ≡ ltb v (2 ^ w)
    in-it h =
        let z : v / 2 ^ w < 1 = (div-lt_iff_lt-mul (pow_pos w)).1 (subst (λ (x : ℕ). v < x) (sym (one-mul (2 ^ w))) h) in
        eq-eqb (v / 2 ^ w) 0 (omega arith) ∙ sym (lt-ltb v (2 ^ w) h)

pub all-within : (v w : ℕ) → v < 2 ^ 64 → 64 ≤ w → v < 2 ^ w
all-within v w h l = lt_of_lt_of_le h (pow_mono l)
