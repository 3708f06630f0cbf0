-- Divisors are small: no product on the way to one is past 18 times 8 times 128, whatever the code.
-- Assumes nothing.
use mathlib.Core.List.{[], ◌∷◌}
use Prim.Native.Nat.{ℕ, zero, suc, ◌+◌, ◌*◌, ◌/◌, ◌%◌, ◌≤◌}
use native.Mathlib.Nat.{mul-le-mul}
use native.Mathlib.Omega.{arith}
use lib.ListN.{get_or}
use lib.Pow.{pow_mono}
use Rattle.rx_bw.specs.Width.{divisor}

pub factor-most : (i : ℕ) → get_or (13 ∷ 14 ∷ 15 ∷ 18 ∷ []) i 0 ≤ 18
factor-most zero = omega arith
factor-most (suc zero) = omega arith
factor-most (suc (suc zero)) = omega arith
factor-most (suc (suc (suc zero))) = omega arith
factor-most (suc (suc (suc (suc i)))) = omega arith

module _ (c : ℕ) where
  second-most : c / 8 % 8 + 1 ≤ 8
  second-most = omega arith

  pub product-most : get_or (13 ∷ 14 ∷ 15 ∷ 18 ∷ []) (c / 64) 0 * (c / 8 % 8 + 1) ≤ 144
  product-most = mul-le-mul (factor-most (c / 64)) second-most

  pub divisor-most : divisor c ≤ 18432
  divisor-most = mul-le-mul product-most (pow_mono {i = c % 8} {j = 7} (omega arith))
