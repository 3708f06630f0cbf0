-- What is printed of a width: it is cut after the last digit, never rounded up (`width-cut`), the digits stand for that number
-- (`millionths-value`), and so it is for the bytes that are printed of every code (`width-printed`).
-- Assumes nothing.
use mathlib.Core.Path.{◌≡◌, refl, sym, ap, subst, ◌∙◌}
use mathlib.Core.List.{List, [], ◌∷◌, ◌++◌}
use Prim.Native.Nat.{ℕ, zero, suc, ◌+◌, ◌*◌, ◌-◌, ◌/◌, ◌%◌, ◌^◌, ◌≤◌, ◌<◌}
use native.Mathlib.Nat.{mul-pos, div-le_self, div-mul-le_self, lt-div-mul-add}
use native.Mathlib.Omega.{arith}
use lib.ListN.{get_or, length}
use lib.Pow.{pow_pos}
use Rattle.reading.specs.Decimal.{digit, decimal}
use Rattle.reading.proofs.Decimals.{value_from, decimal-value}
use Rattle.rx_bw.specs.Width.{divisor}
use Rattle.widths_text.specs.Text.{last_six, millionths, width_in, width_text}

factor-some : (i : ℕ) → i < 4 → 0 < get_or (13 ∷ 14 ∷ 15 ∷ 18 ∷ []) i 0
factor-some zero h = omega arith
factor-some (suc zero) h = omega arith
factor-some (suc (suc zero)) h = omega arith
factor-some (suc (suc (suc zero))) h = omega arith
factor-some (suc (suc (suc (suc i)))) h = absurd (omega arith)

module _ (c : ℕ) (h : c < 256) where
  pub divisor-some : 0 < divisor c
  divisor-some = mul-pos (mul-pos (factor-some (c / 64) (omega arith)) (omega arith)) (pow_pos (c % 8))

  pub width-cut : (width_in c * divisor c ≤ 40000000 * 1000000) × (40000000 * 1000000 < (width_in c + 1) * divisor c)
  width-cut = (div-mul-le_self (40000000 * 1000000) (divisor c), omega (arith, lt-div-mul-add {a = 40000000 * 1000000} {b = divisor c} divisor-some))

value-append : (a : ℕ) (l m : List ℕ) → value_from a (l ++ m) ≡ value_from (value_from a l) m
value-append a [] m = refl
value-append a (x ∷ l) m = value-append (10 * a + (x - 48)) l m

-- a digit behind the number that those before it stand for
digit-next : (v u w : ℕ) → w ≡ u → u ≡ v / 10 → 10 * w + (digit v - 48) ≡ v
digit-next v u w e f = omega arith

six-value : (v : ℕ) → value_from (v / 1000000) (last_six v) ≡ v
six-value v =
    digit-next v (v / 10) _
    (digit-next (v / 10) (v / 100) _
    (digit-next (v / 100) (v / 1000) _
    (digit-next (v / 1000) (v / 10000) _
    (digit-next (v / 10000) (v / 100000) _ (digit-next (v / 100000) (v / 1000000) _ refl (omega arith)) (omega arith))
    (omega arith))
    (omega arith))
    (omega arith))
    (omega arith)

pub millionths-value : (v : ℕ) → v < 10 ^ 20 → value_from 0 (decimal (v / 1000000) ++ last_six v) ≡ v
millionths-value v h =
    value-append 0 (decimal (v / 1000000)) (last_six v)
    ∙ ap (λ (a : ℕ). value_from a (last_six v)) (decimal-value (v / 1000000) (omega arith))
    ∙ six-value v

-- digits, a point and six digits more: as millionths of Hz the greatest number that is not more than the width
pub record Printed (c : ℕ) : Type 0 where
  pub whole : List ℕ
  pub six : List ℕ
  pub text : width_text c ≡ whole ++ (46 ∷ six)
  pub places : length six ≡ 6
  pub below : value_from 0 (whole ++ six) * divisor c ≤ 40000000 * 1000000
  pub next : 40000000 * 1000000 < (value_from 0 (whole ++ six) + 1) * divisor c

pub width-printed : (c : ℕ) → c < 256 → Printed c
unfolding millionths
width-printed c h =
    let is : value_from 0 (decimal (width_in c / 1000000) ++ last_six (width_in c)) ≡ width_in c = millionths-value (width_in c) (omega (arith, div-le_self 40000000000000 (divisor c))) in
    record {
      whole = decimal (width_in c / 1000000);
      six = last_six (width_in c);
      text = refl;
      places = refl;
      below = subst (λ (v : ℕ). v * divisor c ≤ 40000000 * 1000000) (sym is) (width-cut c h).0;
      next = subst (λ (v : ℕ). 40000000 * 1000000 < (v + 1) * divisor c) (sym is) (width-cut c h).1;
    }
