-- What the paths of the source show, over plain numbers: a number in or out of its bounds, a test told by its opposite, and the length of a symbol.
-- Assumes nothing.
use mathlib.Core.Path.{refl, sym, ◌∙◌, ◌≡◌}
use mathlib.Core.Bool.{Bool, false, false≢true, not, true, ◌&&◌}
use mathlib.Core.Logic.{inl, inr, ◌⊎◌}
use Prim.Native.Nat.{ℕ, ◌%◌, ◌*◌, ◌<◌, ◌≤◌, ◌^◌}
use native.Mathlib.Omega.{arith}
use borrow.Author.Tests.{le-leb, lt-leb, lt-ltb, ltb-false, ltb-true}
use lib.Dec.{leb, ltb}
use lib.Pow.{pow_mono}
use Rattle.cmd_lora.specs.Methods.{over}
use Rattle.locker_profile.specs.declared.Lora.{Lora}
use Rattle.locker_profile.specs.Rules.{spreading_factor, width, width_in, width_of}
use Rattle.locker_profile.proofs.Rules.{spreading-factor-is, width_is}

-- ---- a number between two

module _ (least most v : ℕ) where
  pub below : v < least → ltb v least ≡ not (leb least v && leb v most)
  below h = rw (lt-leb least v h, lt-ltb v least h)

  pub beside : least ≤ v → ltb most v ≡ not (leb least v && leb v most)
  beside h = rw (le-leb least v h) (by (ltb most v) refl)
    where
      by : (t : Bool) → ltb most v ≡ t → t ≡ not (leb v most)
      by true e = rw (lt-leb v most (ltb-true most v e))
      by false e = rw (le-leb v most (ltb-false most v e))

-- ---- a test told by its opposite

module _ (r t : Bool) (e : r ≡ not t) where
  pub kept : r ≡ false → t ≡ true
  kept h = by t (sym e ∙ h)
    where
      by : (u : Bool) → not u ≡ false → u ≡ true
      by true q = refl
      by false q = absurd (false≢true (sym q))

  pub broken : r ≡ true → t ≡ false
  broken h = by t (sym e ∙ h)
    where
      by : (u : Bool) → not u ≡ true → u ≡ false
      by true q = absurd (false≢true q)
      by false q = refl

-- ---- a symbol

-- 2^12 chips are 4,096
pub chips-most : (sf : ℕ) → sf ≤ 12 → 2 ^ sf ≤ 4096
chips-most sf h = pow_mono {i = sf} {j = 12} h

-- and 64 bits hold them
pub chips-are : (sf : ℕ) → sf ≤ 12 → (1 * 2 ^ sf) % 18446744073709551616 ≡ 2 ^ sf
chips-are sf h = omega (arith, chips-most sf h)

pub spreads-most : (x : Lora) → spreading_factor x ≡ true → x.sf ≤ 12
spreads-most x h = ((spreading-factor-is x).0 h).1

-- the two widths that rule 2 lets through, by code
pub width-125 : (c : ℕ) → c ≡ 4 → over 125000 1 ≡ width_of c
unfolding width_in
width-125 c e = rw e

pub width-250 : (x : Lora) → width x ≡ true → (x.lora_bw ≡ 4 → ⊥) → over 250000 1 ≡ width_of x.lora_bw
unfolding width_in
width-250 x h n = by ((width_is x).0 h)
  where
    by : (x.lora_bw ≡ 4) ⊎ (x.lora_bw ≡ 5) → over 250000 1 ≡ width_of x.lora_bw
    by (inl e) = absurd (n e)
    by (inr e) = rw e
