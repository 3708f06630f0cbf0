-- Single bytes: what is between two of them, which are white space (`blank-is`, `is-blank`), and what a digit says, as the source's tests find it.
-- Assumes nothing.
use mathlib.Core.Path.{◌≡◌, refl}
use mathlib.Core.Bool.{Bool, false, false≢true, true, ◌&&◌, ◌||◌}
use mathlib.Core.Logic.{inl, inr, ◌⊎◌}
use Prim.Native.Nat.{ℕ, ◌+◌, ◌-◌, ◌<◌, ◌≤◌}
use native.Mathlib.Omega.{arith}
use borrow.Author.Tests.{eq-eqb, eqb-true, le-leb, leb-true, lt-leb}
use lib.Dec.{eqb, leb}
use Rattle.status_list.specs.Words.{between, digit_of, is_blank}

module _ (low high b : ℕ) where
  pub between-yes : low ≤ b → b ≤ high → between low high b ≡ true
  unfolding between
  between-yes p q = rw (le-leb low b p, le-leb b high q)

  pub between-below : b < low → between low high b ≡ false
  unfolding between
  between-below p = rw (lt-leb low b p)

  pub between-above : low ≤ b → high < b → between low high b ≡ false
  unfolding between
  between-above p q = rw (le-leb low b p, lt-leb b high q)

-- WHITE SPACE IS 9 TO 13 AND 32, AND NOTHING ELSE
pub blank-is : (b : ℕ) → is_blank b ≡ true → (b ≡ 32) ⊎ ((9 ≤ b) × (b ≤ 13))
unfolding is_blank between
blank-is b = by (eqb b 32) refl (leb 9 b) refl (leb b 13) refl
  where
    by : (x : Bool) → eqb b 32 ≡ x → (y : Bool) → leb 9 b ≡ y → (z : Bool) → leb b 13 ≡ z → x || (y && z) ≡ true → (b ≡ 32) ⊎ ((9 ≤ b) × (b ≤ 13))
    by true p y q z r e = inl (eqb-true b 32 p)
    by false p true q true r e = inr (leb-true 9 b q, leb-true b 13 r)
    by false p true q false r e = absurd (false≢true e)
    by false p false q z r e = absurd (false≢true e)

pub is-blank : (b : ℕ) → (b ≡ 32) ⊎ ((9 ≤ b) × (b ≤ 13)) → is_blank b ≡ true
unfolding is_blank
is-blank b (inl e) = rw (eq-eqb b 32 e)
is-blank b (inr h) = rw (between-yes 9 13 b h.0 h.1) (either (eqb b 32))
  where
    either : (x : Bool) → x || true ≡ true
    either true = refl
    either false = refl

module _ (b : ℕ) where
  pub digit-decimal : 48 ≤ b → b < 58 → digit_of b ≡ b - 48
  unfolding digit_of
  digit-decimal p q = rw (between-yes 48 57 b p (omega arith))

  pub digit-upper : 65 ≤ b → b < 71 → digit_of b ≡ b - 65 + 10
  unfolding digit_of
  digit-upper p q = rw (between-above 48 57 b (omega arith) (omega arith), between-yes 65 70 b p (omega arith))

  pub digit-lower : 97 ≤ b → b < 103 → digit_of b ≡ b - 97 + 10
  unfolding digit_of
  digit-lower p q =
      rw (between-above 48 57 b (omega arith) (omega arith), between-above 65 70 b (omega arith) (omega arith), between-yes 97 102 b p (omega arith))

  none : between 48 57 b ≡ false → between 65 70 b ≡ false → between 97 102 b ≡ false → digit_of b ≡ 16
  unfolding digit_of
  none p q r = rw (p, q, r)

  pub digit-first : b < 48 → digit_of b ≡ 16
  digit-first h = none (between-below 48 57 b h) (between-below 65 70 b (omega arith)) (between-below 97 102 b (omega arith))

  pub digit-second : 58 ≤ b → b < 65 → digit_of b ≡ 16
  digit-second h k = none (between-above 48 57 b (omega arith) (omega arith)) (between-below 65 70 b k) (between-below 97 102 b (omega arith))

  pub digit-third : 71 ≤ b → b < 97 → digit_of b ≡ 16
  digit-third h k =
      none (between-above 48 57 b (omega arith) (omega arith)) (between-above 65 70 b (omega arith) (omega arith)) (between-below 97 102 b k)

  pub digit-last : 103 ≤ b → digit_of b ≡ 16
  digit-last h =
      none (between-above 48 57 b (omega arith) (omega arith)) (between-above 65 70 b (omega arith) (omega arith))
      (between-above 97 102 b (omega arith) (omega arith))

-- what the check tries at the goals of `digit`
pub ruleset digit_cases = (digit-decimal, digit-upper, digit-lower, digit-first, digit-second, digit-third, digit-last)
