-- A status is read as its hex is written: for every two bytes, with digits of either case (`status-read`).
-- Assumes nothing.
use mathlib.Core.Path.{◌≡◌, refl, ap₂}
use mathlib.Core.Bool.{Bool, false, false≢true, true, ◌&&◌}
use mathlib.Core.List.{List, [], ◌∷◌, ◌++◌}
use Prim.Native.Nat.{ℕ, zero, suc, ◌+◌, ◌/◌, ◌%◌, ◌<◌}
use native.Mathlib.Omega.{arith}
use borrow.Author.Tests.{eqb-true, lt-ltb}
use lib.Dec.{eqb, ltb}
use lib.ListN.{get_or, length}
use Rattle.texts.specs.Words.{word}
use Rattle.status_list.specs.Words.{all_digits, between, digit_of, is_status, pair_of, status_in}

-- digits, of which each says its place
abbrev pub Digits : List ℕ → Type 0
Digits ds = (n : ℕ) → n < 16 → digit_of (get_or ds n 0) ≡ n

-- a byte as two of these digits
abbrev pub hex_of : List ℕ → ℕ → List ℕ
hex_of ds b = get_or ds (b / 16) 0 ∷ get_or ds (b % 16) 0 ∷ []

-- each of these bytes says one more than the one before it, from i on
abbrev counts : ℕ → List ℕ → Bool
counts i [] = true
counts i (b ∷ ds) = eqb (digit_of b) i && counts (suc i) ds

counts-at : (i : ℕ) (ds : List ℕ) → counts i ds ≡ true → (n : ℕ) → n < length ds → digit_of (get_or ds n 0) ≡ i + n
counts-at i [] e n h = absurd (omega arith)
counts-at i (b ∷ ds) e n h = go (eqb (digit_of b) i) refl e n h (counts-at (suc i) ds)
  where
    go : (t : Bool) → eqb (digit_of b) i ≡ t → t && counts (suc i) ds ≡ true → (n : ℕ) → n < suc (length ds)
        → (counts (suc i) ds ≡ true → (k : ℕ) → k < length ds → digit_of (get_or ds k 0) ≡ suc i + k) → digit_of (get_or (b ∷ ds) n 0) ≡ i + n
    go true f g zero k ih = omega (arith, eqb-true (digit_of b) i f)
    go true f g (suc n) k ih = omega (arith, ih g n (omega arith))
    go false f g n k ih = absurd (false≢true g)

pub lower : Digits (word "0123456789abcdef")
unfolding digit_of between
lower n h = omega (arith, counts-at 0 (word "0123456789abcdef") refl n h)

pub upper : Digits (word "0123456789ABCDEF")
unfolding digit_of between
upper n h = omega (arith, counts-at 0 (word "0123456789ABCDEF") refl n h)

-- the digits of the high byte and of the low one may be of different cases
module _ (ds es : List ℕ) (D : Digits ds) (E : Digits es) (high low : ℕ) (h : high < 256) (l : low < 256) where
  abbrev written : List ℕ
  written = hex_of ds high ++ hex_of es low

  -- two digits, each below 16
  pair_read : (ds : List ℕ) → Digits ds → (b : ℕ) → b < 256 → pair_of (get_or ds (b / 16) 0) (get_or ds (b % 16) 0) ≡ b
  pair_read ds D b h = omega (arith, D (b / 16) (omega arith), D (b % 16) (omega arith))

  pub status-read : (is_status written ≡ true) × (status_in written ≡ high ∷ low ∷ [])
  unfolding all_digits
  status-read = (
    rw (
      digit ds D (high / 16) (omega arith),
      digit ds D (high % 16) (omega arith),
      digit es E (low / 16) (omega arith),
      digit es E (low % 16) (omega arith),
    ),
    ap₂ (λ (a b : ℕ). a ∷ b ∷ []) (pair_read ds D high h) (pair_read es E low l),
  )
    where
      digit : (ds : List ℕ) → Digits ds → (n : ℕ) → n < 16 → ltb (digit_of (get_or ds n 0)) 16 ≡ true
      digit ds D n k = lt-ltb (digit_of (get_or ds n 0)) 16 (omega (arith, D n k))
