-- The laws of one field: where its bytes stand, that what was put is read, that a field apart is not disturbed, and that what was
-- read, put back, is the bits under the field's mask. Over every position and width. Assumes nothing.
use mathlib.Core.Path.{◌≡◌, refl, sym, ap, ap₂, ◌∙◌, subst}
use mathlib.Core.Logic.{◌⊎◌, inl, inr, ⊎_elim}
use mathlib.Core.Bool.{Bool, true, false, cond, ◌&&◌}
use Prim.Native.Nat.{ℕ, zero, suc, ◌+◌, ◌-◌, ◌*◌, ◌/◌, ◌%◌, ◌^◌, ◌≤◌, ◌<◌, zero-le, suc-le-suc, min}
use native.Mathlib.Nat.{mod-lt, mod-eq_of_lt, mod-one, add_comm, mul_assoc, add-mul-mod_self_right, eq-or-lt_of_le, le_of_suc-le-suc, not-suc-le-zero}
use native.Mathlib.Omega.{arith}
use lib.Arith.{digits_lt}
use lib.Pow.{pow_pos, pow-add, shl-shr, high, field, mod-pow-add}
use lib.Bits.{bit_and, bit_or, or_shr, or_mod, or_zero_r, and_zero_r}
use lib.Dec.{leb, ltb}
use borrow.Author.Tests.{le-leb, lt-leb, lt-ltb, le-ltb}
use Rattle.frame.specs.declared.Field.{Field}
use Rattle.frame.specs.Field.{size, holds, rank, place, bits, part, mask, digit, read_to, read}
use Rattle.frame.proofs.Bits.{and_assoc, under, shifted-zero}

pub le-or-lt : (a b : ℕ) → a ≤ b ⊎ b < a
le-or-lt zero b = inl zero-le
le-or-lt (suc a) zero = inr (suc-le-suc zero-le)
le-or-lt (suc a) (suc b) = ⊎_elim (λ h. inl (suc-le-suc h)) (λ h. inr (suc-le-suc h)) (le-or-lt a b)

and-false : (t : Bool) → (t && false) ≡ false
and-false true = refl
and-false false = refl

module _ (f : Field) where
  pub holds-in : (i : ℕ) → f.first ≤ i → i < f.first + size f → holds f i ≡ true
  holds-in i a b = ap₂ ◌&&◌ (le-leb _ _ a) (lt-ltb _ _ b)

  pub holds-low : (i : ℕ) → i < f.first → holds f i ≡ false
  holds-low i a = ap (λ (t : Bool). t && ltb i (f.first + size f)) (lt-leb _ _ a)

  pub holds-high : (i : ℕ) → f.first + size f ≤ i → holds f i ≡ false
  holds-high i a = ap (λ (t : Bool). leb f.first i && t) (le-ltb _ _ a) ∙ and-false (leb f.first i)

  pub place-low : (k : ℕ) → k < size f → f.first ≤ place f k
  place-low k h = go f.le
    where
      go : (t : Bool) → f.first ≤ cond t (f.first + k) (f.first + size f - 1 - k)
      go true = omega arith
      go false = omega arith

  pub place-high : (k : ℕ) → k < size f → place f k < f.first + size f
  place-high k h = go f.le
    where
      go : (t : Bool) → cond t (f.first + k) (f.first + size f - 1 - k) < f.first + size f
      go true = omega arith
      go false = omega arith

  pub rank-place : (k : ℕ) → k < size f → rank f (place f k) ≡ k
  rank-place k h = go f.le
    where
      go : (t : Bool) → cond t (cond t (f.first + k) (f.first + size f - 1 - k) - f.first) (f.first + size f - 1 - cond t (f.first + k) (f.first + size f - 1 - k)) ≡ k
      go true = omega arith
      go false = omega arith

  pub place-rank : (i : ℕ) → f.first ≤ i → i < f.first + size f → place f (rank f i) ≡ i
  place-rank i a b = go f.le
    where
      go : (t : Bool) → cond t (f.first + cond t (i - f.first) (f.first + size f - 1 - i)) (f.first + size f - 1 - cond t (i - f.first) (f.first + size f - 1 - i)) ≡ i
      go true = omega arith
      go false = omega arith

  pub rank_lt : (i : ℕ) → f.first ≤ i → i < f.first + size f → rank f i < size f
  rank_lt i a b = go f.le
    where
      go : (t : Bool) → cond t (i - f.first) (f.first + size f - 1 - i) < size f
      go true = omega arith
      go false = omega arith

  pub part_in : (v i : ℕ) → f.first ≤ i → i < f.first + size f → part f v i ≡ v / 2 ^ (8 * rank f i) % 2 ^ bits f (rank f i) * 2 ^ f.lo
  unfolding part
  part_in v i a b = ap (λ (t : Bool). cond t (v / 2 ^ (8 * rank f i) % 2 ^ bits f (rank f i) * 2 ^ f.lo) 0) (holds-in i a b)

  pub part_low : (v i : ℕ) → i < f.first → part f v i ≡ 0
  unfolding part
  part_low v i a = ap (λ (t : Bool). cond t (v / 2 ^ (8 * rank f i) % 2 ^ bits f (rank f i) * 2 ^ f.lo) 0) (holds-low i a)

  pub part-high : (v i : ℕ) → f.first + size f ≤ i → part f v i ≡ 0
  unfolding part
  part-high v i a = ap (λ (t : Bool). cond t (v / 2 ^ (8 * rank f i) % 2 ^ bits f (rank f i) * 2 ^ f.lo) 0) (holds-high i a)

  mask-in : (i : ℕ) → f.first ≤ i → i < f.first + size f → mask f i ≡ (2 ^ bits f (rank f i) - 1) * 2 ^ f.lo
  unfolding mask
  mask-in i a b = ap (λ (t : Bool). cond t ((2 ^ bits f (rank f i) - 1) * 2 ^ f.lo) 0) (holds-in i a b)

  mask-out : (i : ℕ) → holds f i ≡ false → mask f i ≡ 0
  unfolding mask
  mask-out i e = ap (λ (t : Bool). cond t ((2 ^ bits f (rank f i) - 1) * 2 ^ f.lo) 0) e

  mask-place : (k : ℕ) → k < size f → mask f (place f k) ≡ (2 ^ bits f k - 1) * 2 ^ f.lo
  mask-place k h = mask-in (place f k) (place-low k h) (place-high k h) ∙ ap (λ (d : ℕ). (2 ^ bits f d - 1) * 2 ^ f.lo) (rank-place k h)

  -- ---- what was put is read

  digit-own : (v k : ℕ) → k < size f → digit f (part f v) k ≡ v / 2 ^ (8 * k) % 2 ^ bits f k
  digit-own v k h =
      ap (λ (x : ℕ). x / 2 ^ f.lo % 2 ^ bits f k)
      (part_in v (place f k) (place-low k h) (place-high k h) ∙ ap (λ (d : ℕ). v / 2 ^ (8 * d) % 2 ^ bits f d * 2 ^ f.lo) (rank-place k h))
      ∙ ap (λ (x : ℕ). x % 2 ^ bits f k) (shl-shr (v / 2 ^ (8 * k) % 2 ^ bits f k) f.lo)
      ∙ mod-eq_of_lt (mod-lt (v / 2 ^ (8 * k)) (pow_pos (bits f k)))

  digit_or : (b c : ℕ → ℕ) (k : ℕ) → digit f (λ i. bit_or (b i) (c i)) k ≡ bit_or (digit f b k) (digit f c k)
  digit_or b c k =
      ap (λ (x : ℕ). x % 2 ^ bits f k) (or_shr (b (place f k)) (c (place f k)) f.lo)
      ∙ or_mod (b (place f k) / 2 ^ f.lo) (c (place f k) / 2 ^ f.lo) (bits f k)

  pub read_to-ext : (b c : ℕ → ℕ) (m : ℕ) → ((k : ℕ) → k < m → digit f b k ≡ digit f c k) → read_to f b m ≡ read_to f c m
  unfolding read_to
  read_to-ext b c zero h = refl
  read_to-ext b c (suc m) h =
      ap₂ (λ (x y : ℕ). x + y * 2 ^ (8 * m)) (read_to-ext b c m (λ k l. h k (omega arith))) (h m (omega arith))

  -- the low m bytes of the value are its bits up to this
  abbrev pub top : ℕ → ℕ
  top m = min (8 * m) f.w

  top-suc : (m : ℕ) → m < size f → bits f m + 8 * m ≡ top (suc m)
  top-suc m h = omega arith

  top_in : (m : ℕ) → m < size f → top m ≡ 8 * m
  top_in m h = omega arith

  pub top-all : top (size f) ≡ f.w
  top-all = omega arith

  read_to-digits : (b : ℕ → ℕ) (v m : ℕ) → m ≤ size f → ((k : ℕ) → k < m → digit f b k ≡ v / 2 ^ (8 * k) % 2 ^ bits f k) → read_to f b m ≡ v % 2 ^ top m
  unfolding read_to
  read_to-digits b v zero l h = let z : 0 ≡ top 0 = omega arith in sym (mod-one v) ∙ ap (λ (x : ℕ). v % 2 ^ x) z
  read_to-digits b v (suc m) l h =
      ap₂ (λ (x y : ℕ). x + y * 2 ^ (8 * m)) (read_to-digits b v m (omega arith) (λ k j. h k (omega arith)) ∙ ap (λ (x : ℕ). v % 2 ^ x) (top_in m l)) (h m (omega arith))
      ∙ add_comm _ _ ∙ sym (mod-pow-add v (bits f m) (8 * m)) ∙ ap (λ (x : ℕ). v % 2 ^ x) (top-suc m l)

  pub read-own : (v : ℕ) (c : ℕ → ℕ) → ((k : ℕ) → k < size f → digit f c k ≡ 0) → read f (λ i. bit_or (part f v i) (c i)) ≡ v % 2 ^ f.w
  unfolding read
  read-own v c h =
      read_to-digits (λ i. bit_or (part f v i) (c i)) v (size f) (omega arith)
      (λ k l. digit_or (part f v) c k ∙ ap₂ bit_or (digit-own v k l) (h k l) ∙ or_zero_r _)
      ∙ ap (λ (x : ℕ). v % 2 ^ x) top-all

  -- ---- masks

  -- a byte of the field, at its place, is what lies under the mask
  digit-under : (b : ℕ → ℕ) (k : ℕ) → k < size f → digit f b k * 2 ^ f.lo ≡ bit_and (b (place f k)) (mask f (place f k))
  digit-under b k h = under (b (place f k)) (bits f k) f.lo ∙ ap (bit_and (b (place f k))) (sym (mask-place k h))

  -- a field puts nothing outside its mask
  part-under : (v i : ℕ) → part f v i ≡ bit_and (v / 2 ^ (8 * rank f i) * 2 ^ f.lo) (mask f i)
  unfolding part mask
  part-under v i = go (holds f i)
    where
      q : ℕ
      q = v / 2 ^ (8 * rank f i)

      go : (t : Bool) → cond t (q % 2 ^ bits f (rank f i) * 2 ^ f.lo) 0 ≡ bit_and (q * 2 ^ f.lo) (cond t ((2 ^ bits f (rank f i) - 1) * 2 ^ f.lo) 0)
      go true = ap (λ (x : ℕ). x % 2 ^ bits f (rank f i) * 2 ^ f.lo) (sym (shl-shr q f.lo)) ∙ under (q * 2 ^ f.lo) (bits f (rank f i)) f.lo
      go false = sym (and_zero_r (q * 2 ^ f.lo))

  -- ---- what was read, put back

  digit_lt : (b : ℕ → ℕ) (k : ℕ) → digit f b k < 2 ^ bits f k
  digit_lt b k = mod-lt _ (pow_pos (bits f k))

  pub read_to-lt : (b : ℕ → ℕ) (m : ℕ) → m ≤ size f → read_to f b m < 2 ^ top m
  unfolding read_to
  read_to-lt b zero l = pow_pos (top 0)
  read_to-lt b (suc m) l =
      subst (λ (x : ℕ). read_to f b m + digit f b m * 2 ^ (8 * m) < x) (sym (pow-add 2 (bits f m) (8 * m)) ∙ ap (λ (x : ℕ). 2 ^ x) (top-suc m l))
      (subst (λ (x : ℕ). x < 2 ^ bits f m * 2 ^ (8 * m)) (add_comm _ _)
      (digits_lt (digit_lt b m) (subst (λ (x : ℕ). read_to f b m < 2 ^ x) (top_in m l) (read_to-lt b m (omega arith)))))

  pub read-lt : (b : ℕ → ℕ) → read f b < 2 ^ f.w
  unfolding read
  read-lt b = subst (λ (x : ℕ). read_to f b (size f) < 2 ^ x) top-all (read_to-lt b (size f) (omega arith))

  read_to-digit : (b : ℕ → ℕ) (m k : ℕ) → m ≤ size f → k < m → read_to f b m / 2 ^ (8 * k) % 2 ^ bits f k ≡ digit f b k
  unfolding read_to
  read_to-digit b zero k l h = absurd (not-suc-le-zero h)
  read_to-digit b (suc m) k l h = ⊎_elim last (λ j. more j (read_to-digit b m k (omega arith) j)) (eq-or-lt_of_le (le_of_suc-le-suc h))
    where
      s : ℕ
      s = read_to f b m

      d : ℕ
      d = digit f b m

      last : k ≡ m → (s + d * 2 ^ (8 * m)) / 2 ^ (8 * k) % 2 ^ bits f k ≡ digit f b k
      last e =
          ap (λ (j : ℕ). (s + d * 2 ^ (8 * m)) / 2 ^ (8 * j) % 2 ^ bits f j) e
          ∙ ap (λ (x : ℕ). x / 2 ^ (8 * m) % 2 ^ bits f m) (add_comm s (d * 2 ^ (8 * m)))
          ∙ ap (λ (x : ℕ). x % 2 ^ bits f m) (high d (8 * m) (subst (λ (x : ℕ). s < 2 ^ x) (top_in m l) (read_to-lt b m (omega arith))))
          ∙ mod-eq_of_lt (digit_lt b m) ∙ sym (ap (digit f b) e)

      r : ℕ
      r = bits f k + 8 * k

      more : k < m → s / 2 ^ (8 * k) % 2 ^ bits f k ≡ digit f b k → (s + d * 2 ^ (8 * m)) / 2 ^ (8 * k) % 2 ^ bits f k ≡ digit f b k
      more j ih =
          let e : 8 * m ≡ (8 * m - r) + r = omega arith in
          sym (field (s + d * 2 ^ (8 * m)) (bits f k) (8 * k))
          ∙ ap (λ (x : ℕ). (s + d * x) % 2 ^ r / 2 ^ (8 * k)) (ap (λ (x : ℕ). 2 ^ x) e ∙ pow-add 2 (8 * m - r) r)
          ∙ ap (λ (x : ℕ). (s + x) % 2 ^ r / 2 ^ (8 * k)) (sym (mul_assoc d (2 ^ (8 * m - r)) (2 ^ r)))
          ∙ ap (λ (x : ℕ). x / 2 ^ (8 * k)) (add-mul-mod_self_right s (d * 2 ^ (8 * m - r)) (2 ^ r))
          ∙ field s (bits f k) (8 * k)
          ∙ ih

  pub part-read : (b : ℕ → ℕ) (i : ℕ) → part f (read f b) i ≡ bit_and (b i) (mask f i)
  unfolding read
  part-read b i =
      ⊎_elim
      (λ a. ⊎_elim (λ z. out (holds-high i z) (part-high n i z)) (inside a) (le-or-lt (f.first + size f) i))
      (λ a. out (holds-low i a) (part_low n i a)) (le-or-lt f.first i)
    where
      n : ℕ
      n = read_to f b (size f)

      out : holds f i ≡ false → part f n i ≡ 0 → part f n i ≡ bit_and (b i) (mask f i)
      out h e = e ∙ sym (and_zero_r (b i)) ∙ ap (bit_and (b i)) (sym (mask-out i h))

      inside : f.first ≤ i → i < f.first + size f → part f n i ≡ bit_and (b i) (mask f i)
      inside x y =
          part_in n i x y
          ∙ ap (λ (q : ℕ). q * 2 ^ f.lo) (read_to-digit b (size f) (rank f i) (omega arith) (rank_lt i x y))
          ∙ digit-under b (rank f i) (rank_lt i x y)
          ∙ ap (λ (p : ℕ). bit_and (b p) (mask f p)) (place-rank i x y)

-- ---- a field apart

-- where the masks do not meet, what f puts is not read as g
pub digit-other : (f g : Field) (v k : ℕ) → k < size g → bit_and (mask f (place g k)) (mask g (place g k)) ≡ 0 → digit g (part f v) k ≡ 0
digit-other f g v k h e =
    shifted-zero (digit g (part f v) k) g.lo
    (digit-under g (part f v) k h
    ∙ ap (λ (x : ℕ). bit_and x (mask g p)) (part-under f v p)
    ∙ and_assoc (v / 2 ^ (8 * rank f p) * 2 ^ f.lo) (mask f p) (mask g p)
    ∙ ap (bit_and (v / 2 ^ (8 * rank f p) * 2 ^ f.lo)) e
    ∙ and_zero_r (v / 2 ^ (8 * rank f p) * 2 ^ f.lo))
  where
    p : ℕ
    p = place g k

pub read-other : (f g : Field) (v : ℕ) (c : ℕ → ℕ) → ((k : ℕ) → k < size g → bit_and (mask f (place g k)) (mask g (place g k)) ≡ 0)
    → read g (λ i. bit_or (part f v i) (c i)) ≡ read g c
unfolding read
read-other f g v c a =
    read_to-ext g (λ i. bit_or (part f v i) (c i)) c (size g)
    (λ k l. digit_or g (part f v) c k ∙ ap (λ (x : ℕ). bit_or x (digit g c k)) (digit-other f g v k l (a k l)))

-- where the masks do not meet and the rest has nothing there, neither has both
pub clear-more : (f g : Field) (v k : ℕ) (c : ℕ → ℕ) → k < size g → bit_and (mask f (place g k)) (mask g (place g k)) ≡ 0 → digit g c k ≡ 0
    → digit g (λ i. bit_or (part f v i) (c i)) k ≡ 0
clear-more f g v k c h a e = digit_or g (part f v) c k ∙ ap₂ bit_or (digit-other f g v k h a) e
