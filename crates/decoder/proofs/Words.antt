-- A frame in words: a field that stands high byte first is some bits of the number that the frame's bytes make, so a shift and a cut read
-- it; and where each word lies under the word of masks, no byte has a stray bit. Assumes nothing.
use mathlib.Core.Path.{◌≡◌, refl, sym, ap, ap₂, ◌∙◌, subst}
use mathlib.Core.Logic.{⊎_elim}
use mathlib.Core.Bool.{Bool, true, false, cond, ◌&&◌}
use mathlib.Core.List.{List, [], ◌∷◌}
use Prim.Native.Nat.{ℕ, zero, suc, ◌+◌, ◌-◌, ◌*◌, ◌/◌, ◌%◌, ◌^◌, ◌≤◌, ◌<◌}
use native.Mathlib.Nat.{mod-one, div-one, mod-eq_of_lt, zero-add, add-zero, add-suc, add_comm, mul_assoc, add-mul-mod_self_right, lt_of_lt_of_le}
use native.Mathlib.Nat.{eq-or-lt_of_le, le_of_suc-le-suc, not-suc-le-zero}
use native.Mathlib.Omega.{arith}
use borrow.Author.Tests.{le-leb, lt-leb, lt-ltb, le-ltb, ne_eqb}
use lib.Pow.{pow_mono, pow-add, shl_lt, ones_lt, shr-shr, high, low, field, mod-pow-add, mod-mod-pow}
use lib.Bits.{bit_and, and_block, and_le_l, and_zero_l, or_lt}
use lib.Dec.{T, eqb, leb, ltb, leb→le}
use Rattle.frame.specs.declared.Field.{Field}
use Rattle.frame.specs.Field.{size, holds, rank, bits, mask, digit, read_to, read, sound, Sound}
use Rattle.frame.specs.Layout.{mask_of, sound_all}
use Rattle.frame.proofs.OneField.{le-or-lt, top, top-all}
use Rattle.frame.proofs.Fields.{both_left, both_right, sound-is}
use Rattle.table.specs.Number.{narrow_of}
use Rattle.decoder.specs.Words.{big_end, from, first_word, last_word, held_byte, in_word, reached}

-- ---- the number of some bytes

one_more : (k : ℕ) → 2 ^ (8 * suc k) ≡ 2 ^ (8 * k) * 256
one_more k = let e : 8 * suc k ≡ 8 * k + 8 = omega arith in ap (λ (n : ℕ). 2 ^ n) e ∙ pow-add 2 (8 * k) 8

-- cut in two
split : (b : ℕ → ℕ) (m k : ℕ) → big_end b (m + k) ≡ big_end b m * 2 ^ (8 * k) + big_end (from m b) k
unfolding big_end
split b m zero = ap (big_end b) (add-zero m) ∙ omega arith
split b m (suc k) =
    let x : ℕ = big_end b m in
    let e : x * 2 ^ (8 * suc k) ≡ x * 2 ^ (8 * k) * 256 = ap (λ (n : ℕ). x * n) (one_more k) ∙ sym (mul_assoc x (2 ^ (8 * k)) 256) in
    ap (big_end b) (add-suc m k) ∙ omega (arith, split b m k)

big_end-ext : (b c : ℕ → ℕ) (n : ℕ) → ((i : ℕ) → i < n → b i ≡ c i) → big_end b n ≡ big_end c n
unfolding big_end
big_end-ext b c zero h = refl
big_end-ext b c (suc n) h = ap₂ (λ (x y : ℕ). x * 256 + y) (big_end-ext b c n (λ i l. h i (omega arith))) (h n (omega arith))

pub from_start : (b : ℕ → ℕ) (n : ℕ) → big_end (from 0 b) n ≡ big_end b n
from_start b n = big_end-ext (from 0 b) b n (λ i l. ap b (zero-add i))

module _ (b : ℕ → ℕ) (small : (i : ℕ) → b i < 256) where
  pub big_end-lt : (n : ℕ) → big_end b n < 2 ^ (8 * n)
  unfolding big_end
  big_end-lt zero = omega arith
  big_end-lt (suc n) = omega (arith, one_more n, big_end-lt n, small n)

  -- the last k bytes dropped
  drop-bytes : (n k : ℕ) → big_end b (n + k) / 2 ^ (8 * k) ≡ big_end b n
  unfolding big_end
  drop-bytes n zero = div-one (big_end b (n + 0)) ∙ ap (big_end b) (add-zero n)
  drop-bytes n (suc k) =
      let e : 8 * suc k ≡ 8 + 8 * k = omega arith in
      ap₂ (λ (m s : ℕ). big_end b m / 2 ^ s) (add-suc n k) e
      ∙ sym (shr-shr (big_end b (n + k) * 256 + b (n + k)) 8 (8 * k))
      ∙ ap (λ (x : ℕ). x / 2 ^ (8 * k)) (high (big_end b (n + k)) 8 (small (n + k)))
      ∙ drop-bytes n k

module _ (b : ℕ → ℕ) (small : (i : ℕ) → b i < 256) (n : ℕ) where
  -- the last word is the number's low end
  last-is : big_end b n % 2 ^ 64 ≡ last_word n b
  unfolding last_word
  last-is = ⊎_elim whole short (le-or-lt 8 n)
    where
      whole : 8 ≤ n → big_end b n % 2 ^ 64 ≡ cond (leb 8 n) (big_end (from (n - 8) b) 8) (big_end b n)
      whole h =
          let e : n ≡ n - 8 + 8 = omega arith in
          ap (λ (k : ℕ). big_end b k % 2 ^ 64) e ∙ ap (λ (x : ℕ). x % 2 ^ 64) (split b (n - 8) 8)
          ∙ low (big_end b (n - 8)) 64 (big_end-lt (from (n - 8) b) (λ i. small (n - 8 + i)) 8) ∙ sym (simp (le-leb 8 n h))

      short : n < 8 → big_end b n % 2 ^ 64 ≡ cond (leb 8 n) (big_end (from (n - 8) b) 8) (big_end b n)
      short h =
          let l : 8 * n ≤ 64 = omega arith in
          mod-eq_of_lt (lt_of_lt_of_le (big_end-lt b small n) (pow_mono l)) ∙ sym (simp (lt-leb 8 n h))

  in-last : (s w : ℕ) → w + s ≤ 64 → big_end b n / 2 ^ s % 2 ^ w ≡ last_word n b / 2 ^ s % 2 ^ w
  in-last s w h =
      let e : 64 ≡ (64 - (w + s)) + (w + s) = omega arith in
      sym (field (big_end b n) w s)
      ∙ ap (λ (x : ℕ). x / 2 ^ s) (sym (mod-mod-pow (big_end b n) (64 - (w + s)) (w + s)) ∙ ap (λ (k : ℕ). big_end b n % 2 ^ k % 2 ^ (w + s)) (sym e))
      ∙ field (big_end b n % 2 ^ 64) w s ∙ ap (λ (x : ℕ). x / 2 ^ s % 2 ^ w) last-is

-- ---- a field

-- the bits within the last byte are that byte's
last_byte : (x y m lo : ℕ) → m + lo ≤ 8 → (x * 256 + y) / 2 ^ lo % 2 ^ m ≡ y / 2 ^ lo % 2 ^ m
last_byte x y m lo h =
    let t : ℕ = m + lo in
    let e : 8 ≡ (8 - t) + t = omega arith in
    sym (field (x * 256 + y) m lo)
    ∙ ap (λ (z : ℕ). z / 2 ^ lo)
    (ap (λ (z : ℕ). z % 2 ^ t) (add_comm (x * 256) y ∙ ap (λ (z : ℕ). y + x * z) (ap (λ (k : ℕ). 2 ^ k) e ∙ pow-add 2 (8 - t) t)
    ∙ ap (λ (z : ℕ). y + z) (sym (mul_assoc x (2 ^ (8 - t)) (2 ^ t))))
    ∙ add-mul-mod_self_right y (x * 2 ^ (8 - t)) (2 ^ t))
    ∙ field y m lo

module _ (m : ℕ) (f : Field) (s : Sound m f) (high-first : f.le ≡ false) (b : ℕ → ℕ) (small : (i : ℕ) → b i < 256) where
  -- the number of the bytes up to the field's last, without the bits below the field
  abbrev v : ℕ
  v = big_end b (f.first + size f) / 2 ^ f.lo

  digit-is : (k : ℕ) → k < size f → digit f b k ≡ v / 2 ^ (8 * k) % 2 ^ bits f k
  unfolding big_end
  digit-is k h =
      let p : ℕ = f.first + size f - 1 - k in
      let e : f.first + size f ≡ suc p + k = omega arith in
      let q : f.lo + 8 * k ≡ 8 * k + f.lo = omega arith in
      let w : bits f k + f.lo ≤ 8 = omega (arith, s.within) in
      ap (λ (t : Bool). b (cond t (f.first + k) p) / 2 ^ f.lo % 2 ^ bits f k) high-first
      ∙ sym (last_byte (big_end b p) (b p) (bits f k) f.lo w)
      ∙ ap (λ (x : ℕ). x / 2 ^ f.lo % 2 ^ bits f k) (sym (drop-bytes b small (suc p) k) ∙ ap (λ (n : ℕ). big_end b n / 2 ^ (8 * k)) (sym e))
      ∙ ap (λ (x : ℕ). x % 2 ^ bits f k)
      (shr-shr (big_end b (f.first + size f)) (8 * k) f.lo ∙ ap (λ (n : ℕ). big_end b (f.first + size f) / 2 ^ n) (sym q)
      ∙ sym (shr-shr (big_end b (f.first + size f)) f.lo (8 * k)))

  read_to-is : (m : ℕ) → m ≤ size f → read_to f b m ≡ v % 2 ^ top f m
  unfolding read_to
  read_to-is zero l = let z : 0 ≡ top f 0 = omega arith in sym (mod-one v) ∙ ap (λ (x : ℕ). v % 2 ^ x) z
  read_to-is (suc m) l =
      let t : top f m ≡ 8 * m = omega arith in
      let u : bits f m + 8 * m ≡ top f (suc m) = omega arith in
      ap₂ (λ (x y : ℕ). x + y * 2 ^ (8 * m)) (read_to-is m (omega arith) ∙ ap (λ (x : ℕ). v % 2 ^ x) t) (digit-is m l)
      ∙ add_comm (v % 2 ^ (8 * m)) (v / 2 ^ (8 * m) % 2 ^ bits f m * 2 ^ (8 * m)) ∙ sym (mod-pow-add v (bits f m) (8 * m)) ∙ ap (λ (x : ℕ). v % 2 ^ x) u

  -- what the field reads, of the number of the n bytes that it lies in
  read-shift : (n : ℕ) → f.first + size f ≤ n → read f b ≡ big_end b n / 2 ^ (8 * (n - (f.first + size f)) + f.lo) % 2 ^ f.w
  unfolding read
  read-shift n h =
      let c : ℕ = n - (f.first + size f) in
      let e : n ≡ f.first + size f + c = omega arith in
      read_to-is (size f) (omega arith) ∙ ap (λ (x : ℕ). v % 2 ^ x) (top-all f)
      ∙ ap (λ (x : ℕ). x / 2 ^ f.lo % 2 ^ f.w) (sym (drop-bytes b small (f.first + size f) c) ∙ ap (λ (k : ℕ). big_end b k / 2 ^ (8 * c)) (sym e))
      ∙ ap (λ (x : ℕ). x % 2 ^ f.w) (shr-shr (big_end b n) (8 * c) f.lo)

  pub read-last : (n : ℕ) → f.first + size f ≤ n → 8 * (n - (f.first + size f)) + f.lo + f.w ≤ 64
      → read f b ≡ last_word n b / 2 ^ (8 * (n - (f.first + size f)) + f.lo) % 2 ^ f.w
  read-last n h l = read-shift n h ∙ in-last b small n (8 * (n - (f.first + size f)) + f.lo) f.w (omega arith)

  pub read_first : (n : ℕ) → f.first + size f ≤ 8 → 8 < n → read f b ≡ first_word n b / 2 ^ (8 * (8 - (f.first + size f)) + f.lo) % 2 ^ f.w
  unfolding first_word
  read_first n h l = read-shift 8 h ∙ sym (simp (lt-ltb 8 n l))

-- no bits
pub read_none : (f : Field) (b : ℕ → ℕ) → f.w ≡ 0 → 0 ≡ read f b
unfolding read read_to
read_none f b e = let n : size f ≡ 0 = omega arith in sym (ap (read_to f b) n)

-- ---- a field that a word reaches

module _ (n c : ℕ) (f : Field) (e : f ≡ narrow_of c) (t : T (reached n c)) where
  abbrev rest : Field → Bool
  rest g = cond (leb 64 g.w) true (cond (eqb g.w 0) true (cond g.le false (in_word n g)))

  sizes : T (leb n 12 && sound n f)
  unfolding reached
  sizes = both_left (leb n 12 && sound n f) (rest f) (subst (λ (g : Field). T ((leb n 12 && sound n g) && rest g)) (sym e) t)

  pub reached-most : n ≤ 12
  reached-most = leb→le n 12 (both_left (leb n 12) (sound n f) sizes)

  pub reached-sound : Sound n f
  reached-sound = sound-is n f (both_right (leb n 12) (sound n f) sizes)

  narrow : 0 < f.w → f.w < 64 → T (cond f.le false (in_word n f))
  unfolding reached
  narrow p l =
      let u : T (rest f) = both_right (leb n 12 && sound n f) (rest f) (subst (λ (g : Field). T ((leb n 12 && sound n g) && rest g)) (sym e) t) in
      let d : f.w ≡ 0 → ⊥ = (λ z. omega arith) in
      let q : rest f ≡ cond f.le false (in_word n f) = simp (lt-leb 64 f.w l, ne_eqb f.w 0 d) in
      subst T q u

  pub reached-high : 0 < f.w → f.w < 64 → f.le ≡ false
  reached-high p l = go f.le (narrow p l)
    where
      go : (b : Bool) → T (cond b false (in_word n f)) → b ≡ false
      go true u = absurd u
      go false u = refl

  pub reached-first : 0 < f.w → f.w < 64 → 64 < 8 * (n - (f.first + size f)) + f.lo + f.w → (8 < n) × (f.first + size f ≤ 8)
  reached-first p l h =
      let u : T (in_word n f) = subst (λ (b : Bool). T (cond b false (in_word n f))) (reached-high p l) (narrow p l) in
      let q : in_word n f ≡ (leb 9 n && leb (f.first + size f) 8) = simp (lt-leb (8 * (n - (f.first + size f)) + f.lo + f.w) 64 h) in
      let v : T (leb 9 n && leb (f.first + size f) 8) = subst T q u in
      (leb→le 9 n (both_left (leb 9 n) (leb (f.first + size f) 8) v), leb→le _ 8 (both_right (leb 9 n) (leb (f.first + size f) 8) v))

-- ---- a byte of a word

module _ (b : ℕ → ℕ) (small : (i : ℕ) → b i < 256) where
  byte_of : (n i : ℕ) → i < n → big_end b n / 2 ^ (8 * (n - 1 - i)) % 256 ≡ b i
  unfolding big_end
  byte_of n i h =
      let e : n ≡ suc i + (n - 1 - i) = omega arith in
      ap (λ (k : ℕ). big_end b k / 2 ^ (8 * (n - 1 - i)) % 256) e
      ∙ ap (λ (x : ℕ). x % 256) (drop-bytes b small (suc i) (n - 1 - i)) ∙ low (big_end b i) 8 (small i)

  pub held-byte : (n i : ℕ) → i < n → n ≤ 12 → held_byte (first_word n b ∷ last_word n b ∷ []) n i ≡ b i
  unfolding held_byte first_word
  held-byte n i h l = ⊎_elim back front (le-or-lt n (i + 8))
    where
      back : n ≤ i + 8 → cond (ltb (i + 8) n) (first_word n b / 2 ^ (8 * (7 - i)) % 256) (last_word n b / 2 ^ (8 * (n - 1 - i)) % 256) ≡ b i
      back k = simp (le-ltb (i + 8) n k) (sym (in-last b small n (8 * (n - 1 - i)) 8 (omega arith)) ∙ byte_of n i h)

      front : i + 8 < n → cond (ltb (i + 8) n) (first_word n b / 2 ^ (8 * (7 - i)) % 256) (last_word n b / 2 ^ (8 * (n - 1 - i)) % 256) ≡ b i
      front k = let g : 8 < n = omega arith in simp (lt-ltb (i + 8) n k, lt-ltb 8 n g) (byte_of 8 i (omega arith))

-- ---- stray bits

module _ (b m : ℕ → ℕ) (small : (i : ℕ) → b i < 256) (masks : (i : ℕ) → m i < 256) where
  and-words : (n : ℕ) → bit_and (big_end b n) (big_end m n) ≡ big_end (λ i. bit_and (b i) (m i)) n
  unfolding big_end
  and-words zero = refl
  and-words (suc n) = and_block 8 (big_end b n) (big_end m n) (b n) (m n) (small n) (masks n) ∙ ap (λ (x : ℕ). x * 256 + bit_and (b n) (m n)) (and-words n)

same_bytes : (b c : ℕ → ℕ) → ((i : ℕ) → b i < 256) → ((i : ℕ) → c i < 256) → (n : ℕ) → big_end b n ≡ big_end c n → (i : ℕ) → i < n → b i ≡ c i
unfolding big_end
same_bytes b c p q zero e i h = absurd (not-suc-le-zero h)
same_bytes b c p q (suc n) e i h =
    let x : b n ≡ c n = omega (arith, p n, q n) in
    let y : big_end b n ≡ big_end c n = omega (arith, p n, q n) in
    ⊎_elim (λ j. subst (λ (k : ℕ). b k ≡ c k) (sym j) x) (λ j. same_bytes b c p q n y i j) (eq-or-lt_of_le (le_of_suc-le-suc h))

under-mask : (b m : ℕ → ℕ) → ((i : ℕ) → b i < 256) → ((i : ℕ) → m i < 256) → (n : ℕ) → bit_and (big_end b n) (big_end m n) ≡ big_end b n
    → (i : ℕ) → i < n → bit_and (b i) (m i) ≡ b i
under-mask b m p q n e i h =
    same_bytes (λ k. bit_and (b k) (m k)) b (λ k. omega (arith, and_le_l (b k) (m k), p k)) p n (sym (and-words b m p q n) ∙ e) i h

module _ (b m : ℕ → ℕ) (small : (i : ℕ) → b i < 256) (masks : (i : ℕ) → m i < 256) (n : ℕ) (short : n ≤ 16) where
  pub clean-words : bit_and (first_word n b) (first_word n m) ≡ first_word n b → bit_and (last_word n b) (last_word n m) ≡ last_word n b
      → (i : ℕ) → i < n → bit_and (b i) (m i) ≡ b i
  unfolding first_word last_word
  clean-words e l i h = ⊎_elim wide all (le-or-lt 8 n)
    where
      all : n < 8 → bit_and (b i) (m i) ≡ b i
      all k = under-mask b m small masks n (simp (lt-leb 8 n k) at l) i h

      wide : 8 ≤ n → bit_and (b i) (m i) ≡ b i
      wide k = ⊎_elim back front (le-or-lt (n - 8) i)
        where
          back : n - 8 ≤ i → bit_and (b i) (m i) ≡ b i
          back j =
              let q : n - 8 + (i - (n - 8)) ≡ i = omega arith in
              subst (λ (x : ℕ). bit_and (b x) (m x) ≡ b x) q
              (under-mask (from (n - 8) b) (from (n - 8) m) (λ x. small (n - 8 + x)) (λ x. masks (n - 8 + x)) 8 (simp (le-leb 8 n k) at l) (i - (n - 8))
              (omega arith))

          front : i < n - 8 → bit_and (b i) (m i) ≡ b i
          front j = let g : 8 < n = omega arith in under-mask b m small masks 8 (simp (lt-ltb 8 n g) at e) i (omega arith)

  -- and the other way round
  module _ (clean : (i : ℕ) → i < n → bit_and (b i) (m i) ≡ b i) where
    pub clean-first : bit_and (first_word n b) (first_word n m) ≡ first_word n b
    unfolding first_word
    clean-first = ⊎_elim
        (λ l. simp (le-ltb 8 n l) (and_zero_l 0))
        (λ l. simp (lt-ltb 8 n l) (and-words b m small masks 8 ∙ big_end-ext (λ i. bit_and (b i) (m i)) b 8 (λ i h. clean i (omega arith)))) (le-or-lt n 8)

    pub clean-last : bit_and (last_word n b) (last_word n m) ≡ last_word n b
    unfolding last_word
    clean-last = ⊎_elim
        (λ l. simp (le-leb 8 n l) (and-words (from (n - 8) b) (from (n - 8) m) (λ i. small (n - 8 + i)) (λ i. masks (n - 8 + i)) 8
        ∙ big_end-ext (λ i. bit_and (b (n - 8 + i)) (m (n - 8 + i))) (from (n - 8) b) 8 (λ i h. clean (n - 8 + i) (omega arith))))
        (λ l. simp (lt-leb 8 n l) (and-words b m small masks n ∙ big_end-ext (λ i. bit_and (b i) (m i)) b n clean)) (le-or-lt 8 n)

-- a mask is a byte
mask_lt : (n : ℕ) (f : Field) (i : ℕ) → Sound n f → mask f i < 256
unfolding mask
mask_lt n f i s = go (holds f i)
  where
    k : ℕ
    k = bits f (rank f i)

    go : (t : Bool) → cond t ((2 ^ k - 1) * 2 ^ f.lo) 0 < 256
    go true = let l : k + f.lo ≤ 8 = omega (arith, s.within) in lt_of_lt_of_le (shl_lt k f.lo (ones_lt k)) (pow_mono l)
    go false = omega arith

pub masks-lt : (n : ℕ) (fs : List Field) (i : ℕ) → T (sound_all n fs) → mask_of fs i < 256
unfolding sound_all mask_of
masks-lt n [] i t = omega arith
masks-lt n (f ∷ fs) i t =
    or_lt 8 (mask f i) (mask_of fs i) (mask_lt n f i (sound-is n f (both_left (sound n f) (sound_all n fs) t)))
    (masks-lt n fs i (both_right (sound n f) (sound_all n fs) t))
