-- The laws of a list of fields: values come back from the frame that they give, and a frame from its values. By induction on the
-- list, for every layout that passes the test `layout`. Assumes nothing.
use mathlib.Core.Path.{◌≡◌, refl, sym, ap, ap₂, ◌∙◌, subst}
use mathlib.Core.Bool.{Bool, true, false, ◌&&◌}
use mathlib.Core.List.{List, [], ◌∷◌}
use Prim.Native.Nat.{ℕ, zero, suc, ◌+◌, ◌-◌, ◌*◌, ◌/◌, ◌%◌, ◌^◌, ◌≤◌, ◌<◌, min}
use native.Mathlib.Nat.{mod-eq_of_lt, zero-div, zero-mod, eq-or-lt_of_le, le_of_suc-le-suc, not-suc-le-zero, add-zero, zero-add, add-suc, suc-add, suc_inj, suc-ne-zero}
use mathlib.Core.Logic.{⊎_elim}
use native.Mathlib.Omega.{arith}
use lib.Pow.{field, mod-mod-pow}
use lib.Bits.{bit_and, bit_or, and_comm, and_zero_r}
use borrow.Author.Tests.{le-leb}
use lib.Dec.{T, leb, ltb, eqb, leb→le, ltb→lt, lt→ltb, eqb→eq}
use lib.ListN.{length, get_or, take}
use lib.Seq.{ext_get_or, get_or-take, length-take-le}
use Rattle.frame.specs.declared.Field.{Field}
use Rattle.frame.specs.Field.{size, rank, place, bits, part, mask, digit, read, sound, Sound}
use Rattle.frame.specs.Layout.{byte_of, mask_of, reads, cut, fitting, sound_all, apart, apart_all, disjoint, layout, bytes, tab, tab_from}
use Rattle.frame.proofs.Bits.{and-or}
use Rattle.frame.proofs.OneField.{le-or-lt, rank_lt, part_in, part_low, part-high, read-lt, place-high, read_to-ext, read-own, read-other, clear-more, part-read}

pub and_in : (a b : Bool) → T a → T b → T (a && b)
and_in true b s t = t
and_in false b s t = s

pub both_left : (a b : Bool) → T (a && b) → T a
both_left true b t = tt
both_left false b t = t

pub both_right : (a b : Bool) → T (a && b) → T b
both_right true b t = t
both_right false b t = absurd t

-- ---- the tests

pub sound-is : (len : ℕ) (f : Field) → T (sound len f) → Sound len f
unfolding sound
sound-is len f t = record {
  wide = leb→le _ _ (both_left (leb f.w 64) (leb (f.first + size f) len && leb (f.lo + min 8 f.w) 8) t);
  ends = leb→le _ _ (both_left (leb (f.first + size f) len) (leb (f.lo + min 8 f.w) 8) p);
  within = leb→le _ _ (both_right (leb (f.first + size f) len) (leb (f.lo + min 8 f.w) 8) p);
}
  where
    p : T (leb (f.first + size f) len && leb (f.lo + min 8 f.w) 8)
    p = both_right (leb f.w 64) (leb (f.first + size f) len && leb (f.lo + min 8 f.w) 8) t

-- the test is passed by what is sound
pub sound-holds : (len : ℕ) (f : Field) → Sound len f → sound len f ≡ true
unfolding sound
sound-holds len f s = simp (le-leb _ _ s.wide, le-leb _ _ s.ends, le-leb _ _ s.within)

-- what the code's test says
pub sound-told : (f : Field) {r : Bool} → r ≡ sound 16 f → r ≡ true → Sound 16 f
sound-told f e q = sound-is 16 f (subst T (sym q ∙ e) tt)

apart-at : (n : ℕ) (f g : Field) (i : ℕ) → T (apart n f g) → i < n → bit_and (mask f i) (mask g i) ≡ 0
unfolding apart
apart-at zero f g i t h = absurd (not-suc-le-zero h)
apart-at (suc n) f g i t h =
    ⊎_elim
    (λ e. subst (λ (j : ℕ). bit_and (mask f j) (mask g j) ≡ 0) (sym e) (eqb→eq _ _ (both_left (eqb (bit_and (mask f n) (mask g n)) 0) (apart n f g) t)))
    (λ l. apart-at n f g i (both_right (eqb (bit_and (mask f n) (mask g n)) 0) (apart n f g) t) l)
    (eq-or-lt_of_le (le_of_suc-le-suc h))

-- ---- values to frame to values

module _ (len : ℕ) where
  clear : (g : Field) (fs : List Field) (vs : List ℕ) (k : ℕ) → Sound len g → k < size g → T (apart_all len g fs) → digit g (byte_of fs vs) k ≡ 0
  unfolding apart_all byte_of
  clear g [] vs k s h t = ap (λ (x : ℕ). x % 2 ^ bits g k) (zero-div (2 ^ g.lo)) ∙ zero-mod (2 ^ bits g k)
  clear g (f ∷ fs) [] k s h t = ap (λ (x : ℕ). x % 2 ^ bits g k) (zero-div (2 ^ g.lo)) ∙ zero-mod (2 ^ bits g k)
  clear g (f ∷ fs) (v ∷ vs) k s h t =
      clear-more f g v k (byte_of fs vs) h
      (and_comm (mask f (place g k)) (mask g (place g k)) ∙ apart-at len g f (place g k) (both_left (apart len g f) (apart_all len g fs) t) (omega (arith, place-high g k h, s.ends)))
      (clear g fs vs k s h (both_right (apart len g f) (apart_all len g fs) t))

  reads_other : (f : Field) (fs : List Field) (v : ℕ) (c : ℕ → ℕ) → T (sound_all len fs) → T (apart_all len f fs) → reads fs (λ i. bit_or (part f v i) (c i)) ≡ reads fs c
  unfolding sound_all apart_all reads
  reads_other f [] v c s t = refl
  reads_other f (g ∷ fs) v c s t =
      let sg : Sound len g = sound-is len g (both_left (sound len g) (sound_all len fs) s) in
      ap₂ (λ (x : ℕ) (xs : List ℕ). x ∷ xs)
      (read-other f g v c (λ k h. apart-at len f g (place g k) (both_left (apart len f g) (apart_all len f fs) t) (omega (arith, place-high g k h, sg.ends))))
      (reads_other f fs v c (both_right (sound len g) (sound_all len fs) s) (both_right (apart len f g) (apart_all len f fs) t))

  readback : (fs : List Field) (vs : List ℕ) → length vs ≡ length fs → T (sound_all len fs) → T (disjoint len fs) → reads fs (byte_of fs vs) ≡ cut fs vs
  unfolding sound_all disjoint reads byte_of cut
  readback [] vs e s t = refl
  readback (f ∷ fs) [] e s t = absurd (suc-ne-zero _ (sym e))
  readback (f ∷ fs) (v ∷ vs) e s t =
      let sf : Sound len f = sound-is len f (both_left (sound len f) (sound_all len fs) s) in
      let ss : T (sound_all len fs) = both_right (sound len f) (sound_all len fs) s in
      let away : T (apart_all len f fs) = both_left (apart_all len f fs) (disjoint len fs) t in
      ap₂ (λ (x : ℕ) (xs : List ℕ). x ∷ xs)
      (read-own f v (byte_of fs vs) (λ k l. clear f fs vs k sf l away))
      (reads_other f fs v (byte_of fs vs) ss away ∙ readback fs vs (suc_inj e) ss (both_right (apart_all len f fs) (disjoint len fs) t))

-- ---- lists of bytes

pub length-tab_from : (i n : ℕ) (b : ℕ → ℕ) → length (tab_from i n b) ≡ n
unfolding tab_from
length-tab_from i zero b = refl
length-tab_from i (suc n) b = ap suc (length-tab_from (suc i) n b)

get_d-tab_from : (i n : ℕ) (b : ℕ → ℕ) (k : ℕ) → k < n → get_or (tab_from i n b) k 0 ≡ b (i + k)
unfolding tab_from
get_d-tab_from i zero b k h = absurd (not-suc-le-zero h)
get_d-tab_from i (suc n) b zero h = ap b (sym (add-zero i))
get_d-tab_from i (suc n) b (suc k) h = get_d-tab_from (suc i) n b k (le_of_suc-le-suc h) ∙ ap b (suc-add i k ∙ sym (add-suc i k))

pub length-tab : (n : ℕ) (b : ℕ → ℕ) → length (tab n b) ≡ n
unfolding tab
length-tab n b = length-tab_from 0 n b

pub get_d-tab : (n : ℕ) (b : ℕ → ℕ) (k : ℕ) → k < n → get_or (tab n b) k 0 ≡ b k
unfolding tab
get_d-tab n b k h = get_d-tab_from 0 n b k h ∙ ap b (zero-add k)

pub is-tab : (n : ℕ) (b : ℕ → ℕ) (l : List ℕ) → length l ≡ n → ((k : ℕ) → k < n → get_or l k 0 ≡ b k) → l ≡ tab n b
is-tab n b l e h =
    ext_get_or 0 l (tab n b) (e ∙ sym (length-tab n b))
    (λ k lt. let lt' : k < n = omega arith in h k lt' ∙ sym (get_d-tab n b k lt'))

pub tab-ext : (n : ℕ) (b c : ℕ → ℕ) → ((i : ℕ) → i < n → b i ≡ c i) → tab n b ≡ tab n c
tab-ext n b c h = is-tab n c (tab n b) (length-tab n b) (λ k l. get_d-tab n b k l ∙ h k l)

-- what is read from bytes that agree below len is the same
pub reads-ext : (len : ℕ) (fs : List Field) (b c : ℕ → ℕ) → T (sound_all len fs) → ((i : ℕ) → i < len → b i ≡ c i) → reads fs b ≡ reads fs c
unfolding sound_all reads read
reads-ext len [] b c t h = refl
reads-ext len (f ∷ fs) b c t h =
    let s : Sound len f = sound-is len f (both_left (sound len f) (sound_all len fs) t) in
    ap₂ (λ (x : ℕ) (xs : List ℕ). x ∷ xs)
    (read_to-ext f b c (size f) (λ k l. ap (λ (x : ℕ). x / 2 ^ f.lo % 2 ^ bits f k) (h (place f k) (omega (arith, place-high f k l, s.ends)))))
    (reads-ext len fs b c (both_right (sound len f) (sound_all len fs) t) h)

-- ---- the two laws

-- the values come back from the frame that they give, each cut to its field
pub values-back : (len : ℕ) (fs : List Field) (vs : List ℕ) → T (layout len fs) → length vs ≡ length fs → reads fs (bytes (tab len (byte_of fs vs))) ≡ cut fs vs
values-back len fs vs t e =
    reads-ext len fs (bytes (tab len (byte_of fs vs))) (byte_of fs vs) (both_left (sound_all len fs) (disjoint len fs) t) (λ i h. get_d-tab len (byte_of fs vs) i h)
    ∙ readback len fs vs e (both_left (sound_all len fs) (disjoint len fs) t) (both_right (sound_all len fs) (disjoint len fs) t)

-- and whole where they fit
pub cut-fitting : (fs : List Field) (vs : List ℕ) → T (fitting fs vs) → cut fs vs ≡ vs
unfolding cut fitting
cut-fitting [] [] t = refl
cut-fitting [] (v ∷ vs) t = absurd t
cut-fitting (f ∷ fs) [] t = absurd t
cut-fitting (f ∷ fs) (v ∷ vs) t =
    ap₂ (λ (x : ℕ) (xs : List ℕ). x ∷ xs) (mod-eq_of_lt (ltb→lt _ _ (both_left (ltb v (2 ^ f.w)) (fitting fs vs) t)))
    (cut-fitting fs vs (both_right (ltb v (2 ^ f.w)) (fitting fs vs) t))

-- packing what was read gives the bits that the fields hold, for any fields
pub repack : (fs : List Field) (b : ℕ → ℕ) (i : ℕ) → byte_of fs (reads fs b) i ≡ bit_and (b i) (mask_of fs i)
unfolding byte_of reads mask_of
repack [] b i = sym (and_zero_r (b i))
repack (f ∷ fs) b i =
    ap₂ bit_or (part-read f b i) (repack fs b i) ∙ sym (and-or (b i) (mask f i) (mask_of fs i))

-- the frame comes back from its values, where no bit outside the fields is set
pub frame_back : (fs : List Field) (frame : List ℕ) → ((i : ℕ) → i < length frame → bit_and (bytes frame i) (mask_of fs i) ≡ bytes frame i)
    → tab (length frame) (byte_of fs (reads fs (bytes frame))) ≡ frame
frame_back fs frame h =
    sym (is-tab (length frame) (byte_of fs (reads fs (bytes frame))) frame refl (λ i l. sym (repack fs (bytes frame) i ∙ h i l)))

-- ---- a frame that was built is clean

part_cut : (f : Field) (v i : ℕ) → part f (v % 2 ^ f.w) i ≡ part f v i
part_cut f v i =
    ⊎_elim
    (λ a. ⊎_elim (λ z. part-high f (v % 2 ^ f.w) i z ∙ sym (part-high f v i z)) (inside a) (le-or-lt (f.first + size f) i))
    (λ a. part_low f (v % 2 ^ f.w) i a ∙ sym (part_low f v i a)) (le-or-lt f.first i)
  where
    k : ℕ
    k = rank f i

    b : ℕ
    b = bits f (rank f i)

    inside : f.first ≤ i → i < f.first + size f → part f (v % 2 ^ f.w) i ≡ part f v i
    inside x y =
        let e : f.w ≡ (f.w - (b + 8 * k)) + (b + 8 * k) = omega (arith, rank_lt f i x y) in
        part_in f (v % 2 ^ f.w) i x y
        ∙ ap (λ (n : ℕ). n * 2 ^ f.lo)
        (sym (field (v % 2 ^ f.w) b (8 * k))
        ∙ ap (λ (w : ℕ). v % 2 ^ w % 2 ^ (b + 8 * k) / 2 ^ (8 * k)) e
        ∙ ap (λ (n : ℕ). n / 2 ^ (8 * k)) (mod-mod-pow v (f.w - (b + 8 * k)) (b + 8 * k))
        ∙ field v b (8 * k))
        ∙ sym (part_in f v i x y)

pub byte_of-cut : (fs : List Field) (vs : List ℕ) (i : ℕ) → byte_of fs (cut fs vs) i ≡ byte_of fs vs i
unfolding byte_of cut
byte_of-cut [] vs i = refl
byte_of-cut (f ∷ fs) [] i = refl
byte_of-cut (f ∷ fs) (v ∷ vs) i = ap₂ bit_or (part_cut f v i) (byte_of-cut fs vs i)

-- packing what is read from a packed frame gives the frame: no bit outside the fields is set
pub clean : (len : ℕ) (fs : List Field) (vs : List ℕ) → T (layout len fs) → length vs ≡ length fs → (i : ℕ)
    → bit_and (byte_of fs vs i) (mask_of fs i) ≡ byte_of fs vs i
clean len fs vs t e i =
    sym (repack fs (byte_of fs vs) i)
    ∙ ap (λ (l : List ℕ). byte_of fs l i) (readback len fs vs e (both_left (sound_all len fs) (disjoint len fs) t) (both_right (sound_all len fs) (disjoint len fs) t))
    ∙ byte_of-cut fs vs i

-- the first n elements, one by one
pub firsts : (n : ℕ) (l : List ℕ) → n ≤ length l → take n l ≡ tab n (bytes l)
firsts n l h = is-tab n (bytes l) (take n l) (length-take-le n l h) (λ k j. get_or-take n l k 0 j)

-- ---- what the checked builder and the decoder need

-- values that fit come back whole from their frame
pub checked-reads : (len : ℕ) (fs : List Field) (vs : List ℕ) → T (layout len fs) → length vs ≡ length fs → T (fitting fs vs)
    → reads fs (bytes (tab len (byte_of fs vs))) ≡ vs
checked-reads len fs vs t e h = values-back len fs vs t e ∙ cut-fitting fs vs h

-- what the decoder reads fits
pub reads_fit : (fs : List Field) (b : ℕ → ℕ) → T (fitting fs (reads fs b))
unfolding reads fitting
reads_fit [] b = tt
reads_fit (f ∷ fs) b = and_in (ltb (read f b) (2 ^ f.w)) (fitting fs (reads fs b)) (lt→ltb _ _ (read-lt f b)) (reads_fit fs b)
