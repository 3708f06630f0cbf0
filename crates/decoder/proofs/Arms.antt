-- The fields of a row one by one, as straight code has them: what each reads, and whether its code is taken; and that the nine fields of a
-- row of the table, zeros among them, say what its own fields say. Assumes nothing.
use mathlib.Core.Path.{◌≡◌, refl, sym, ap, ap₂, ◌∙◌, subst}
use mathlib.Core.Bool.{Bool, true, false, cond, ◌&&◌}
use mathlib.Core.List.{List, [], ◌∷◌, ◌++◌}
use Prim.Native.Nat.{ℕ, zero, suc, ◌-◌, ◌≤◌, ◌<◌}
use native.Mathlib.Nat.{le_of_suc-le-suc, not-suc-le-zero}
use lib.Dec.{T, eqb, leb, eqb→eq}
use native.Mathlib.Omega.{arith}
use lib.ListN.{length, get_or, take, drop, replicate}
use Rattle.frame.specs.Field.{read, read_to, sound}
use Rattle.frame.specs.declared.Field.{Field}
use Rattle.frame.specs.Layout.{bytes, get, reads}
use Rattle.frame.proofs.Fields.{both_left, both_right, sound-is}
use Rattle.table.specs.Number.{narrow_of, narrows_of, codes_of}
use Rattle.table.specs.Codes.{takes}
use Rattle.table.specs.Table.{kinds, row_at, len_of, count_of, numbers_of}
use Rattle.table.proofs.Below.{below, below_at}
use Rattle.decoder.specs.Words.{first_word, last_word, held_of, clean_words, clean_frame, InWords, reached, all_reached}
use Rattle.decoder.specs.Words.{Whole, AllWhole, all_taken, good_frame, nine_in}
use Rattle.table.specs.Narrowed.{arguments_in, Ready}
use Rattle.refusal.specs.declared.Refusal.TheVariants.{UnknownCode}
use Rattle.decoder.specs.Decoding.{refuses, stray_at, lacking, judged}
use Rattle.decoder.proofs.Clean.{start_below, code-lacks}
use Rattle.decoder.proofs.Fields.{get-read}
use Rattle.decoder.proofs.Returns.{judged-code}

pub and_left : (a b : Bool) → (a && b) ≡ true → a ≡ true
and_left true b e = refl
and_left false b e = e

pub and_right : (a b : Bool) → (a && b) ≡ true → b ≡ true
and_right true b e = e
and_right false b e = absurd (subst T (sym e) tt)

pub and_none : (a b : Bool) → a ≡ true → (a && b) ≡ false → b ≡ false
and_none true b t e = e
and_none false b t e = absurd (subst T (sym t) tt)

-- ---- one field more

pub reached-at : (n : ℕ) (cs : List ℕ) (j : ℕ) → T (all_reached n cs) → j < length cs → T (reached n (get_or cs j 0))
unfolding all_reached
reached-at n [] j t h = absurd (not-suc-le-zero h)
reached-at n (c ∷ cs) zero t h = both_left (reached n c) (all_reached n cs) t
reached-at n (c ∷ cs) (suc j) t h = reached-at n cs j (both_right (reached n c) (all_reached n cs) t) (le_of_suc-le-suc h)

pub whole-at : (whole : ℕ) (b : ℕ → ℕ) (cs : List ℕ) (j : ℕ) → AllWhole whole b cs → j < length cs → Whole whole b (get_or cs j 0)
unfolding AllWhole
whole-at whole b [] j t h = absurd (not-suc-le-zero h)
whole-at whole b (c ∷ cs) zero t h = t.0
whole-at whole b (c ∷ cs) (suc j) t h = whole-at whole b cs j t.1 (le_of_suc-le-suc h)

-- of the fields cs none but c has eight bytes
unfoldable pub only_wide : ℕ → List ℕ → Bool
only_wide c [] = true
only_wide c (x ∷ xs) = cond (leb 64 (narrow_of x).w) (eqb x c) true && only_wide c xs

all_whole : (whole : ℕ) (b : ℕ → ℕ) (c : ℕ) → whole ≡ read (narrow_of c) b → (cs : List ℕ) → T (only_wide c cs) → AllWhole whole b cs
unfolding only_wide AllWhole
all_whole whole b c e [] t = tt
all_whole whole b c e (x ∷ xs) t =
    (go (leb 64 (narrow_of x).w) (both_left this (only_wide c xs) t), all_whole whole b c e xs (both_right this (only_wide c xs) t))
  where
    this : Bool
    this = cond (leb 64 (narrow_of x).w) (eqb x c) true

    go : (z : Bool) → T (cond z (eqb x c) true) → T z → whole ≡ read (narrow_of x) b
    go true u v = e ∙ ap (λ (y : ℕ). read (narrow_of y) b) (sym (eqb→eq x c u))
    go false u v = absurd v

-- the field 0 has no bits
pub nothing : (b : ℕ → ℕ) → 0 ≡ read (narrow_of 0) b
unfolding read read_to narrow_of
nothing b = refl

-- what is got by a field that is sound is what the field reads
pub got : (c : ℕ) (s : List ℕ) (f : Field) → f ≡ narrow_of c → T (sound 16 (narrow_of c)) → (x : ℕ) → x ≡ get s f → x ≡ read (narrow_of c) (bytes s)
got c s f e t x ex = ex ∙ ap (get s) e ∙ get-read s (narrow_of c) (sound-is 16 (narrow_of c) t)

module _ (b : ℕ → ℕ) (c : ℕ) (cs : List ℕ) (v : ℕ) (ev : v ≡ read (narrow_of c) b) where
  pub taken_next : (x y : Bool) → x ≡ takes (codes_of c) v → y ≡ all_taken cs b → (x && y) ≡ all_taken (c ∷ cs) b
  unfolding all_taken
  taken_next x y ex ey = ap₂ ◌&&◌ (ex ∙ ap (takes (codes_of c)) ev) ey

  pub reads-next : (vs : List ℕ) → vs ≡ reads (narrows_of cs) b → ◌≡◌ {A = List ℕ} (v ∷ vs) (reads (narrows_of (c ∷ cs)) b)
  unfolding reads narrows_of
  reads-next vs e = ap₂ ◌∷◌ ev e

and_true : (x : Bool) → x ≡ (x && true)
and_true true = refl
and_true false = refl

-- the last field alone
pub taken_last : (b : ℕ → ℕ) (c v : ℕ) → v ≡ read (narrow_of c) b → (x : Bool) → x ≡ takes (codes_of c) v → x ≡ all_taken (c ∷ []) b
unfolding all_taken
taken_last b c v ev x ex = ex ∙ ap (takes (codes_of c)) ev ∙ and_true (takes (codes_of c) (read (narrow_of c) b))

pub none_read : (b : ℕ → ℕ) → [] ≡ reads (narrows_of []) b
unfolding reads narrows_of
none_read b = refl

-- ---- zeros behind the fields

zeros-taken : (cs : List ℕ) (n : ℕ) (b : ℕ → ℕ) → all_taken (cs ++ replicate n 0) b ≡ all_taken cs b
unfolding all_taken takes
zeros-taken [] zero b = refl
zeros-taken [] (suc n) b = zeros-taken [] n b
zeros-taken (c ∷ cs) n b = ap (λ (t : Bool). takes (codes_of c) (read (narrow_of c) b) && t) (zeros-taken cs n b)

zeros-read : (cs : List ℕ) (n : ℕ) (b : ℕ → ℕ) → reads (narrows_of (cs ++ replicate n 0)) b ≡ reads (narrows_of cs) b ++ replicate n 0
unfolding reads narrows_of narrow_of read read_to
zeros-read [] zero b = refl
zeros-read [] (suc n) b = ap (λ (l : List ℕ). 0 ∷ l) (zeros-read [] n b)
zeros-read (c ∷ cs) n b = ap (λ (l : List ℕ). read (narrow_of c) b ∷ l) (zeros-read cs n b)

-- ---- the rows of the table, by one test that is computed over all of them

alike : List ℕ → List ℕ → Bool
alike [] [] = true
alike [] (y ∷ ys) = false
alike (x ∷ xs) [] = false
alike (x ∷ xs) (y ∷ ys) = eqb x y && alike xs ys

alike_is : (xs ys : List ℕ) → T (alike xs ys) → xs ≡ ys
unfolding alike
alike_is [] [] t = refl
alike_is [] (y ∷ ys) t = absurd t
alike_is (x ∷ xs) [] t = absurd t
alike_is (x ∷ xs) (y ∷ ys) t = ap₂ ◌∷◌ (eqb→eq x y (both_left (eqb x y) (alike xs ys) t)) (alike_is xs ys (both_right (eqb x y) (alike xs ys) t))

-- 13 numbers, and the fields start in the frame
sizes : List ℕ → Bool
sizes r = eqb (length r) 13 && start_below (len_of r) (numbers_of r)

-- the last nine are the fields and zeros, and the words reach them
fields : List ℕ → Bool
fields r = alike (drop 4 r) (numbers_of r ++ replicate (9 - count_of r) 0) && all_reached (len_of r) (drop 4 r)

straight : ℕ → Bool
straight k = sizes (row_at k) && fields (row_at k)

all-straight : T (below straight kinds)
unfolding below straight sizes fields alike start_below row_at narrow_of all_reached reached sound
all-straight = tt

module _ (i : ℕ) (h : i < kinds) where
  size-test : T (eqb (length (row_at i)) 13 && start_below (len_of (row_at i)) (numbers_of (row_at i)))
  unfolding straight sizes
  size-test = both_left (sizes (row_at i)) (fields (row_at i)) (below_at straight kinds i all-straight h)

  field-test : T (alike (drop 4 (row_at i)) (numbers_of (row_at i) ++ replicate (9 - count_of (row_at i)) 0) && all_reached (len_of (row_at i)) (drop 4 (row_at i)))
  unfolding straight fields
  field-test = both_right (sizes (row_at i)) (fields (row_at i)) (below_at straight kinds i all-straight h)

  pub row-whole : length (row_at i) ≡ 13
  row-whole = eqb→eq _ 13 (both_left (eqb (length (row_at i)) 13) (start_below (len_of (row_at i)) (numbers_of (row_at i))) size-test)

  pub row-starts : T (start_below (len_of (row_at i)) (numbers_of (row_at i)))
  row-starts = both_right (eqb (length (row_at i)) 13) (start_below (len_of (row_at i)) (numbers_of (row_at i))) size-test

  padded : drop 4 (row_at i) ≡ numbers_of (row_at i) ++ replicate (9 - count_of (row_at i)) 0
  padded = alike_is _ _ (both_left (alike (drop 4 (row_at i)) (numbers_of (row_at i) ++ replicate (9 - count_of (row_at i)) 0))
      (all_reached (len_of (row_at i)) (drop 4 (row_at i))) field-test)

  all-reached : T (all_reached (len_of (row_at i)) (drop 4 (row_at i)))
  all-reached = both_right (alike (drop 4 (row_at i)) (numbers_of (row_at i) ++ replicate (9 - count_of (row_at i)) 0))
      (all_reached (len_of (row_at i)) (drop 4 (row_at i))) field-test

-- ---- an arm: the row at the place i is that at k, which has n bytes and the nine fields cs, as the arm's constants say

pub record Arm (i k n : ℕ) (f : List ℕ) : Type 0 where
  pub this : i ≡ k
  pub of-table : i < kinds
  pub long : len_of (row_at i) ≡ length f
  pub length-is : len_of (row_at k) ≡ n

module _ {i k n : ℕ} {f : List ℕ} (a : Arm i k n f) where
  all_of : n ≡ length f
  all_of = sym a.length-is ∙ ap (λ (j : ℕ). len_of (row_at j)) (sym a.this) ∙ a.long

  pub fits : n ≤ length f
  fits = omega (arith, all_of)

  module _ (cs : List ℕ) (ec : drop 4 (row_at k) ≡ cs) (first last : ℕ) (ef : first ≡ first_word n (bytes f)) (el : last ≡ last_word n (bytes f)) where
    its : cs ≡ drop 4 (row_at i)
    its = sym ec ∙ ap (λ (j : ℕ). drop 4 (row_at j)) (sym a.this)

    words : InWords first last f
    words = record { first-is = ef ∙ ap (λ (m : ℕ). first_word m (bytes f)) all_of; last-is = el ∙ ap (λ (m : ℕ). last_word m (bytes f)) all_of }

    pub asks : (whole c : ℕ) → whole ≡ read (narrow_of c) (bytes f) → T (only_wide c cs)
        → (n ≡ length f) × InWords first last f × T (all_reached n cs) × AllWhole whole (bytes f) cs
    asks whole c ew tw =
        let t = subst (λ (m : ℕ). T (all_reached m (drop 4 (row_at i)))) (a.long ∙ sym all_of) (all-reached i a.of-table) in
        (all_of, words, subst (λ (d : List ℕ). T (all_reached n d)) (sym its) t, all_whole whole (bytes f) c ew cs tw)

    pub gives : (t : Bool) (args : List ℕ) → t ≡ (clean_words (held_of (row_at k)) first last && all_taken cs (bytes f)) → args ≡ reads (narrows_of cs) (bytes f)
        → (t ≡ good_frame (row_at i) f) × (args ≡ nine_in (row_at i) f)
    gives t args et ea =
        let b = bytes f in
        let m = 9 - count_of (row_at i) in
        let q : cs ≡ numbers_of (row_at i) ++ replicate m 0 = its ∙ padded i a.of-table in
        let x : clean_words (held_of (row_at k)) first last ≡ clean_frame (row_at i) f =
        ap (λ (j : ℕ). clean_words (held_of (row_at j)) first last) (sym a.this) ∙ ap₂ (clean_words (held_of (row_at i))) words.first-is words.last-is in
        let y : all_taken cs b ≡ all_taken (numbers_of (row_at i)) b = ap (λ (c : List ℕ). all_taken c b) q ∙ zeros-taken (numbers_of (row_at i)) m b in
        (et ∙ ap₂ ◌&&◌ x y, ea ∙ ap (λ (c : List ℕ). reads (narrows_of c) b) q ∙ zeros-read (numbers_of (row_at i)) m b)

-- where some code is not taken, the lowest byte of such a field is the answer; w is the row as the code has it
pub judged-lacking : (r f : List ℕ) → length r ≡ 13 → Ready r → length f ≤ stray_at r f → T (start_below (length f) (numbers_of r))
    → all_taken (numbers_of r) (bytes f) ≡ false → (args : List ℕ) → args ≡ arguments_in r f ++ replicate (9 - count_of r) 0
    → (w : List ℕ) → w ≡ r → (q : ℕ) → q ≡ lacking (length f) (numbers_of w) (take (count_of w) args)
    → (k : ℕ) → judged k r f ≡ refuses (UnknownCode q)
judged-lacking r f whole rd clean starts t args ea w ew q eq k =
    let e : q ≡ lacking (length f) (numbers_of r) (take (count_of r) args) = eq
    ∙ ap (λ (z : List ℕ). lacking (length f) (numbers_of z) (take (count_of z) args)) ew in
    let lt = code-lacks r whole rd f args starts t ea in
    judged-code r f whole rd clean args q ea e k (omega (arith, e, lt))
