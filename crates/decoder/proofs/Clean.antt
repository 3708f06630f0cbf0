-- The quick tests and the places: two words lie under their masks exactly if no bit is stray, and all numbers are taken exactly if none lacks.
-- Assumes nothing.
use mathlib.Core.Path.{◌≡◌, refl, sym, ap, ap₂, ◌∙◌, subst}
use mathlib.Core.Logic.{⊎_elim}
use mathlib.Core.Bool.{Bool, true, false, cond, ◌&&◌}
use mathlib.Core.List.{List, [], ◌∷◌, ◌++◌}
use Prim.Native.Nat.{ℕ, suc, ◌+◌, ◌-◌, ◌≤◌, ◌<◌, min}
use native.Mathlib.Omega.{arith}
use borrow.Author.Tests.{eq-eqb}
use lib.Bits.{bit_and}
use lib.Dec.{T, eqb, ltb, eqb→eq, ltb→lt}
use lib.ListN.{length, get_or, take, drop, replicate}
use lib.Seq.{take_at}
use Rattle.frame.specs.Field.{read}
use Rattle.frame.specs.Layout.{bytes, tab, reads, mask_of}
use Rattle.frame.proofs.OneField.{le-or-lt}
use Rattle.frame.proofs.Fields.{both_left, both_right, length-tab, get_d-tab}
use Rattle.table.specs.Number.{narrow_of, narrows_of, codes_of}
use Rattle.table.specs.Codes.{takes}
use Rattle.table.specs.Table.{len_of, count_of, numbers_of}
use Rattle.table.specs.Narrowed.{fields_of, arguments_in, Ready}
use Rattle.decoder.specs.Words.{first_word, last_word, held_of, held_byte, clean_words, clean_frame, InWords, all_taken}
use Rattle.decoder.specs.Decoding.{stray, stray_at, lacking}
use Rattle.table.proofs.Cells.{length-numbers}
use Rattle.decoder.proofs.Fields.{length-reads, taken_none}
use Rattle.decoder.proofs.Words.{held-byte, clean-words, clean-first, clean-last, masks-lt}
use Rattle.decoder.proofs.Stray.{stray-hit, stray-more, none-stray, stray-clean}

-- ---- one byte under its mask

module _ (r f : List ℕ) (rd : Ready r) (el : len_of r ≡ length f) (i : ℕ) (h : i < length f) where
  abbrev ms : List ℕ
  ms = tab (length f) (mask_of (fields_of r))

  mask-byte : held_byte (held_of r) (length f) i ≡ get_or ms i 0
  unfolding held_of
  mask-byte =
      ap (λ (k : ℕ). held_byte (first_word k (mask_of (fields_of r)) ∷ last_word k (mask_of (fields_of r)) ∷ []) (length f) i) el
      ∙ held-byte (mask_of (fields_of r)) (λ j. masks-lt (len_of r) (fields_of r) j rd.inside) (length f) i h (omega (arith, rd.most))
      ∙ sym (get_d-tab (length f) (mask_of (fields_of r)) i h)

  -- as the code has them: a byte b and the bits x that are held in it
  module _ (b x : ℕ) (eb : b ≡ get_or f i 0) (ex : x ≡ held_byte (held_of r) (length f) i) where
    under : bit_and b x ≡ bit_and (get_or f i 0) (get_or ms i 0)
    under = ap₂ bit_and eb (ex ∙ mask-byte)

    lies : i < length ms
    lies = omega (arith, length-tab (length f) (mask_of (fields_of r)))

    pub byte-stray : (bit_and b x ≡ b → ⊥) → stray (drop i ms) (drop i f) ≡ 0
    byte-stray d = stray-hit ms f i lies h (λ e. d (under ∙ e ∙ sym eb))

    pub byte-clean : bit_and b x ≡ b → stray (drop i ms) (drop i f) ≡ suc (stray (drop (i + 1) ms) (drop (i + 1) f))
    byte-clean e = stray-more ms f i lies h (sym under ∙ e ∙ eb)

-- ---- the two words

module _ (r f : List ℕ) (rd : Ready r) (el : len_of r ≡ length f) (small : (i : ℕ) → bytes f i < 256) (first last : ℕ) (iw : InWords first last f) where
  abbrev m : ℕ → ℕ
  m = mask_of (fields_of r)

  masks : (i : ℕ) → m i < 256
  masks i = masks-lt (len_of r) (fields_of r) i rd.inside

  few : length f ≤ 12
  few = omega (arith, rd.most)

  firsts : bit_and first (get_or (held_of r) 0 0) ≡ bit_and (first_word (length f) (bytes f)) (first_word (length f) m)
  unfolding held_of
  firsts = ap₂ bit_and iw.first-is (ap (λ (k : ℕ). first_word k m) el)

  lasts : bit_and last (get_or (held_of r) 1 0) ≡ bit_and (last_word (length f) (bytes f)) (last_word (length f) m)
  unfolding held_of
  lasts = ap₂ bit_and iw.last-is (ap (λ (k : ℕ). last_word k m) el)

  pub words-clean : clean_words (held_of r) first last ≡ true → stray_at r f ≡ length f
  unfolding clean_words
  words-clean e =
      let t : T (eqb (bit_and first (get_or (held_of r) 0 0)) first && eqb (bit_and last (get_or (held_of r) 1 0)) last) = subst T (sym e) tt in
      let p = eqb→eq _ _ (both_left (eqb (bit_and first (get_or (held_of r) 0 0)) first) (eqb (bit_and last (get_or (held_of r) 1 0)) last) t) in
      let q = eqb→eq _ _ (both_right (eqb (bit_and first (get_or (held_of r) 0 0)) first) (eqb (bit_and last (get_or (held_of r) 1 0)) last) t) in
      stray-clean m f (clean-words (bytes f) m small masks (length f) (omega (arith, few)) (sym firsts ∙ p ∙ iw.first-is) (sym lasts ∙ q ∙ iw.last-is))

  pub words-stray : clean_words (held_of r) first last ≡ false → stray_at r f < length f
  unfolding clean_words
  words-stray e = ⊎_elim (λ h. absurd (clash h)) (λ h. h) (le-or-lt (length f) (stray_at r f))
    where
      clash : length f ≤ stray_at r f → ⊥
      clash h =
          let c = none-stray m f h in
          let p : bit_and first (get_or (held_of r) 0 0) ≡ first = firsts ∙ clean-first (bytes f) m small masks (length f) (omega (arith, few)) c
          ∙ sym iw.first-is in
          let q : bit_and last (get_or (held_of r) 1 0) ≡ last = lasts ∙ clean-last (bytes f) m small masks (length f) (omega (arith, few)) c ∙ sym iw.last-is in
          subst T (sym (ap₂ ◌&&◌ (eq-eqb _ _ p) (eq-eqb _ _ q)) ∙ e) tt

-- a frame by its own words
module _ (r f : List ℕ) (rd : Ready r) (el : len_of r ≡ length f) (small : (i : ℕ) → bytes f i < 256) where
  own : InWords (first_word (length f) (bytes f)) (last_word (length f) (bytes f)) f
  own = record { first-is = refl; last-is = refl }

  pub frame-clean : clean_frame r f ≡ true → stray_at r f ≡ length f
  frame-clean = words-clean r f rd el small _ _ own

  pub clean-frame : length f ≤ stray_at r f → clean_frame r f ≡ true
  clean-frame h = go (clean_frame r f) refl
    where
      go : (t : Bool) → clean_frame r f ≡ t → t ≡ true
      go true e = refl
      go false e = let l = words-stray r f rd el small _ _ own e in absurd (omega (arith, l))

-- ---- codes

pub none-lacking : (r : List ℕ) → length r ≡ 13 → Ready r → (f args : List ℕ) (t : Bool) → t ≡ true → t ≡ all_taken (numbers_of r) (bytes f)
    → args ≡ arguments_in r f ++ replicate (9 - count_of r) 0
    → length f ≡ lacking (length f) (numbers_of r) (take (count_of r) args)
none-lacking r whole rd f args t e et ea =
    sym (ap (lacking (length f) (numbers_of r))
    (ap (take (count_of r)) ea ∙ take_at (arguments_in r f) (replicate (9 - count_of r) 0) (count_of r)
    (length-reads (numbers_of r) (bytes f) ∙ length-numbers r whole rd.few))
    ∙ taken_none (length f) (numbers_of r) (bytes f) (subst T (sym e ∙ et) tt))

-- whether each of these fields starts below n
unfoldable pub start_below : ℕ → List ℕ → Bool
start_below n [] = true
start_below n (c ∷ cs) = ltb (narrow_of c).first n && start_below n cs

-- where some field does not take what it holds, one is lacking, and lies in the frame
lacking-lt : (n : ℕ) (cs : List ℕ) (b : ℕ → ℕ) → T (start_below n cs) → all_taken cs b ≡ false → lacking n cs (reads (narrows_of cs) b) < n
unfolding start_below all_taken lacking reads narrows_of
lacking-lt n [] b t e = absurd (subst T e tt)
lacking-lt n (c ∷ cs) b t e = go (takes (codes_of c) (read (narrow_of c) b)) e (lacking-lt n cs b (both_right (ltb (narrow_of c).first n) (start_below n cs) t))
  where
    rest : ℕ
    rest = lacking n cs (reads (narrows_of cs) b)

    go : (x : Bool) → (x && all_taken cs b) ≡ false → (all_taken cs b ≡ false → rest < n) → cond x rest (min (narrow_of c).first rest) < n
    go true z ih = ih z
    go false z ih = let l = ltb→lt (narrow_of c).first n (both_left (ltb (narrow_of c).first n) (start_below n cs) t) in omega (arith, l)

pub code-lacks : (r : List ℕ) → length r ≡ 13 → Ready r → (f args : List ℕ) → T (start_below (length f) (numbers_of r))
    → all_taken (numbers_of r) (bytes f) ≡ false → args ≡ arguments_in r f ++ replicate (9 - count_of r) 0
    → lacking (length f) (numbers_of r) (take (count_of r) args) < length f
code-lacks r whole rd f args t e ea =
    let q : take (count_of r) args ≡ arguments_in r f = ap (take (count_of r)) ea ∙ take_at (arguments_in r f) (replicate (9 - count_of r) 0) (count_of r)
    (length-reads (numbers_of r) (bytes f) ∙ length-numbers r whole rd.few) in
    subst (λ (vs : List ℕ). lacking (length f) (numbers_of r) vs < length f) (sym q) (lacking-lt (length f) (numbers_of r) (bytes f) t e)
