-- The lowest byte with a stray bit: byte by byte, and where there is none. Assumes nothing.
use mathlib.Core.Path.{◌≡◌, refl, sym, ap, ap₂, ◌∙◌, subst}
use mathlib.Core.Bool.{Bool, true, false, cond}
use mathlib.Core.List.{List, [], ◌∷◌}
use Prim.Native.Nat.{ℕ, zero, suc, ◌+◌, ◌≤◌, ◌<◌, zero-le, suc-le-suc}
use native.Mathlib.Nat.{le_of_suc-le-suc, not-suc-le-zero, zero-add, add-zero, add-suc, suc-add}
use native.Mathlib.Numerals.{add-one}
use borrow.Author.Tests.{eq-eqb, ne_eqb}
use lib.Bits.{bit_and}
use lib.Dec.{T, eqb, eqb→eq}
use lib.ListN.{length, get_or, drop, drop_of_length-le}
use lib.Seq.{drop-cons}
use Rattle.frame.specs.Layout.{bytes, tab, tab_from}
use Rattle.decoder.specs.Decoding.{stray}

-- ---- one more byte under its mask

module _ (ms f : List ℕ) (i : ℕ) (l : i < length ms) (h : i < length f) where
  stray-here : stray (drop i ms) (drop i f) ≡ cond (eqb (bit_and (get_or f i 0) (get_or ms i 0)) (get_or f i 0)) (suc (stray (drop (suc i) ms) (drop (suc i) f))) 0
  unfolding stray
  stray-here = ap₂ stray (drop-cons ms i 0 l) (drop-cons f i 0 h)

  pub stray-hit : (bit_and (get_or f i 0) (get_or ms i 0) ≡ get_or f i 0 → ⊥) → stray (drop i ms) (drop i f) ≡ 0
  stray-hit n = stray-here ∙ simp (ne_eqb _ _ n)

  pub stray-more : bit_and (get_or f i 0) (get_or ms i 0) ≡ get_or f i 0 → stray (drop i ms) (drop i f) ≡ suc (stray (drop (i + 1) ms) (drop (i + 1) f))
  stray-more e = stray-here ∙ simp (eq-eqb _ _ e, add-one)

none_left : (ms : List ℕ) → stray ms [] ≡ 0
unfolding stray
none_left [] = refl
none_left (m ∷ ms) = refl

pub stray-past : (ms f : List ℕ) (i : ℕ) → length f ≤ i → stray (drop i ms) (drop i f) ≡ 0
stray-past ms f i h = ap (stray (drop i ms)) (drop_of_length-le f h) ∙ none_left (drop i ms)

-- ---- no stray bit

-- a frame without one is clean
stray-none : (i : ℕ) (m : ℕ → ℕ) (f : List ℕ) → length f ≤ stray (tab_from i (length f) m) f → (j : ℕ) → j < length f
    → bit_and (bytes f j) (m (i + j)) ≡ bytes f j
unfolding stray tab_from
stray-none i m [] h j l = absurd (not-suc-le-zero l)
stray-none i m (b ∷ bs) h j l = go (eqb (bit_and b (m i)) b) refl h (stray-none (suc i) m bs) j l
  where
    go : (t : Bool) → eqb (bit_and b (m i)) b ≡ t → suc (length bs) ≤ cond t (suc (stray (tab_from (suc i) (length bs) m) bs)) 0
        → (length bs ≤ stray (tab_from (suc i) (length bs) m) bs → (k : ℕ) → k < length bs → bit_and (bytes bs k) (m (suc i + k)) ≡ bytes bs k)
        → (k : ℕ) → k < suc (length bs) → bit_and (bytes (b ∷ bs) k) (m (i + k)) ≡ bytes (b ∷ bs) k
    go true q z ih zero l' = ap (λ (x : ℕ). bit_and b (m x)) (add-zero i) ∙ eqb→eq (bit_and b (m i)) b (subst T (sym q) tt)
    go true q z ih (suc k) l' = ap (λ (x : ℕ). bit_and (bytes bs k) (m x)) (add-suc i k ∙ sym (suc-add i k)) ∙ ih (le_of_suc-le-suc z) k (le_of_suc-le-suc l')
    go false q z ih k l' = absurd (not-suc-le-zero z)

-- and the other way round
clean-none : (i : ℕ) (m : ℕ → ℕ) (f : List ℕ) → ((j : ℕ) → j < length f → bit_and (bytes f j) (m (i + j)) ≡ bytes f j)
    → stray (tab_from i (length f) m) f ≡ length f
unfolding stray tab_from
clean-none i m [] h = refl
clean-none i m (b ∷ bs) h =
    ap (λ (t : Bool). cond t (suc (stray (tab_from (suc i) (length bs) m) bs)) 0)
    (eq-eqb (bit_and b (m i)) b (ap (λ (x : ℕ). bit_and b (m x)) (sym (add-zero i)) ∙ h zero (suc-le-suc zero-le)))
    ∙ ap suc (clean-none (suc i) m bs (λ j l. ap (λ (x : ℕ). bit_and (bytes bs j) (m x)) (suc-add i j ∙ sym (add-suc i j)) ∙ h (suc j) (suc-le-suc l)))

module _ (m : ℕ → ℕ) (f : List ℕ) where
  pub none-stray : length f ≤ stray (tab (length f) m) f → (j : ℕ) → j < length f → bit_and (bytes f j) (m j) ≡ bytes f j
  unfolding tab
  none-stray h j l = ap (λ (x : ℕ). bit_and (bytes f j) (m x)) (sym (zero-add j)) ∙ stray-none 0 m f h j l

  pub stray-clean : ((j : ℕ) → j < length f → bit_and (bytes f j) (m j) ≡ bytes f j) → stray (tab (length f) m) f ≡ length f
  unfolding tab
  stray-clean h = clean-none 0 m f (λ j l. ap (λ (x : ℕ). bit_and (bytes f j) (m x)) (zero-add j) ∙ h j l)
