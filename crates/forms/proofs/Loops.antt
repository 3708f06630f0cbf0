-- A walk over the pairs, one at a time, in the code's own terms: `other` (`other-..`) and `in_both` (`both-..`).
-- Assumes nothing.
use mathlib.Core.Path.{◌≡◌}
use mathlib.Core.Bool.{Bool, false, true, ◌&&◌}
use mathlib.Core.List.{List, [], ◌∷◌}
use Prim.Native.Nat.{ℕ, ◌+◌, ◌<◌, ◌≤◌}
use native.Mathlib.Numerals.{add-one}
use borrow.Author.Tests.{eq-eqb, ne_eqb}
use lib.ListN.{drop, drop_of_length-le, get_or, length}
use lib.Seq.{drop-cons}
use Rattle.contents.specs.Contents.{offset_for, present_for}
use Rattle.forms.specs.Forms.{both_in, long_of, other_in, short_of}

module _ (l : List (List ℕ)) (i : ℕ) (h : i < length l) where
  here : drop i l ≡ get_or l i [] ∷ drop (i + 1) l
  here = rw (add-one, drop-cons l i [] h)

  module _ (s : ℕ) where
    pub other-short : s ≡ short_of (get_or l i []) → long_of (get_or l i []) ≡ other_in (drop i l) s
    unfolding other_in
    other-short e = rw (here, eq-eqb _ _ e)

    pub other-long : (s ≡ short_of (get_or l i []) → ⊥) → s ≡ long_of (get_or l i []) → short_of (get_or l i []) ≡ other_in (drop i l) s
    unfolding other_in
    other-long n e = rw (here, ne_eqb _ _ n, eq-eqb _ _ e)

    pub other-pass : (s ≡ short_of (get_or l i []) → ⊥) → (s ≡ long_of (get_or l i []) → ⊥) → other_in (drop i l) s ≡ other_in (drop (i + 1) l) s
    unfolding other_in
    other-pass n m = rw (here, ne_eqb _ _ n, ne_eqb _ _ m)

  module _ (q : ℕ → Bool) where
    pub both_found : q (short_of (get_or l i [])) && q (long_of (get_or l i [])) ≡ true → true ≡ both_in (drop i l) q
    unfolding both_in
    both_found e = rw (here, e)

    pub both-pass : q (short_of (get_or l i [])) && q (long_of (get_or l i [])) ≡ false → both_in (drop i l) q ≡ both_in (drop (i + 1) l) q
    unfolding both_in
    both-pass e = rw (here, e)

module _ (l : List (List ℕ)) (i : ℕ) (h : length l ≤ i) where
  pub other-end : (s : ℕ) → other_in (drop i l) s ≡ s
  unfolding other_in
  other-end s = rw (drop_of_length-le l h)

  pub both_end : (q : ℕ → Bool) → both_in (drop i l) q ≡ false
  unfolding both_in
  both_end q = rw (drop_of_length-le l h)

-- ---- one pair

module _ (m : ℕ) (b : List ℕ) (s t : ℕ) where
  pub present-none : offset_for m b s ≡ 0 → false ≡ present_for m b s && present_for m b t
  present-none e = rw (eq-eqb _ _ e)

  pub present-two : (offset_for m b s ≡ 0 → ⊥) → present_for m b t ≡ present_for m b s && present_for m b t
  present-two n = rw (ne_eqb _ _ n)
