-- The loops in their own terms: the bytes of a class that bytes begin with (`leading-..`), and the number that digits say (`number-..`).
-- Assumes nothing.
use mathlib.Core.Path.{◌≡◌, refl, sym, ap, ◌∙◌}
use mathlib.Core.Bool.{Bool, true, false, cond, ◌&&◌, false≢true}
use mathlib.Core.List.{List, [], ◌∷◌}
use Prim.Native.Nat.{ℕ, suc, ◌+◌, ◌*◌, ◌-◌, ◌^◌, ◌<◌, ◌≤◌}
use native.Mathlib.Numerals.{add-one}
use native.Mathlib.Omega.{arith}
use borrow.Author.Tests.{eq-eqb, eqb-false, eqb-true, le-ltb, lt-ltb, ltb-false, ltb-true, ne_eqb}
use lib.Dec.{eqb, ltb}
use lib.ListN.{drop, drop_of_length-le, get_or, length}
use lib.Seq.{drop-cons}
use Rattle.std.specs.Prelude.{Option, Some, None, is_some, unwrap_or}
use Rattle.std.specs.List.{list_all, prefix_len}
use Rattle.bank_list.specs.Lines.{leading_of, number_from, number_of, numbered}

-- what lies from a place on
pub from-here : (s : List ℕ) (i : ℕ) → i < length s → drop i s ≡ get_or s i 0 ∷ drop (i + 1) s
from-here s i h = rw (add-one, drop-cons s i 0 h)

-- ---- classes

pub leading_le : (k : ℕ → Bool) (s : List ℕ) → leading_of k s ≤ length s
unfolding leading_of
leading_le k [] = omega arith
leading_le k (b ∷ s) = go (k b) (leading_le k s)
  where
    go : (t : Bool) → leading_of k s ≤ length s → cond t (suc (leading_of k s)) 0 ≤ suc (length s)
    go true h = omega arith
    go false h = omega arith

-- the library's word for it
pub leading_count : (k : ℕ → Bool) (s : List ℕ) → prefix_len k s ≡ leading_of k s
unfolding leading_of
leading_count k [] = refl
leading_count k (b ∷ s) = go (k b) (leading_count k s)
  where
    go : (t : Bool) → prefix_len k s ≡ leading_of k s → cond t (1 + prefix_len k s) 0 ≡ cond t (suc (leading_of k s)) 0
    go true e = omega (arith, e)
    go false e = refl

eqb-suc : (a b : ℕ) → eqb a b ≡ eqb (suc a) (suc b)
eqb-suc a b = go (eqb a b) refl
  where
    go : (t : Bool) → eqb a b ≡ t → t ≡ eqb (suc a) (suc b)
    go true e = sym (eq-eqb (suc a) (suc b) (ap suc (eqb-true a b e)))
    go false e = sym (ne_eqb (suc a) (suc b) (λ q. eqb-false a b e (omega (arith, q))))

-- all bytes pass where as many do as there are
pub all-leading : (k : ℕ → Bool) (s : List ℕ) → list_all k s ≡ eqb (leading_of k s) (length s)
unfolding leading_of
all-leading k [] = refl
all-leading k (b ∷ s) = go (k b) (all-leading k s)
  where
    go : (t : Bool) → list_all k s ≡ eqb (leading_of k s) (length s) → t && list_all k s ≡ eqb (cond t (suc (leading_of k s)) 0) (suc (length s))
    go true e = e ∙ eqb-suc (leading_of k s) (length s)
    go false e = sym (ne_eqb 0 (suc (length s)) (λ q. omega (arith, q)))

-- ---- numbers

-- digits behind a number make none smaller: what is past the limit stays past it
pub number-grows : (v : ℕ) (s : List ℕ) → v ≤ number_from v s
unfolding number_from
number-grows v [] = omega arith
number-grows v (b ∷ s) = omega (arith, number-grows (10 * v + (b - 48)) s)

pub numbered-none : (n : ℕ) → None ≡ numbered n → 2 ^ 64 ≤ n
numbered-none n e = go (ltb n (2 ^ 64)) refl e
  where
    go : (t : Bool) → ltb n (2 ^ 64) ≡ t → None ≡ cond t (Some n) None → 2 ^ 64 ≤ n
    go true p q = absurd (false≢true (ap is_some q))
    go false p q = ltb-false n (2 ^ 64) p

pub numbered-some : (n v : ℕ) → Some v ≡ numbered n → (v ≡ n) × (v < 2 ^ 64)
numbered-some n v e = go (ltb n (2 ^ 64)) refl e
  where
    go : (t : Bool) → ltb n (2 ^ 64) ≡ t → Some v ≡ cond t (Some n) None → (v ≡ n) × (v < 2 ^ 64)
    go true p q =
        let same : v ≡ n = ap (λ (o : Option ℕ). unwrap_or o 0) q in
        (same, omega (arith, same, ltb-true n (2 ^ 64) p))
    go false p q = absurd (false≢true (sym (ap is_some q)))

module _ (s : List ℕ) (i v : ℕ) (e : number_of s ≡ number_from v (drop i s)) where
  pub number-pass : i < length s → (w : ℕ) → Some w ≡ numbered (10 * v + (get_or s i 0 - 48)) → number_of s ≡ number_from w (drop (i + 1) s)
  unfolding number_from
  number-pass h w q =
      let same : w ≡ 10 * v + (get_or s i 0 - 48) = (numbered-some _ w q).0 in
      e ∙ ap (number_from v) (from-here s i h) ∙ ap (λ (x : ℕ). number_from x (drop (i + 1) s)) (sym same)

  pub number_past : i < length s → None ≡ numbered (10 * v + (get_or s i 0 - 48)) → numbered (number_of s) ≡ None
  unfolding number_from
  number_past h q =
      let d : ℕ = get_or s i 0 - 48 in
      let next : number_of s ≡ number_from (10 * v + d) (drop (i + 1) s) = e ∙ ap (number_from v) (from-here s i h) in
      let big : 2 ^ 64 ≤ number_of s = omega (arith, next, number-grows (10 * v + d) (drop (i + 1) s), numbered-none _ q) in
      rw (le-ltb (number_of s) (2 ^ 64) big)

  pub number-end : length s ≤ i → v < 2 ^ 64 → numbered (number_of s) ≡ Some v
  unfolding number_from
  number-end h p = let same : number_of s ≡ v = e ∙ rw (drop_of_length-le s h) in rw (same, lt-ltb v (2 ^ 64) p)
