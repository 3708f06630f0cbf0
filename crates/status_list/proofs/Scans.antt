-- The loops in their own terms: what stands before the first word (`skipped-..`), how long a word is (`word_count`), whether all its bytes are digits
-- (`digits-..`), and how many newlines there are (`newlines_count`).
-- Assumes nothing.
use mathlib.Core.Path.{◌≡◌, refl, ap, ◌∙◌}
use mathlib.Core.Bool.{Bool, cond, false, not, true}
use mathlib.Core.List.{List, [], ◌∷◌}
use Prim.Native.Nat.{ℕ, suc, ◌+◌, ◌<◌, ◌≤◌}
use native.Mathlib.Numerals.{add-one}
use native.Mathlib.Omega.{arith}
use borrow.Author.Tests.{le-ltb, lt-ltb}
use lib.Dec.{eqb}
use lib.ListN.{drop, drop_of_length-le, get_or, length}
use lib.Seq.{drop-cons}
use Rattle.std.specs.List.{count_by, position_or_len}
use Rattle.std.proofs.lemmas.List.Sums.{sum_by-cons}
use Rattle.status_list.specs.Words.{all_digits, begins, digit_of, in_comment, is_blank}
use Rattle.status_list.specs.Found.{newlines_in, skipped_from, word_length}

-- what lies from a place on
pub from-here : (s : List ℕ) (i : ℕ) → i < length s → drop i s ≡ get_or s i 0 ∷ drop (i + 1) s
from-here s i h = rw (add-one, drop-cons s i 0 h)

-- ---- what stands before the first word

pub skipped-le : (c : Bool) (before : ℕ) (s : List ℕ) → skipped_from c before s ≤ length s
unfolding skipped_from
skipped-le c before [] = omega arith
skipped-le c before (b ∷ s) = go (begins c before b) (skipped-le (in_comment c before b) b s)
  where
    go : (t : Bool) → skipped_from (in_comment c before b) b s ≤ length s → cond t 0 (suc (skipped_from (in_comment c before b) b s)) ≤ suc (length s)
    go true h = omega arith
    go false h = omega arith

module _ (before : ℕ) (s : List ℕ) (c : Bool) (last i : ℕ) (e : skipped_from false before s ≡ i + skipped_from c last (drop i s)) where
  pub skipped-pass : i < length s → begins c last (get_or s i 0) ≡ false
      → skipped_from false before s ≡ i + 1 + skipped_from (in_comment c last (get_or s i 0)) (get_or s i 0) (drop (i + 1) s)
  unfolding skipped_from
  skipped-pass h t =
      let more : skipped_from c last (drop i s) ≡ suc (skipped_from (in_comment c last (get_or s i 0)) (get_or s i 0) (drop (i + 1) s)) =
      rw (from-here s i h, t) in
      omega arith

  pub skipped-stop : i < length s → begins c last (get_or s i 0) ≡ true → skipped_from false before s ≡ i
  unfolding skipped_from
  skipped-stop h t = let z : skipped_from c last (drop i s) ≡ 0 = rw (from-here s i h, t) in omega arith

  pub skipped-end : length s ≤ i → skipped_from false before s ≡ i
  unfolding skipped_from
  skipped-end h = let z : skipped_from c last (drop i s) ≡ 0 = rw (drop_of_length-le s h) in omega arith

-- ---- a word

pub word-le : (s : List ℕ) → word_length s ≤ length s
unfolding word_length
word-le [] = omega arith
word-le (b ∷ s) = go (is_blank b) (word-le s)
  where
    go : (t : Bool) → word_length s ≤ length s → cond t 0 (suc (word_length s)) ≤ suc (length s)
    go true h = omega arith
    go false h = omega arith

-- the library's word for it
pub word_count : (s : List ℕ) → position_or_len is_blank s ≡ word_length s
unfolding word_length
word_count [] = refl
word_count (b ∷ s) = go (is_blank b) (word_count s)
  where
    go : (t : Bool) → position_or_len is_blank s ≡ word_length s → cond (not t) (1 + position_or_len is_blank s) 0 ≡ cond t 0 (suc (word_length s))
    go true e = refl
    go false e = omega (arith, e)

-- ---- digits

module _ (w : List ℕ) (i : ℕ) (e : all_digits w ≡ all_digits (drop i w)) where
  pub digits-pass : i < length w → digit_of (get_or w i 0) < 16 → all_digits w ≡ all_digits (drop (i + 1) w)
  unfolding all_digits
  digits-pass h t = e ∙ rw (from-here w i h, lt-ltb (digit_of (get_or w i 0)) 16 t)

  pub digits-stop : i < length w → 16 ≤ digit_of (get_or w i 0) → all_digits w ≡ false
  unfolding all_digits
  digits-stop h t = e ∙ rw (from-here w i h, le-ltb (digit_of (get_or w i 0)) 16 t)

  pub digits-end : length w ≤ i → all_digits w ≡ true
  unfolding all_digits
  digits-end h = e ∙ rw (drop_of_length-le w h)

-- what the check tries at the goals of `all_digits`
pub ruleset digit_steps = (digits-pass, digits-stop, digits-end)

-- ---- newlines

pub newlines-le : (s : List ℕ) → newlines_in s ≤ length s
unfolding newlines_in
newlines-le [] = omega arith
newlines-le (b ∷ s) = go (eqb b 10) (newlines-le s)
  where
    go : (t : Bool) → newlines_in s ≤ length s → cond t 1 0 + newlines_in s ≤ suc (length s)
    go true h = omega arith
    go false h = omega arith

-- the library's word for it
pub newlines_count : (s : List ℕ) → count_by (λ (b : ℕ). eqb b 10) s ≡ newlines_in s
unfolding newlines_in
newlines_count [] = refl
newlines_count (b ∷ s) = sum_by-cons (λ (b : ℕ). cond (eqb b 10) 1 0) b s ∙ ap (λ (n : ℕ). cond (eqb b 10) 1 0 + n) (newlines_count s)
