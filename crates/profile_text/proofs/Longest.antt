-- No text is longer than 43 bytes, whatever the answer (`answer-most`). That of a rule has 24 at the most (`rule-most`), that of a refusal 11
-- (`refused-most`).
-- Assumes nothing.
use mathlib.Core.List.{List, [], ◌∷◌}
use Prim.Native.Nat.{ℕ, zero, suc, max, ◌≤◌}
use native.Mathlib.Omega.{arith}
use lib.ListN.{length, get_or}
use Rattle.reading.proofs.Decimals.{decimal-length}
use Rattle.texts.specs.Words.{line}
use Rattle.texts.proofs.Longest.{decimal-most, spaced-length, spaced-none}
use Rattle.refusal.specs.declared.Refusal.{Refusal}
use Rattle.refusal.specs.Numbers.{number_of}
use Rattle.refusal.proofs.Numbers.{number-bounds}
use Rattle.locker_profile.specs.Profile.{Answer, Broken, Refused, Yes}
use Rattle.profile_text.specs.Text.{answer_text, longest, rule_word, rule_words}

abbrev longest_of : List (List ℕ) → ℕ
longest_of [] = 0
longest_of (w ∷ ws) = max (length w) (longest_of ws)

one-most : (ws : List (List ℕ)) (n : ℕ) → length (get_or ws n []) ≤ longest_of ws
one-most [] n = omega arith
one-most (w ∷ ws) zero = omega arith
one-most (w ∷ ws) (suc n) = omega (arith, one-most ws n)

word-most : (n : ℕ) → length (rule_word n) ≤ 16
unfolding rule_word
word-most n = one-most ([] ∷ rule_words) n

pub answer-most : (a : Answer) → length (answer_text a) ≤ longest
unfolding answer_text line
answer-most Yes = rw spaced-none (omega arith)
answer-most (Broken n) = simp (spaced-length, spaced-none) (omega (arith, decimal-most n, word-most n))
answer-most (Refused x) = simp (spaced-length, spaced-none) (omega (arith, decimal-most (number_of x)))

pub rule-most : (n : ℕ) → n ≤ 7 → length (answer_text (Broken n)) ≤ 24
unfolding answer_text line
rule-most n h = simp (spaced-length, spaced-none) (omega (arith, decimal-length 0 n (omega arith), word-most n))

pub refused-most : (x : Refusal) → length (answer_text (Refused x)) ≤ 11
unfolding answer_text line
refused-most x =
    simp (spaced-length, spaced-none) (omega (arith, decimal-length 1 (number_of x) (omega (arith, (number-bounds x).1))))
