-- The text tells which answer it is (`texts-apart`): of two answers that a book can get, only equal ones have one text.
-- Assumes nothing.
use mathlib.Core.Path.{◌≡◌, refl, sym, ap, ◌∙◌}
use mathlib.Core.List.{List, [], ◌∷◌, ◌++◌}
use Prim.Native.Nat.{ℕ, ◌+◌, ◌*◌, ◌-◌, ◌≤◌, ◌<◌}
use native.Mathlib.Omega.{arith}
use lib.ListN.{drop, get_or}
use Rattle.reading.specs.Decimal.{decimal, digit}
use Rattle.reading.proofs.Decimals.{decimal-one, decimal-value, value_from}
use Rattle.texts.specs.Words.{line, spaced}
use Rattle.refusal.specs.declared.Refusal.{Refusal}
use Rattle.refusal.specs.Numbers.{number_of, place_of}
use Rattle.refusal.proofs.Numbers.{number-bounds, refusals-same}
use Rattle.locker_profile.specs.Profile.{Answer, Broken, Refused, Yes}
use Rattle.profile_text.specs.Text.{answer_text}

-- what a book can be answered: a rule from 1 to 7, or a refusal that has no place
abbrev pub IsGiven : Answer → Type 0
IsGiven Yes = Unit
IsGiven (Broken n) = (1 ≤ n) × (n ≤ 7)
IsGiven (Refused x) = place_of x ≡ 0

-- ---- numbers

value_line : (a : ℕ) (l : List ℕ) → value_from a (l ++ (10 ∷ [])) ≡ 10 * value_from a l
value_line a [] = omega arith
value_line a (d ∷ l) = value_line (10 * a + (d - 48)) l

-- a number is known by the line that its digits make
number-known : (n : ℕ) → n < 100 → value_from 0 (decimal n ++ (10 ∷ [])) ≡ 10 * n
number-known n h = value_line 0 (decimal n) ∙ ap (λ (k : ℕ). 10 * k) (decimal-value n (omega arith))

rules-same : (m n : ℕ) → m ≤ 7 → n ≤ 7 → answer_text (Broken m) ≡ answer_text (Broken n) → m ≡ n
unfolding answer_text line spaced
rules-same m n g h e =
    let d : digit m ≡ digit n = ap (λ (l : List ℕ). get_or l 5 0) (rw (decimal-one m (omega arith), decimal-one n (omega arith)) at e) in
    omega arith

numbers-same : (x y : Refusal) → answer_text (Refused x) ≡ answer_text (Refused y) → number_of x ≡ number_of y
unfolding answer_text line spaced
numbers-same x y e =
    let k : value_from 0 (decimal (number_of x) ++ (10 ∷ [])) ≡ value_from 0 (decimal (number_of y) ++ (10 ∷ [])) =
    ap (λ (l : List ℕ). value_from 0 (drop 8 l)) e in
    omega (arith, number-known (number_of x) (omega (arith, (number-bounds x).1)), number-known (number_of y) (omega (arith, (number-bounds y).1)))

-- ---- answers

-- texts that differ at a place
differ : (i : ℕ) (a b : Answer) → (get_or (answer_text a) i 0 ≡ get_or (answer_text b) i 0 → ⊥) → answer_text a ≡ answer_text b → a ≡ b
differ i a b d e = absurd (d (ap (λ (l : List ℕ). get_or l i 0) e))

pub texts-apart : (a b : Answer) → IsGiven a → IsGiven b → answer_text a ≡ answer_text b → a ≡ b
unfolding answer_text line spaced
texts-apart Yes Yes g h e = refl
texts-apart Yes (Broken n) g h e = differ 0 Yes (Broken n) (omega arith) e
texts-apart Yes (Refused y) g h e = differ 0 Yes (Refused y) (omega arith) e
texts-apart (Broken m) Yes g h e = differ 0 (Broken m) Yes (omega arith) e
texts-apart (Broken m) (Broken n) g h e = ap Broken (rules-same m n g.1 h.1 e)
texts-apart (Broken m) (Refused y) g h e = differ 1 (Broken m) (Refused y) (omega arith) e
texts-apart (Refused x) Yes g h e = differ 0 (Refused x) Yes (omega arith) e
texts-apart (Refused x) (Broken n) g h e = differ 1 (Refused x) (Broken n) (omega arith) e
texts-apart (Refused x) (Refused y) g h e = ap Refused (refusals-same x y (numbers-same x y e) (g ∙ sym h))
