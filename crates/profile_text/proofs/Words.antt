-- The lines as they are written: a number that is no rule has no word (`word_none`), and each line is its form with the numbers filled in.
-- Assumes nothing.
use mathlib.Core.Path.{◌≡◌, refl, sym, ap}
use mathlib.Core.List.{[], ◌∷◌, ◌++◌}
use Prim.Native.Nat.{ℕ, zero, suc, ◌≤◌}
use native.Mathlib.Omega.{arith}
use lib.ListN.{get_or-eq_default}
use Rattle.texts.specs.Words.{word, line, spaced}
use Rattle.texts.specs.Written.{filled}
use Rattle.texts.proofs.Forms.{filled-then}
use Rattle.refusal.specs.declared.Refusal.{Refusal}
use Rattle.refusal.specs.Numbers.{number_of}
use Rattle.locker_profile.specs.Profile.{Broken, Refused, Yes}
use Rattle.profile_text.specs.Text.{answer_text, rule_word, rule_words}

past : {n : ℕ} (k : ℕ) → k ≤ n → (n ≡ k → ⊥) → suc k ≤ n
past k h d = omega arith

pub word_none : (n : ℕ) → (n ≡ 1 → ⊥) → (n ≡ 2 → ⊥) → (n ≡ 3 → ⊥) → (n ≡ 4 → ⊥) → (n ≡ 5 → ⊥) → (n ≡ 6 → ⊥) → (n ≡ 7 → ⊥) → rule_word n ≡ []
unfolding rule_word
word_none zero a b c d e f g = refl
word_none (suc n) a b c d e f g = get_or-eq_default ([] ∷ rule_words) [] {n = suc n}
    (past 7 (past 6 (past 5 (past 4 (past 3 (past 2 (past 1 (omega arith) a) b) c) d) e) f) g)

pub yes-form : answer_text Yes ≡ word "yes\n"
unfolding answer_text line spaced
yes-form = refl

pub rule-form : (n : ℕ) → answer_text (Broken n) ≡ filled (word "rule 0 ") (n ∷ []) [] ++ (rule_word n ++ (10 ∷ []))
unfolding answer_text line spaced filled
rule-form n = sym (filled-then (word "rule 0 ") (n ∷ []) [] (rule_word n ++ (10 ∷ [])))

pub refused-form : (x : Refusal) {n : ℕ} → n ≡ number_of x → answer_text (Refused x) ≡ filled (word "refused 0\n") (n ∷ []) []
unfolding answer_text line spaced filled
refused-form x e = ap (λ (k : ℕ). filled (word "refused 0\n") (k ∷ []) []) (sym e)
