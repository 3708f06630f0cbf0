-- What is printed of books: a rule from 1 to 7 or a refusal without a place (`given`), so that a text tells which answer it is (`books-apart`) and has
-- 24 bytes at the most (`given-most`).
-- Assumes nothing.
use mathlib.Core.Path.{◌≡◌, refl}
use mathlib.Core.List.{List}
use Prim.Native.Nat.{ℕ, ◌≤◌}
use native.Mathlib.Omega.{arith}
use lib.ListN.{length}
use Rattle.texts.specs.Words.{line, spaced}
use Rattle.book.specs.Book.{Read, opened_for}
use Rattle.locker_profile.specs.Profile.{Answer, Broken, Refused, Yes, answer_for}
use Rattle.locker_profile.proofs.Bounds.{broken-bounds, profiled-place}
use Rattle.profile_text.specs.Text.{answer_text}
use Rattle.profile_text.proofs.Apart.{IsGiven, texts-apart}
use Rattle.profile_text.proofs.Longest.{refused-most, rule-most}

pub given : (b : List ℕ) → IsGiven (answer_for b)
given b = by (answer_for b) refl
  where
    by : (a : Answer) → answer_for b ≡ a → IsGiven a
    by Yes e = tt
    by (Broken n) e = broken-bounds (opened_for Read b) n e
    by (Refused x) e = profiled-place b x e

pub books-apart : (b c : List ℕ) → answer_text (answer_for b) ≡ answer_text (answer_for c) → answer_for b ≡ answer_for c
books-apart b c e = texts-apart (answer_for b) (answer_for c) (given b) (given c) e

text-most : (a : Answer) → IsGiven a → length (answer_text a) ≤ 24
unfolding answer_text line spaced
text-most Yes g = omega arith
text-most (Broken n) g = rule-most n g.1
text-most (Refused x) g = omega (arith, refused-most x)

pub given-most : (b : List ℕ) → length (answer_text (answer_for b)) ≤ 24
given-most b = text-most (answer_for b) (given b)
