-- The answer of a call of the book as C has it.
-- Assumes nothing.
use Rattle.std.specs.Prelude.{ℕ, ◌≡◌, List}
use Rattle.book.specs.Book.{Outcome}
use Rattle.hoardbutton.specs.declared.answers.HbAnswer.{HbAnswer}
use Rattle.hoardbutton.specs.Answers.{answer_c}

-- the answer of an outcome, with its bytes or with its output
abbrev pub Leaves : Outcome → HbAnswer → List ℕ → Type 0
Leaves o r x = (r ≡ answer_c o.answer) × (x ≡ o.bytes)

abbrev pub Writes : Outcome → HbAnswer → List ℕ → Type 0
Writes o r x = (r ≡ answer_c o.answer) × (x ≡ o.output)
