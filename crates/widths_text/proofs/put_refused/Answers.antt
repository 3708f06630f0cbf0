-- `put_refused` meets its contract: filled in, the form is the line.
-- Assumes nothing.
use borrow.Author.Tests.{lt-ltb, le-ltb}
use Rattle.texts.proofs.Writing.{puts-as}
use Rattle.widths_text.specs.Text.{refused_text}
use Rattle.widths_text.proofs.Forms.{refused-form, bank-refused-form}
use Rattle.widths_text.proofs.put_refused.Goals as goal

pub returns-then-place-gt0 : goal.returns-then-place-gt0
unfolding refused_text
returns-then-place-gt0 c =
    rw (← c.place-place.ensures, ← c.number-number.ensures, lt-ltb 0 _ c.if-place-gt0.true)
    (puts-as _ (bank-refused-form _ _) c.put_form.ensures)

pub returns-else-place-gt0 : goal.returns-else-place-gt0
unfolding refused_text
returns-else-place-gt0 c =
    rw (← c.place-place.ensures, ← c.number-number.ensures, le-ltb 0 _ c.if-place-gt0.false)
    (puts-as _ (refused-form _ _) c.put_form-else-place-gt0.ensures)
