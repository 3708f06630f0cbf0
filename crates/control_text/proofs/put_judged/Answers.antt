-- `put_judged` meets its contract: the first status judges no frame.
-- Assumes nothing.
use borrow.Author.Tests.{eq-eqb, ne_eqb}
use Rattle.texts.proofs.Writing.{puts-as, puts_none, puts_then}
use Rattle.control_text.specs.Text.{judged_words}
use Rattle.control_text.proofs.Forms.{judged-form, none-form}
use Rattle.control_text.proofs.put_judged.Goals as goal

pub returns-then-sent-eq0 : goal.returns-then-sent-eq0
unfolding judged_words
returns-then-sent-eq0 c = puts-as _ (none-form _ (rw (eq-eqb _ _ c.if-sent-eq0.true))) (puts_none _ _)

pub returns : goal.returns
unfolding judged_words
returns c =
    puts-as _ (judged-form _ _ _ (rw (ne_eqb _ _ c.if-sent-eq0.false))) (puts_then c.put_form-to.ensures c.put_name.ensures)
