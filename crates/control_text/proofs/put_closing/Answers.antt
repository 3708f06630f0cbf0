-- `put_closing` meets its contract: filled in, each form is its line.
-- Assumes nothing.
use mathlib.Core.Path.{ap, ◌∙◌}
use Rattle.controller.specs.declared.State.{State}
use Rattle.texts.proofs.Writing.{puts-as, puts_then}
use Rattle.control_text.specs.Text.{closing}
use Rattle.control_text.proofs.Forms.{done-form, stopped-form, waiting-form}
use Rattle.control_text.proofs.put_closing.Goals as goal

pub returns-in-Running : goal.returns-in-Running
returns-in-Running c =
    let s = c.args.status.now in
    puts-as _ (ap (λ (st : State). closing st s) c.in-Running.is ∙ waiting-form _ s) c.put_form.ensures

pub returns-in-Done : goal.returns-in-Done
returns-in-Done c =
    let s = c.args.status.now in
    puts-as _ (ap (λ (st : State). closing st s) c.in-Done.is ∙ done-form s) c.put_text.ensures

pub returns-in-Stopped : goal.returns-in-Stopped
returns-in-Stopped c =
    let s = c.args.status.now in
    puts-as _ (ap (λ (st : State). closing st s) c.in-Stopped.is ∙ stopped-form _ s)
    (puts_then c.put_form-a.ensures (puts_then c.put_name-b.ensures c.put_byte.ensures))
