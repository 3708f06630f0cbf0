use mathlib.Core.Path.{sym, ◌∙◌}
use Rattle.contents.specs.Contents.{layout}
use Rattle.book.proofs.Calls.{handed, ready-both, ready-one, ready_refused}
use Rattle.book.proofs.is_sound.Goals as goal

pub returns-then-both_forms : goal.returns-then-both_forms
returns-then-both_forms c =
    let a = c.args in
    ready-both (layout a.version a.slots) a.book.now (sym c.in_ok-check.was ∙ c.check.ensures)
    (sym c.both_forms.ensures ∙ c.if-both_forms.true)

pub returns-else-both_forms : goal.returns-else-both_forms
returns-else-both_forms c =
    let a = c.args in
    ready-one (layout a.version a.slots) a.book.now (sym c.in_ok-check.was ∙ c.check.ensures)
    (sym c.both_forms.ensures ∙ c.if-both_forms.false)

pub returns-in_err-check : goal.returns-in_err-check
returns-in_err-check c = handed _ _ c.from_residual.ensures.1 ∙ ready_refused _ _ _ (sym c.in_err-check.was ∙ c.check.ensures)
