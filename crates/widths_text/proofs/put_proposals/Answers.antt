-- `put_proposals` meets its contract: a text by what the judgement is.
-- Assumes nothing.
use mathlib.Core.Path.{sym, ap, ◌∙◌}
use native.Mathlib.Omega.{arith}
use Rattle.texts.proofs.Writing.{puts_then, puts-as}
use Rattle.widths_text.specs.Text.{judged_text, proposals_text}
use Rattle.widths_text.proofs.Answers.{refused-served, proposals-right, proposals-other}
use Rattle.widths_text.proofs.put_proposals.Goals as goal

pub returns-in_default : goal.returns-in_default
unfolding proposals_text
returns-in_default c =
    puts-as _ (ap (judged_text _ _) (sym c.check.ensures ∙ c.in_default.is)) c.put_text.ensures

pub put_right-requires : goal.put_right-requires
put_right-requires c =
    rw c.place.ensures
    (refused-served _ _ _ (sym c.check.ensures ∙ c.in-Err.is) (omega arith))

pub returns-then-number-eq20 : goal.returns-then-number-eq20
returns-then-number-eq20 c =
    let right = rw c.place.ensures at c.put_right.ensures in
    puts-as _
    (proposals-right _ _ _ (sym c.check.ensures ∙ c.in-Err.is) (sym c.number.ensures ∙ c.if-number-eq20.true))
    (puts_then c.put_refused-to.ensures right)

pub returns-else-number-eq20 : goal.returns-else-number-eq20
returns-else-number-eq20 c =
    puts-as _
    (proposals-other _ _ _ (sym c.check.ensures ∙ c.in-Err.is) (λ e. c.if-number-eq20.false (c.number.ensures ∙ e)))
    c.put_refused-to.ensures
