-- `put_counts` meets its contract.
-- Assumes nothing.
use mathlib.Core.Path.{refl}
use borrow.Author.Rules.{rules}
use Rattle.texts.proofs.Writing.{puts_then, puts-as}
use Rattle.report.specs.Report.{counts_text}
use Rattle.report.proofs.Forms.{records-form, skipped-form}
use Rattle.report.proofs.put_counts.Goals as goal

pub returns : goal.returns
unfolding counts_text
returns c =
    let front = puts-as _ (records-form _ _) c.put_form-a.ensures in
    puts_then (puts_then front c.put_refused-b.ensures) (puts-as _ (skipped-form _) c.put_form.ensures)
