-- `put_refused_by` meets its contract.
-- Assumes nothing.
use mathlib.Core.Path.{refl}
use borrow.Author.Rules.{rules}
use borrow.Author.Tests.{lt-ltb, le-ltb}
use Rattle.texts.proofs.Writing.{puts-as, puts_none}
use Rattle.report.specs.Report.{refused_by}
use Rattle.report.proofs.Forms.{refused-form}
use Rattle.report.proofs.put_refused_by.Goals as goal

pub returns-then-n-gt0 : goal.returns-then-n-gt0
unfolding refused_by
returns-then-n-gt0 c = rw (lt-ltb 0 _ c.if-n-gt0.true) (puts-as _ (refused-form _ _) c.put_form.ensures)

pub returns-else-n-gt0 : goal.returns-else-n-gt0
unfolding refused_by
returns-else-n-gt0 c = rw (le-ltb 0 _ c.if-n-gt0.false) (puts_none _ _)
