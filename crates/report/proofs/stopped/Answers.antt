-- `stopped` meets its contract.
-- Assumes nothing.
use mathlib.Core.Path.{refl}
use native.Mathlib.Omega.{arith}
use borrow.Author.Rules.{rules}
use Rattle.texts.proofs.Writing.{puts-as, puts_whole, short-whole}
use Rattle.report.specs.Report.{stopped_text}
use Rattle.report.specs.Lengths.{longest_line}
use Rattle.report.proofs.Forms.{stopped-form}
use Rattle.report.proofs.Longest.{stopped-most}
use Rattle.report.proofs.stopped.Goals as goal

pub returns : goal.returns
unfolding stopped_text
returns c =
    let whole = puts_whole longest_line (stopped-most _) (omega arith) (puts-as _ (stopped-form 15 _) c.put_form.ensures) in
    record { value = whole.0; out_after = whole.1.0; upper_bound = whole.1.1 }
