-- `put_fsk_rx_stats` meets its contract: filled in, the form is the line.
-- Assumes nothing.
use mathlib.Core.Path.{refl, ap, ◌∙◌}
use borrow.Author.Rules.{rules}
use Rattle.texts.proofs.Writing.{puts-as, puts_none}
use Rattle.report.specs.Report.{fsk_rx_stats_text}
use Rattle.report.proofs.Forms.{fsk-rx-form}
use Rattle.report.proofs.put_fsk_rx_stats.Goals as goal

pub returns : goal.returns
returns c =
    puts-as _ (ap fsk_rx_stats_text c.in-Some.is ∙ fsk-rx-form _ _ _ _ _ _ _) c.put_form.ensures
