-- `put_fsk_packet_status` meets its contract: its pieces make the line.
-- Assumes nothing.
use mathlib.Core.Path.{refl, ap, ◌∙◌}
use borrow.Author.Rules.{rules}
use Rattle.texts.proofs.Writing.{puts_then, puts-as, puts_none}
use Rattle.report.specs.Report.{fsk_packet_status_text}
use Rattle.report.proofs.Forms.{fsk-packet-form, yes-or-no}
use Rattle.report.proofs.put_fsk_packet_status.Goals as goal

pub returns : goal.returns
returns c =
    let back = rw (c.from.ensures ∙ yes-or-no _, c.from-2.ensures ∙ yes-or-no _) at c.put_form.ensures in
    puts-as _ (ap fsk_packet_status_text c.in-Some.is ∙ fsk-packet-form _ _ _ _ _ _)
    (puts_then c.put_form-a.ensures (puts_then c.put_level-b.ensures (puts_then c.put_level-c.ensures back)))
