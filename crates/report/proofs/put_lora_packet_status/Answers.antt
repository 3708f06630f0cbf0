-- `put_lora_packet_status` meets its contract: its pieces make the line.
-- Assumes nothing.
use mathlib.Core.Path.{refl, ap, ◌∙◌}
use borrow.Author.Rules.{rules}
use Rattle.texts.proofs.Writing.{puts_then, puts-as, puts_none}
use Rattle.report.specs.Report.{lora_packet_status_text}
use Rattle.report.proofs.Forms.{lora-packet-form, yes-or-no}
use Rattle.report.proofs.put_lora_packet_status.Goals as goal

pub returns : goal.returns
returns c =
    let front = rw (c.from.ensures ∙ yes-or-no _) at c.put_form-a.ensures in
    let back = puts_then c.put_level-c.ensures (puts_then c.put_level-d.ensures c.put_form.ensures) in
    puts-as _ (ap lora_packet_status_text c.in-Some.is ∙ lora-packet-form _ _ _ _ _ _ _) (puts_then front (puts_then c.put_ratio-b.ensures back))
