-- `put_step` meets its contract: its parts make the line.
-- Assumes nothing.
use Rattle.texts.proofs.Writing.{puts-as, puts_then}
use Rattle.control_text.proofs.Forms.{step-form}
use Rattle.control_text.proofs.put_step.Goals as goal

pub returns : goal.returns
returns c =
    puts-as _ (step-form _ _ _)
    (puts_then c.put_decimal-a.ensures (puts_then c.put_judged-b.ensures (puts_then c.put_turn-c.ensures c.put_byte.ensures)))
