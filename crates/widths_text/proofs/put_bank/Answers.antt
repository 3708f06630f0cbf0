-- `put_bank` meets its contract: its pieces make the line.
-- Assumes nothing.
use Rattle.texts.proofs.Writing.{puts_then, puts-as}
use Rattle.widths_text.proofs.Forms.{bank-form}
use Rattle.widths_text.proofs.put_bank.Goals as goal

pub returns : goal.returns
returns c =
    let front = rw c.rx_bw_tenths-name.ensures at c.put_form-a.ensures in
    let width = rw c.divisor-width.ensures at c.put_millionths-b.ensures in
    puts-as _ (bank-form _ _ _) (puts_then front (puts_then width c.put_byte.ensures))
