-- `put_banks` meets its contract. The loop's invariant: the lines of the first `i` banks stand there.
-- Assumes nothing.
use mathlib.Core.Path.{refl, ◌∙◌}
use native.Mathlib.Omega.{arith}
use Rattle.texts.proofs.Writing.{puts_then, puts-as, puts_none, puts-length}
use Rattle.widths_text.specs.Text.{bank_lines}
use Rattle.widths_text.proofs.Forms.{lines_next}
use Rattle.widths_text.proofs.put_banks.Goals as goal

pub loop-i-init : goal.loop-i-init
unfolding bank_lines
loop-i-init c = (refl, puts_none _ _)

pub loop-i-preserved : goal.loop-i-preserved
loop-i-preserved c =
    let put = c.put_bank-to.ensures in
    let l = c.loop-i in
    let a = c.args in
    let line = lines_next a.needs.now a.codes.now l.i (omega arith) (omega arith) in
    (puts-length put ∙ l.invariant.0, puts-as _ line (puts_then l.invariant.1 put))
