-- `line` meets its contract: where there is room for the longest line, there is for this one.
-- Assumes nothing.
use native.Mathlib.Omega.{arith}
use Rattle.dump_text.specs.Parts.{longest}
use Rattle.dump_text.proofs.Longest.{line-longest}
use Rattle.dump_text.proofs.Writing.{puts_whole}
use Rattle.dump_text.proofs.line.Goals as goal

pub put_line-requires : goal.put_line-requires
put_line-requires c =
    let a = c.args in
    omega (arith, line-longest a.index a.frame.now)

pub returns : goal.returns
returns c =
    let put = c.put_line.ensures in
    let whole = puts_whole _ _ longest (line-longest _ _) (omega arith) put in
    record { value = whole.0; out_after = whole.1.0; upper_bound = whole.1.1 }
