use mathlib.Core.Path.{sym, ◌∙◌}
use Rattle.contents.proofs.Loops.{all_zero-end, all_zero-join}
use Rattle.contents.proofs.tail_zero.Goals as goal

pub loop-i-preserved : goal.loop-i-preserved
loop-i-preserved c =
    let l = c.loop-i in
    l.invariant ∙ all_zero-join c.args.b.now l.bits l.i c.loop-i-test.true

pub returns : goal.returns
returns c =
    let l = c.loop-i in
    sym (l.invariant ∙ all_zero-end c.args.b.now l.bits l.i c.loop-i-test.false)
