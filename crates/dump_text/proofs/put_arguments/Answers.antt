-- `put_arguments` meets its contract. The loop's invariant: the first `n-index` arguments stand there.
-- Assumes nothing.
use mathlib.Core.Path.{refl, ◌∙◌}
use native.Mathlib.Omega.{arith}
use Rattle.dump_text.specs.Text.{blanked}
use Rattle.dump_text.proofs.Writing.{puts_then, puts-as, puts_none, puts-length, blanked-next, blanked-room}
use Rattle.dump_text.proofs.put_arguments.Goals as goal

pub loop-n-init : goal.loop-n-init
unfolding blanked
loop-n-init c = (refl, puts_none _ _)

pub put_number-to-requires : goal.put_number-to-requires
put_number-to-requires c =
    omega (arith, c.loop-n.invariant.1.behind, blanked-room c.args.args.now c.loop-n.n-index (omega arith))

pub loop-n-preserved : goal.loop-n-preserved
loop-n-preserved c =
    let put = c.put_number-to.ensures in
    let args = c.args.args.now in
    (puts-length put ∙ c.loop-n.invariant.0, puts-as _ (blanked-next args c.loop-n.n-index (omega arith)) (puts_then c.loop-n.invariant.1 put))
