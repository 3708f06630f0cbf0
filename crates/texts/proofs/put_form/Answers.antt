use Rattle.texts.specs.Written.{filled}
use Rattle.texts.proofs.Forms.{filled_next}
use Rattle.texts.proofs.Writing.{puts_then, puts-as, puts_none}
use Rattle.texts.proofs.put_form.Goals as goal

pub loop-b-init : goal.loop-b-init
unfolding filled
loop-b-init c = puts_none _ _

pub loop-b-preserved : goal.loop-b-preserved
loop-b-preserved c =
    puts-as _ (filled_next c.args.form.now c.args.numbers.now c.loop-b.b-index c.loop-b-test.true) (puts_then c.loop-b.invariant c.put_piece-to.ensures)
