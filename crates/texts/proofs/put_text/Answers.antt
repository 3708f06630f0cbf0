use Rattle.std.proofs.Common.{ℕ, add-one, ap, take, ◌∙◌}
use Rattle.std.proofs.Math.Seq.{take-suc}
use Rattle.texts.proofs.Writing.{puts_then, puts-as}
use Rattle.texts.proofs.put_text.Goals as goal

pub loop-b-preserved : goal.loop-b-preserved
loop-b-preserved c =
    let text = c.args.text.now in
    let i = c.loop-b.b-index in
    puts-as _ (ap (λ (k : ℕ). take k text) (add-one i) ∙ take-suc text i 0 c.loop-b-test.true) (puts_then c.loop-b.invariant c.put_byte-to.ensures)
