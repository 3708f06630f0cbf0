use mathlib.Core.Path.{refl, sym, ◌∙◌}
use Rattle.owners.specs.Owners.{spare_first}
use Rattle.owners.proofs.Loops.{spare-end, spare-pass, spare-stop}
use Rattle.owners.proofs.spare_first.Goals as goal

pub loop-i-init : goal.loop-i-init
unfolding spare_first
loop-i-init c = refl

pub returns-then-owners-i-ne1 : goal.returns-then-owners-i-ne1
returns-then-owners-i-ne1 c =
    sym (c.loop-i.invariant ∙ spare-stop _ _ c.loop-i-test.true c.if-owners-i-ne1.true)

pub loop-i-preserved : goal.loop-i-preserved
loop-i-preserved c =
    c.loop-i.invariant ∙ spare-pass _ _ c.loop-i-test.true c.if-owners-i-ne1.false

pub returns : goal.returns
returns c = sym (c.loop-i.invariant ∙ spare-end _ _ c.loop-i-test.false)
