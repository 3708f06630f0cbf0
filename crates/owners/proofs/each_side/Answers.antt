use mathlib.Core.Path.{sym, ◌∙◌, ◌≡◌}
use mathlib.Core.Bool.{false, true}
use lib.ListN.{get_or}
use Rattle.owners.specs.Owners.{is_side}
use Rattle.owners.proofs.Loops.{each-end, each-pass, each-stop}
use Rattle.owners.proofs.each_side.Goals as goal

pub loop-owner-preserved : goal.loop-owner-preserved
loop-owner-preserved c =
    let owners = c.args.owners.now in
    let e : is_side (get_or owners c.loop-owner.owner-index 0) ≡ true = cc in
    c.loop-owner.invariant ∙ each-pass owners c.loop-owner.owner-index c.loop-owner-test.true e

pub returns-then-not-is_side : goal.returns-then-not-is_side
returns-then-not-is_side c =
    let owners = c.args.owners.now in
    let e : is_side (get_or owners c.loop-owner.owner-index 0) ≡ false = cc in
    sym (c.loop-owner.invariant ∙ each-stop owners c.loop-owner.owner-index c.loop-owner-test.true e)

pub returns : goal.returns
returns c = sym (c.loop-owner.invariant ∙ each-end _ _ c.loop-owner-test.false)
