use mathlib.Core.Path.{◌≡◌}
use lib.ListN.{drop}
use Rattle.owners.specs.Owners.{each_side}
use Rattle.owners.proofs.each_side.Given as goal

abbrev pub invariant-loop-owner : goal.invariant-loop-owner
invariant-loop-owner l = each_side l.owners ≡ each_side (drop l.owner-index l.owners)
