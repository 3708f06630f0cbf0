use mathlib.Core.Path.{◌≡◌}
use lib.ListN.{drop}
use Rattle.owners.specs.Owners.{all_first, spare_first}
use Rattle.owners.proofs.spare_first.Given as goal

abbrev pub invariant-loop-i : goal.invariant-loop-i
invariant-loop-i l = spare_first l.owners ≡ all_first (drop l.i l.owners)
