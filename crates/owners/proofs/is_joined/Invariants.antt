use mathlib.Core.Path.{◌≡◌}
use lib.ListN.{drop}
use Rattle.table.specs.Table.{forms}
use Rattle.owners.specs.Owners.{joined, joined_in}
use Rattle.owners.proofs.is_joined.Given as goal

abbrev pub invariant-loop-short : goal.invariant-loop-short
invariant-loop-short l = joined l.owners ≡ joined_in (drop l.short-index forms) l.owners
