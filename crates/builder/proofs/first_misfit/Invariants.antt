-- The loop's invariant: the arguments before the j-th fit. Assumes nothing.
use Prim.Native.Nat.{◌+◌, ◌≤◌}
use mathlib.Core.Path.{◌≡◌}
use lib.ListN.{drop}
use Rattle.table.specs.Table.{count_of, numbers_of}
use Rattle.builder.specs.Building.{first_misfit}
use Rattle.builder.proofs.first_misfit.Given as goal

abbrev pub invariant-loop-j : goal.invariant-loop-j
invariant-loop-j g l =
    (l.j ≤ count_of l.row) × (count_of l.row ≤ 9)
    × (first_misfit g.W.Way.takes 1 (numbers_of l.row) l.args ≡ first_misfit g.W.Way.takes (1 + l.j) (drop l.j (numbers_of l.row)) (drop l.j l.args))
