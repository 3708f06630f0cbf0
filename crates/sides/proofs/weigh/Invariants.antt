use Prim.Native.Nat.{◌*◌, ◌+◌, ◌-◌, ◌≤◌}
use mathlib.Core.Path.{◌≡◌}
use Rattle.table.specs.Table.{settings}
use Rattle.owners.specs.Owners.{owns}
use Rattle.sides.specs.Means.{weight_from}
use Rattle.sides.proofs.weigh.Given as goal

abbrev pub invariant-loop-s : goal.invariant-loop-s
invariant-loop-s l =
    (l.first ≤ 12 * l.s) × (l.second ≤ 12 * l.s) × (weight_from l.slots settings (owns l.owners 1) l.book 0
    ≡ l.first + weight_from l.slots (settings - l.s) (owns l.owners 1) l.book l.s)
    × (weight_from l.slots settings (owns l.owners 2) l.book 0 ≡ l.second + weight_from l.slots (settings - l.s) (owns l.owners 2) l.book l.s)
