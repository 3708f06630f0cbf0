use mathlib.Core.Path.{◌≡◌}
use Prim.Native.Nat.{◌+◌, ◌-◌, ◌≤◌}
use lib.ListN.{length}
use Rattle.table.specs.Table.{kinds}
use Rattle.owners.specs.Owners.{owns}
use Rattle.sides.specs.Means.{emptied_bytes}
use Rattle.sides.proofs.take_all_out.Given as goal

abbrev pub invariant-loop-k : goal.invariant-loop-k
invariant-loop-k l =
    (length l.book ≡ length l.initial.book)
    × (emptied_bytes (owns l.owners l.side) kinds 1 l.initial.book ≡ emptied_bytes (owns l.owners l.side) (kinds + 1 - l.k) l.k l.book)
