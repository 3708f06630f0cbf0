-- The loop's invariant: what the whole list gives is what the fields from j on put into the bytes so far. Assumes nothing.
use Prim.Native.Nat.{◌≤◌}
use mathlib.Core.Path.{◌≡◌}
use mathlib.Core.List.{◌∷◌}
use lib.ListN.{length, drop, replicate}
use Rattle.frame.specs.Layout.{puts}
use Rattle.table.specs.Table.{count_of, numbers_of}
use Rattle.builder.specs.Ways.{fields_by, row_by}
use Rattle.builder.proofs.packed.Given as goal

abbrev pub invariant-loop-j : goal.invariant-loop-j
invariant-loop-j g l =
    (l.j ≤ count_of l.row) × (count_of l.row ≤ 9) × (length l.args ≡ count_of l.row) × (length l.out ≡ 12)
    × (puts (replicate 12 0) (row_by g.W.Way.field l.row) (l.op ∷ l.args) ≡ puts l.out (fields_by g.W.Way.field (drop l.j (numbers_of l.row))) (drop l.j l.args))
