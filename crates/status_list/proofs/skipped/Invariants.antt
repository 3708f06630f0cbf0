-- `skipped` meets its contract: no word begins at what is passed, and what is left is counted from there.
-- Assumes nothing.
use mathlib.Core.Path.{◌≡◌}
use mathlib.Core.Bool.{false}
use Prim.Native.Nat.{◌+◌}
use lib.ListN.{drop}
use Rattle.status_list.specs.Found.{skipped_from}
use Rattle.status_list.proofs.skipped.Given as goal

abbrev pub invariant-loop-i : goal.invariant-loop-i
invariant-loop-i l = skipped_from false l.before l.s ≡ l.i + skipped_from l.c l.last (drop l.i l.s)
