use mathlib.Core.Path.{◌≡◌}
use Prim.Native.Nat.{◌-◌}
use lib.ListN.{length}
use Rattle.owners.specs.Owners.{owns}
use Rattle.sides.proofs.Picking.{Picked}
use Rattle.sides.proofs.pick.Given as goal

abbrev pub invariant-loop-found : goal.invariant-loop-found
invariant-loop-found l = (length l.out ≡ length l.initial.out) × Picked (owns l.owners l.side) l.reel l.out l.w l.cursor.at

abbrev pub decreases-loop-found : goal.decreases-loop-found
decreases-loop-found l = length l.reel - l.cursor.at
