-- `look_ahead` meets its contract: the loop's invariant is `Seeking`. Assumes nothing.
use Prim.Native.Nat.{◌-◌}
use lib.ListN.{length}
use Rattle.controller.proofs.Walking.{Seeking}
use Rattle.controller.proofs.look_ahead.Given as goal

abbrev pub invariant-loop-found : goal.invariant-loop-found
invariant-loop-found l = Seeking l.reel l.sent l.cursor.at l.left

abbrev pub decreases-loop-found : goal.decreases-loop-found
decreases-loop-found l = length l.reel - l.cursor.at
