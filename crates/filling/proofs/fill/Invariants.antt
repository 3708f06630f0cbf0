use mathlib.Core.Path.{◌≡◌}
use Prim.Native.Nat.{◌-◌}
use lib.ListN.{length}
use Rattle.filling.proofs.Filling.{Along}
use Rattle.filling.proofs.fill.Given as goal

abbrev pub invariant-loop-found : goal.invariant-loop-found
invariant-loop-found l = (length l.b ≡ length l.initial.b) × Along l.slots l.reel l.initial.b l.b l.cursor.at

abbrev pub decreases-loop-found : goal.decreases-loop-found
decreases-loop-found l = length l.reel - l.cursor.at
