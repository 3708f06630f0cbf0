-- The measure is what is left of the reel; each frame takes a byte at least, so the index stays below the place.
use Rattle.std.proofs.Common.{◌≡◌, ◌-◌, ◌≤◌, length}
use Rattle.play.proofs.say_frames.Given as goal

abbrev pub invariant-loop-found : goal.invariant-loop-found
invariant-loop-found l = (l.index ≤ l.place.at) × (l.place.at ≤ length l.reel) × (length l.line ≡ length l.fn.line)

abbrev pub decreases-loop-found : goal.decreases-loop-found
decreases-loop-found l = length l.reel - l.place.at
