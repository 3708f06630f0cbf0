use Rattle.std.proofs.Common.{◌-◌, ◌≤◌, length}
use Rattle.front.proofs.Front.read_whole.Given as goal

abbrev pub invariant-loop-have : goal.invariant-loop-have
invariant-loop-have l = l.have ≤ length l.s

-- the room that is left in the buffer: a turn that goes on has read a byte at least
abbrev pub decreases-loop-have : goal.decreases-loop-have
decreases-loop-have l = length l.s - l.have
