-- the room that is left: a turn that goes on has read a byte at least
use Rattle.std.proofs.Common.{◌-◌, ◌≤◌, length}
use Rattle.histories.proofs.read_full.Given as goal

abbrev pub invariant-loop-have : goal.invariant-loop-have
invariant-loop-have l = l.have ≤ length l.s

abbrev pub decreases-loop-have : goal.decreases-loop-have
decreases-loop-have l = length l.s - l.have
