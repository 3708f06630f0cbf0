-- The bytes of the field before i have their parts. Assumes nothing.
use Rattle.frame.proofs.Bytewise.{Upto}
use Rattle.frame.proofs.Placed.put.Given as goal

abbrev pub invariant-loop-i : goal.invariant-loop-i
invariant-loop-i l = Upto l.self.field l.v l.initial.s l.s l.i
