-- `pass` meets its contract. The loop's invariant is `Going`: what is done and what is left make up what is to be done.
-- Assumes nothing.
use Prim.Native.Nat.{◌-◌}
use lib.ListN.{length}
use Rattle.dump_text.proofs.Passing.{Going}
use Rattle.dump_text.proofs.pass.Given as goal

abbrev pub invariant-loop-cursor : goal.invariant-loop-cursor
invariant-loop-cursor l = Going l.more l.index l.input l.initial.out l.cursor.at l.written l.next l.out

abbrev pub decreases-loop-cursor : goal.decreases-loop-cursor
decreases-loop-cursor l = length l.input - l.cursor.at
