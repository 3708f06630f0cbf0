-- `run` meets its contract. The loop's invariant is `Going`: the lines that stand there, and what is played from here on, make up the whole.
-- Assumes nothing.
use Prim.Native.Nat.{◌-◌}
use lib.ListN.{length}
use Rattle.control_text.proofs.Turns.{Going}
use Rattle.control_text.proofs.run.Given as goal

abbrev pub invariant-loop-state : goal.invariant-loop-state
invariant-loop-state l = Going l.book l.text l.initial.state l.initial.out l.state l.last l.at l.to l.out

abbrev pub decreases-loop-state : goal.decreases-loop-state
decreases-loop-state l = length l.text - l.at
