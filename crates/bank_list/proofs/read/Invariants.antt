-- The loop's invariant is `Going`: what the lines done give and what is left make up what the text gives.
-- Assumes nothing.
use Rattle.std.proofs.Common.{◌-◌, length}
use Rattle.bank_list.proofs.Turns.{Going}
use Rattle.bank_list.proofs.read.Given as goal

abbrev pub invariant-loop-at : goal.invariant-loop-at
invariant-loop-at l = Going l.text l.l l.done l.at

abbrev pub decreases-loop-at : goal.decreases-loop-at
decreases-loop-at l = length l.text - l.at
