use Rattle.std.proofs.Common.{◌≡◌, ◌≤◌, length}
use Rattle.histories.proofs.run.Given as goal

abbrev pub invariant-loop : goal.invariant-loop
invariant-loop l = (l.len ≤ length l.book) × (length l.s ≡ length l.fn.s)
