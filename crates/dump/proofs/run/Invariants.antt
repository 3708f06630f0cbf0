use Rattle.std.proofs.Common.{◌≡◌, ◌≤◌, length}
use Rattle.dump.proofs.run.Given as goal

abbrev pub invariant-loop : goal.invariant-loop
invariant-loop l = (l.from ≤ l.f.have) × (l.f.have ≤ length l.s) × (length l.s ≡ length l.fn.s)
