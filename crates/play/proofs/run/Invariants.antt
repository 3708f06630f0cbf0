use Rattle.std.proofs.Common.{◌≡◌, ◌≤◌, length}
use Rattle.play.proofs.run.Given as goal

abbrev pub invariant-loop : goal.invariant-loop
invariant-loop l = (l.f.have ≤ length l.s) × (length l.s ≡ length l.fn.s) × (length l.book ≡ length l.fn.book)
