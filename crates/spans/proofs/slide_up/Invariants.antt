use Rattle.std.proofs.Common.{◌≡◌, ◌+◌, ◌≤◌, length}
use Rattle.spans.proofs.Pastes.{raised}
use Rattle.spans.proofs.slide_up.Given as goal

abbrev pub invariant-loop-i : goal.invariant-loop-i
invariant-loop-i l = (l.i ≤ l.m) × (l.b ≡ raised l.fn.b l.at l.gap l.m l.i) × (l.at + l.gap + l.m ≤ length l.fn.b)
