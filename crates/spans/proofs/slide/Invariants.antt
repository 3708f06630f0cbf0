use Rattle.std.proofs.Common.{◌≡◌, ◌+◌, ◌≤◌, length, drop}
use Rattle.std.proofs.Math.Seq.{paste}
use Rattle.spans.proofs.slide.Given as goal

abbrev pub invariant-loop-i : goal.invariant-loop-i
invariant-loop-i l = (l.b ≡ paste l.fn.b l.at (drop (l.at + l.gap) l.fn.b) l.i) × (l.at + l.gap + l.m ≤ length l.fn.b)
