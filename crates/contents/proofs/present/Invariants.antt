use mathlib.Core.Path.{◌≡◌}
use Prim.Native.Nat.{◌+◌, ◌-◌, ◌≤◌}
use Rattle.contents.specs.Contents.{present_from}
use Rattle.contents.proofs.present.Given as goal

abbrev pub invariant-loop-s : goal.invariant-loop-s
invariant-loop-s l = (l.n ≤ l.s) × (present_from l.slots l.b 0 ≡ l.n + present_from (l.slots - l.s) l.b l.s)
