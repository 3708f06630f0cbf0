use mathlib.Core.Path.{◌≡◌}
use Prim.Native.Nat.{◌-◌}
use Rattle.contents.specs.Contents.{slot_from}
use Rattle.contents.proofs.slot_from.Given as goal

abbrev pub invariant-loop-s : goal.invariant-loop-s
invariant-loop-s l = slot_from l.slots l.b l.p 0 ≡ slot_from (l.slots - l.s) l.b l.p l.s
