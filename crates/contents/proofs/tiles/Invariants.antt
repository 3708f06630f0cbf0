use mathlib.Core.Path.{◌≡◌}
use Prim.Native.Nat.{◌-◌, ◌≤◌}
use Rattle.contents.specs.Contents.{frames_from, start, verdict_of}
use Rattle.contents.proofs.tiles.Given as goal

abbrev pub invariant-loop-i : goal.invariant-loop-i
invariant-loop-i l = (start l.slots ≤ l.p) × (l.p ≤ l.e) × (verdict_of (frames_from l.slots l.c l.b (start l.slots) l.e) ≡ verdict_of (frames_from l.slots (l.c - l._i) l.b l.p l.e))
