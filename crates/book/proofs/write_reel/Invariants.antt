use mathlib.Core.Path.{◌≡◌}
use Prim.Native.Nat.{◌+◌, ◌-◌, ◌≤◌}
use lib.ListN.{length}
use Rattle.contents.specs.Contents.{start}
use Rattle.book.specs.Edits.{Tiles, reel_from}
use Rattle.book.proofs.write_reel.Given as goal

abbrev pub invariant-loop-i : goal.invariant-loop-i
invariant-loop-i l =
    (l.p ≤ l.e) × (length l.out ≡ length l.initial.out) × (l.w + (l.e - l.p) + (l.c - l._i) ≤ length l.initial.out) × (reel_from l.slots l.c l.b (start l.slots)
    l.e 0 l.initial.out ≡ reel_from l.slots (l.c - l._i) l.b l.p l.e l.w l.out) × Tiles l.slots (l.c - l._i) l.b l.p l.e
