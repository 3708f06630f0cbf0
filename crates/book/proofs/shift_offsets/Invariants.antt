use mathlib.Core.Path.{◌≡◌}
use Prim.Native.Nat.{ℕ, ◌-◌, ◌<◌, ◌≤◌}
use lib.ListN.{length}
use Rattle.contents.specs.Contents.{longest, offset_at}
use Rattle.book.specs.Edits.{remap, shifted_at}
use Rattle.book.proofs.shift_offsets.Given as goal

-- the offsets still to come are bounded as all were
abbrev pub invariant-loop-s : goal.invariant-loop-s
invariant-loop-s l =
    (length l.b ≡ length l.initial.b) × (remap (shifted_at l.at l.old l.new) l.slots l.initial.b 0 ≡ remap (shifted_at l.at l.old l.new) (l.slots - l.s) l.b l.s)
    × ((j : ℕ) → l.s ≤ j → j < l.slots → offset_at l.b j ≤ longest)
