-- `lay` meets its contract: the text so far stands, and what is left of it is the text of what is left of the reel.
-- Assumes nothing.
use mathlib.Core.Path.{◌≡◌}
use mathlib.Core.Bool.{cond}
use Prim.Native.Nat.{◌-◌, ◌≤◌}
use lib.ListN.{length}
use Rattle.dump_text.specs.Text.{text_of}
use Rattle.dump_text.proofs.Whole.{Reached, so_far}
use Rattle.dump_text.proofs.lay.Given as goal

abbrev pub invariant-loop-used : goal.invariant-loop-used
invariant-loop-used l =
    Reached l.reel l.at l.index l.used
    × (l.at ≤ length l.out)
    × (length l.out ≡ length l.initial.out)
    × (l.out ≡ cond l.write (so_far (text_of l.reel) l.at l.initial.out) l.initial.out)
    × (length l.part ≡ 512)

abbrev pub decreases-loop-used : goal.decreases-loop-used
decreases-loop-used l = length l.reel - l.used
