use native.Mathlib.Omega.{arith}
use Rattle.playback.proofs.Running.{comes-same, comes-still, gap_ends, gap-passed, gap-waits}
use Rattle.playback.proofs.play_gap.Goals as goal

pub returns-then-skip-here : goal.returns-then-skip-here
returns-then-skip-here c =
    comes-same _ _ _ _ _ _ (gap-passed _ _ _ _ _ _ _ c.requires.1 _ _ c.onward.ensures (omega arith))
    c.play_records.ensures

pub returns-then-more : goal.returns-then-more
returns-then-more c =
    comes-still _ _ _ _ _ _ (λ i. (c.slice_known-1.given i).fits) c.requires.0
    (gap-waits _ _ _ _ _ _ _ c.requires.1 _ (omega arith) c.if-more.true _ c.onward-then-more.ensures) c.halt.ensures

pub returns : goal.returns
returns c =
    comes-same _ _ _ _ _ _
    (gap_ends _ _ _ _ _ _ _ c.requires.1 _ (omega arith) c.if-more.false _ c.onward-2.ensures)
    c.play_records-2.ensures
