use native.Mathlib.Omega.{arith}
use Rattle.playback.proofs.Running.{comes-same, comes-still, header-low, header-passed, header-short, header-waits}
use Rattle.playback.proofs.play_header.Goals as goal

pub returns-then-more : goal.returns-then-more
returns-then-more c =
    comes-still _ _ _ _ _ _ (λ i. (c.slice_known-1.given i).fits) c.requires (header-waits _ _ _ _ c.if-part-lt4.true c.if-more.true)
    c.halt.ensures

pub returns-then-part-lt4 : goal.returns-then-part-lt4
returns-then-part-lt4 c =
    comes-still _ _ _ _ _ _ (λ i. (c.slice_known-1.given i).fits) c.requires (header-short _ _ _ _ c.if-part-lt4.true c.if-more.false)
    c.halt-then-part-lt4.ensures

pub returns-then-first-lt4 : goal.returns-then-first-lt4
returns-then-first-lt4 c =
    comes-still _ _ _ _ _ _ (λ i. (c.slice_known-1.given i).fits) c.requires
    (header-low _ _ _ _ c.if-part-lt4.false (omega (arith, c.word-first.ensures.0))) c.halt-then-first-lt4.ensures

pub returns : goal.returns
returns c =
    comes-same _ _ _ _ _ _
    (header-passed _ _ _ _ c.if-part-lt4.false _ _ c.word-first.ensures.0 c.word-count.ensures.0 c.if-first-lt4.false)
    c.play_gap.ensures
