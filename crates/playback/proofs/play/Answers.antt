use native.Mathlib.Omega.{arith}
use Rattle.playback.proofs.Playing.{play-made, play-refused}
use Rattle.playback.proofs.play.Goals as goal

pub returns-in_default : goal.returns-in_default
returns-in_default c =
    let whole = play-refused _ _ _ _ _ _ c.make-made.ensures c.in_default.is c.fresh-day.ensures in
    record { value = whole.0; book_after = whole.1 }

pub returns : goal.returns
returns c =
    let whole = play-made _ _ _ _ _ c.make-made.ensures c.in-Ok.is (omega (arith, c.well_formed.0.0)) (λ i. (c.shared_slice_known-1.given i).fits)
    _ c.start.ensures _ _ (c.pass-passed.ensures.value, c.pass-passed.ensures.book_after) _ c.end.ensures in
    record { value = whole.0; book_after = whole.1 }
