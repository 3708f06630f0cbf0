use mathlib.Core.Path.{refl}
use native.Mathlib.Omega.{arith}
use Rattle.playback.proofs.Sizes.{turn-sent, turn-received}
use Rattle.playback.proofs.turn.Goals as goal

pub returns-then-part-i-eq0 : goal.returns-then-part-i-eq0
returns-then-part-i-eq0 c =
    let whole = turn-sent _ _ _ c.requires.1 _ _ _ _ (omega arith) (c.send.ensures.value, c.send.ensures.book_after) in
    record { value = whole.0; book_after = whole.1 }

pub returns-else-part-i-eq0 : goal.returns-else-part-i-eq0
returns-else-part-i-eq0 c =
    let whole = turn-received _ _ _ c.requires.1 _ _ _ _ (λ e. omega (arith, e)) c.receive.ensures refl in
    record { value = whole.0; book_after = whole.1 }
