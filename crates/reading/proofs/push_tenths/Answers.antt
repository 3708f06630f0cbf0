use Rattle.std.proofs.Common.{append_assoc}
use Rattle.reading.specs.Level.{tenths}
use Rattle.reading.proofs.push_tenths.Goals as goal

pub returns : goal.returns
unfolding tenths
returns c l e =
    let whole = c.push_decimal-whole.ensures l e in
    let point = c.push.ensures _ whole in
    simp (append_assoc, c.last_digit.ensures) at (c.push-2.ensures _ point)
