use Rattle.std.proofs.Common.{append_assoc}
use Rattle.reading.specs.Level.{hundredths}
use Rattle.reading.proofs.push_hundredths.Goals as goal

pub returns : goal.returns
unfolding hundredths
returns c l e =
    let whole = c.push_decimal-whole.ensures l e in
    let point = c.push.ensures _ whole in
    let tenth = c.push-2.ensures _ point in
    simp (append_assoc, c.last_digit.ensures, c.last_digit-2.ensures) at (c.push-3.ensures _ tenth)
