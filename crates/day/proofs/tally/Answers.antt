use mathlib.Core.Path.{refl}
use native.Mathlib.Omega.{arith}
use Rattle.day.specs.Days.{bumped, noted, accepted_one, refused_one}
use Rattle.day.proofs.Days.{tally-counted}
use Rattle.day.proofs.tally.Goals as goal

pub returns-in-Ok : goal.returns-in-Ok
unfolding accepted_one noted
returns-in-Ok c = rw (c.in-Ok.is, c.plus.ensures, c.note-next.ensures) refl

pub returns-then-n-lt9 : goal.returns-then-n-lt9
unfolding refused_one bumped noted
returns-then-n-lt9 c =
    rw (c.plus-then-n-lt9.ensures, c.note-next.ensures)
    (tally-counted _ _ _ _ c.in-Err.is _
    c.number-n.ensures (omega arith))
