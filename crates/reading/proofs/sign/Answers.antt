use Rattle.std.proofs.Common.{[], refl}
use Rattle.reading.specs.Level.{text_of}
use Rattle.reading.proofs.sign.Goals as goal

pub returns-then-below : goal.returns-then-below
unfolding text_of
returns-then-below c = rw c.if-below.true (c.push.ensures [] refl)

pub returns-else-below : goal.returns-else-below
unfolding text_of
returns-else-below c = rw c.if-below.false
