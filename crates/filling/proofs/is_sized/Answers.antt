use mathlib.Core.Path.{sym}
use native.Mathlib.Omega.{arith}
use Rattle.filling.proofs.Filling.{sized-long, sized-rest, sized-short}
use Rattle.filling.proofs.is_sized.Goals as goal

pub returns-then-len-gt-LONGEST : goal.returns-then-len-gt-LONGEST
returns-then-len-gt-LONGEST c = sym (sized-long _ _ c.if-len-gt-LONGEST.true)

pub returns-then-slots-len : goal.returns-then-slots-len
returns-then-slots-len c = sym (sized-short _ _ (omega arith))

pub returns : goal.returns
returns c = sized-rest _ _ (omega arith)
