use native.Mathlib.Omega.{arith}
use Rattle.book.proofs.Refitting.{shifted-after, shifted-gone, shifted-kept}
use Rattle.book.proofs.shifted.Goals as goal

pub returns-then-at-o : goal.returns-then-at-o
returns-then-at-o c = (shifted-after _ _ _ _ c.if-at-o.true, omega arith)

pub returns-then-o-at : goal.returns-then-o-at
returns-then-o-at c = (shifted-gone _ _ _ _ c.if-at-o.false c.if-o-at.true, omega arith)

pub returns : goal.returns
returns c = (shifted-kept _ _ _ _ c.if-at-o.false c.if-o-at.false, omega arith)
