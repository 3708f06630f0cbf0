use mathlib.Core.Path.{sym}
use borrow.Author.Tests.{eq-eqb, ne_eqb}
use Rattle.owners.specs.Owners.{is_side}
use Rattle.owners.proofs.is_side.Goals as goal

pub returns-then-w-eq1 : goal.returns-then-w-eq1
unfolding is_side
returns-then-w-eq1 c = sym (rw (eq-eqb _ 1 c.if-w-eq1.true))

pub returns-else-w-eq1 : goal.returns-else-w-eq1
unfolding is_side
returns-else-w-eq1 c = sym (rw (ne_eqb _ 1 c.if-w-eq1.false))
