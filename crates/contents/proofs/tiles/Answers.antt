use mathlib.Core.Path.{sym, ◌∙◌}
use native.Mathlib.Omega.{arith}
use borrow.Author.Tests.{eq-eqb, ne_eqb}
use Rattle.contents.proofs.Loops.{frames_from-end, frames_from-pass, frames_from-stop}
use Rattle.contents.proofs.tiles.Goals as goal

pub returns-then-n-eq0 : goal.returns-then-n-eq0
returns-then-n-eq0 c =
    sym (c.loop-i.invariant.2
    ∙ frames_from-stop _ _ _ _ _ _ c.loop-i-test.true (sym c.len_at-n.ensures.0 ∙ c.if-n-eq0.true))

pub loop-i-preserved : goal.loop-i-preserved
loop-i-preserved c = (
  omega arith,
  omega arith,
  c.loop-i.invariant.2 ∙ frames_from-pass _ _ _ _ _ _ _ c.loop-i-test.true c.len_at-n.ensures.0 c.if-n-eq0.false,
)

pub returns-then-p-e : goal.returns-then-p-e
returns-then-p-e c = sym (c.loop-i.invariant.2 ∙ frames_from-end _ _ _ _ _ _ c.loop-i-test.false ∙ rw (eq-eqb _ _ c.if-p-e.true))

pub returns : goal.returns
returns c = sym (c.loop-i.invariant.2 ∙ frames_from-end _ _ _ _ _ _ c.loop-i-test.false ∙ rw (ne_eqb _ _ c.if-p-e.false))
