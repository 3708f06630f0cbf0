use mathlib.Core.Path.{sym, ◌∙◌}
use native.Mathlib.Omega.{arith}
use Rattle.contents.proofs.Loops.{present_from-end, present_from-none, present_from-some}
use Rattle.contents.proofs.present.Goals as goal
use Rattle.contents.proofs.present.Goals.{then-offset_in-ne0, else-offset_in-ne0}

pub loop-s-preserved : goal.loop-s-preserved
loop-s-preserved c =
    let b = c.args.b.now in
    elim c.if-offset_in-ne0.branch [
      | then-offset_in-ne0 w ↦ (
        omega arith,
        omega (
          arith,
          c.loop-s.invariant.1,
          present_from-some c.args.slots b c.loop-s.s
              c.loop-s-test.true (λ e. w.if-offset_in-ne0.true (c.offset_in.ensures.0 ∙ e)),
        ),
      )
      | else-offset_in-ne0 w ↦ (
        omega arith,
        omega (
          arith,
          c.loop-s.invariant.1,
          present_from-none c.args.slots b c.loop-s.s
              c.loop-s-test.true (sym c.offset_in.ensures.0 ∙ w.if-offset_in-ne0.false),
        ),
      )
    ]

pub returns : goal.returns
returns c = omega (
  arith,
  c.loop-s.invariant.1,
  present_from-end c.args.slots c.args.b.now
      c.loop-s.s c.loop-s-test.false,
)
