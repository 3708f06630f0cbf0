use mathlib.Core.Path.{sym, ◌∙◌, ◌≡◌}
use Prim.Native.Nat.{◌*◌, ◌+◌}
use native.Mathlib.Omega.{arith}
use Rattle.contents.specs.Contents.{offset_at}
use Rattle.contents.proofs.Loops.{offset-low, slot_from-end, slot_from-found, slot_from-pass}
use Rattle.contents.proofs.slot_from.Goals as goal
use Rattle.contents.proofs.slot_from.Goals.{else-b-s-via-then-b-s+else-offset_in-p, else-b-s-via-else-b-s}

pub returns-then-offset_in-p : goal.returns-then-offset_in-p
returns-then-offset_in-p c = (
  sym (c.loop-s.invariant ∙ slot_from-found _ _ _ _ c.loop-s-test.true (sym c.offset_in.ensures.0 ∙ c.if-offset_in-p.true)),
  omega arith,
)

pub loop-s-preserved : goal.loop-s-preserved
loop-s-preserved c =
    let a = c.args in
    let other : offset_at a.b.now c.loop-s.s ≡ a.p → ⊥ =
    λ e. elim c.else-b-s.branch [
      | else-b-s-via-then-b-s+else-offset_in-p w ↦ w.if-offset_in-p.false (w.offset_in.ensures.0 ∙ e)
      | else-b-s-via-else-b-s w ↦ w.if-b-s.false (offset-low a.b.now c.loop-s.s a.p (omega (arith, c.shared_slice_known-in-loop-s-1.given (4 + 2 * c.loop-s.s + 1))) e)
    ] in
    c.loop-s.invariant ∙ slot_from-pass _ _ _ _ c.loop-s-test.true other

pub returns : goal.returns
returns c =
    let four : c.loop-s.s ≡ c.args.slots = omega arith in
    (sym (c.loop-s.invariant ∙ slot_from-end _ _ _ _ c.loop-s-test.false ∙ four), omega arith)
