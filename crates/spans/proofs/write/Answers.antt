use Rattle.std.proofs.Common.{◌≡◌, ℕ, ◌+◌, List, ap, arith, get_or, length, refl, set, sym, ◌∙◌}
use Rattle.std.proofs.Math.Seq.{paste}
use Rattle.spans.proofs.Pastes.{paste-next}
use Rattle.spans.proofs.Spans.{bounds-out, written-fits, written_over}
use Rattle.spans.proofs.write.Goals as goal

pub loop-i-preserved : goal.loop-i-preserved
loop-i-preserved c =
    let a = c.args in
    let i = c.loop-i.i in (
      ap (λ (l : List ℕ). set l (a.at + i) (get_or a.s.now i 0)) c.loop-i.invariant.0
          ∙ paste-next a.b.now a.at a.s.now i _ (omega arith) (omega arith) refl,
      c.loop-i.invariant.1,
    )

pub returns-after-loop-i : goal.returns-after-loop-i
returns-after-loop-i c =
    let a = c.args in
    let e : c.loop-i.i ≡ length c.args.s.now = omega arith in
    c.loop-i.invariant.0 ∙ ap (λ (x : ℕ). paste a.b.now a.at a.s.now x) e ∙ sym (written-fits a.b.now a.at a.s.now c.loop-i.invariant.1)

pub returns-else-in_bounds : goal.returns-else-in_bounds
returns-else-in_bounds c = sym (written_over _ _ _ (bounds-out _ _ _ _ c.in_bounds.ensures c.if-in_bounds.false))
