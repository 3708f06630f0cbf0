use Rattle.std.proofs.Common.{◌≡◌, ℕ, ◌+◌, List, ap, arith, drop, get_or, length-drop, set, sym, ◌∙◌}
use Rattle.std.proofs.Math.Seq.{paste}
use Rattle.std.proofs.Common.{leb-false}
use Rattle.spans.proofs.Pastes.{paste-next, slide-byte}
use Rattle.spans.proofs.Spans.{slid-fits, slid-over}
use Rattle.spans.proofs.slide.Goals as goal

pub loop-i-preserved : goal.loop-i-preserved
loop-i-preserved c =
    let a = c.args in
    let i = c.loop-i.i in (
      ap (λ (l : List ℕ). set l (a.at + i) (get_or l (a.at + a.gap + i) 0)) c.loop-i.invariant.0
          ∙ paste-next a.b.now a.at (drop (a.at + a.gap) a.b.now) i _ (omega arith)
          (omega (arith, length-drop (a.at + a.gap) a.b.now)) (slide-byte a.b.now a.at a.gap i (omega arith)),
      c.loop-i.invariant.1,
    )

pub returns-after-loop-i : goal.returns-after-loop-i
returns-after-loop-i c =
    let a = c.args in
    let e : c.loop-i.i ≡ c.args.m = omega arith in
    c.loop-i.invariant.0
    ∙ ap (λ (x : ℕ). paste a.b.now a.at (drop (a.at + a.gap) a.b.now) x) e
    ∙ sym (slid-fits a.b.now a.at a.gap a.m c.loop-i.invariant.1)

pub returns-else-in_bounds : goal.returns-else-in_bounds
returns-else-in_bounds c = sym (slid-over _ _ _ _ (leb-false _ _ (sym c.in_bounds.ensures ∙ c.if-in_bounds.false)))
