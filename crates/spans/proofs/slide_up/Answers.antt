use Rattle.std.proofs.Common.{ℕ, ◌+◌, ◌-◌, List, ap, arith, get_or, leb-false, set, sym, ◌∙◌}
use Rattle.spans.proofs.Pastes.{raised_all, raised-next}
use Rattle.spans.proofs.Spans.{slid_up-fits, slid_up-over}
use Rattle.spans.proofs.slide_up.Goals as goal

pub loop-i-preserved : goal.loop-i-preserved
loop-i-preserved c =
    let a = c.args in
    let j : ℕ = c.loop-i.i - 1 in (
      omega arith,
      ap (λ (l : List ℕ). set l (a.at + a.gap + j) (get_or l (a.at + j) 0)) c.loop-i.invariant.1
          ∙ raised-next a.b.now a.at a.gap a.m c.loop-i.i j c.loop-i.invariant.2 c.loop-i.invariant.0 (omega arith),
      c.loop-i.invariant.2,
    )

pub returns-after-loop-i : goal.returns-after-loop-i
returns-after-loop-i c =
    let a = c.args in
    c.loop-i.invariant.1
    ∙ raised_all a.b.now a.at a.gap a.m c.loop-i.i (omega arith)
    ∙ sym (slid_up-fits a.b.now a.at a.gap a.m c.loop-i.invariant.2)

pub returns-else-in_bounds : goal.returns-else-in_bounds
returns-else-in_bounds c = sym (slid_up-over _ _ _ _ (leb-false _ _ (sym c.in_bounds.ensures ∙ c.if-in_bounds.false)))
