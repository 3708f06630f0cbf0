use Rattle.std.proofs.Common.{◌≡◌, ℕ, ap, arith, length, length-drop, length-take, replicate, sym, ◌∙◌, drop, take, ◌+◌, ◌-◌}
use Rattle.std.proofs.lemmas.List.{length-replicate}
use Rattle.spans.proofs.Pastes.{part-paste}
use Rattle.spans.proofs.Spans.{bounds-in, bounds-out, zeroed-fits, zeroed-over}
use Rattle.spans.proofs.zero.Goals as goal

pub returns-then-in_bounds : goal.returns-then-in_bounds
returns-then-in_bounds c =
    let a = c.args in
    let fits = bounds-in _ _ _ _ c.in_bounds.ensures c.if-in_bounds.true in
    let long : length (take (a.at + a.m - a.at) (drop a.at a.b.now)) ≡ a.m = simp (length-take, length-drop) (omega arith) in
    part-paste a.b.now a.at a.m (replicate a.m 0) _ (c.fill.ensures.after (λ y e. e) ∙ ap (λ (n : ℕ). replicate n 0) long) (sym (length-replicate a.m 0))
    ∙ sym (zeroed-fits _ _ _ fits)

pub returns-else-in_bounds : goal.returns-else-in_bounds
returns-else-in_bounds c = sym (zeroed-over _ _ _ (bounds-out _ _ _ _ c.in_bounds.ensures c.if-in_bounds.false))
