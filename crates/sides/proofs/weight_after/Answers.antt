use mathlib.Core.Path.{sym, ◌∙◌}
use Rattle.sides.proofs.Weighing.{after_last, after_less, after-over, after-swap}
use Rattle.sides.proofs.weight_after.Goals as goal

pub returns-then-offset_for-ne0 : goal.returns-then-offset_for-ne0
returns-then-offset_for-ne0 c = after-over _ _ _ _ _ (λ e. c.if-offset_for-ne0.true (c.offset_for.ensures.0 ∙ e))

pub returns-then-old-held : goal.returns-then-old-held
returns-then-old-held c =
    after-swap _ _ _ _ _ (sym c.offset_for.ensures.0 ∙ c.if-offset_for-ne0.false) _ c.other_form-twin.ensures
    (λ e. c.if-offset_for-ne0-2.true (c.offset_for-2.ensures.0 ∙ e)) _ c.size_of-old.ensures.0

pub returns-then-offset_for-ne0-2 : goal.returns-then-offset_for-ne0-2
returns-then-offset_for-ne0-2 c =
    after_less _ _ _ _ _ (sym c.offset_for.ensures.0 ∙ c.if-offset_for-ne0.false) _ c.other_form-twin.ensures
    (λ e. c.if-offset_for-ne0-2.true (c.offset_for-2.ensures.0 ∙ e)) _ c.size_of-old.ensures.0 c.if-old-held.false

pub returns : goal.returns
returns c =
    after_last _ _ _ _ _ (sym c.offset_for.ensures.0 ∙ c.if-offset_for-ne0.false) _ c.other_form-twin.ensures
    (sym c.offset_for-2.ensures.0 ∙ c.if-offset_for-ne0-2.false)
