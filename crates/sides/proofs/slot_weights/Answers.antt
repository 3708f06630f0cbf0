use mathlib.Core.Path.{sym, ◌∙◌}
use native.Mathlib.Omega.{arith}
use Rattle.sides.proofs.Weighing.{slot-foreign, slot-own}
use Rattle.sides.proofs.slot_weights.Goals as goal

pub returns-then-side-eq1 : goal.returns-then-side-eq1
returns-then-side-eq1 c =
    record {
      first_value = (
        c.size_of-n.ensures.0 ∙ slot-own _ _ _ _ _ (λ e. c.if-offset_for-eq0.false (c.offset_for.ensures.0 ∙ e)) (sym c.owner_of-side.ensures
            ∙ c.if-side-eq1.true),
        c.size_of-n.ensures.1,
      );
      second_value = (
        slot-foreign _ _ _ _ _ (λ e. c.if-offset_for-eq0.false (c.offset_for.ensures.0 ∙ e))
            (λ e. omega (arith, e, c.owner_of-side.ensures, c.if-side-eq1.true)),
        omega arith,
      );
    }

pub returns-then-side-eq2 : goal.returns-then-side-eq2
returns-then-side-eq2 c =
    record {
      first_value = (
        slot-foreign _ _ _ _ _ (λ e. c.if-offset_for-eq0.false (c.offset_for.ensures.0 ∙ e))
            (λ e. c.if-side-eq1.false (c.owner_of-side.ensures ∙ e)),
        omega arith,
      );
      second_value = (
        c.size_of-n.ensures.0 ∙ slot-own _ _ _ _ _ (λ e. c.if-offset_for-eq0.false (c.offset_for.ensures.0 ∙ e)) (sym c.owner_of-side.ensures
            ∙ c.if-side-eq2.true),
        c.size_of-n.ensures.1,
      );
    }

pub returns : goal.returns
returns c =
    record {
      first_value = (
        slot-foreign _ _ _ _ _ (λ e. c.if-offset_for-eq0.false (c.offset_for.ensures.0 ∙ e))
            (λ e. c.if-side-eq1.false (c.owner_of-side.ensures ∙ e)),
        omega arith,
      );
      second_value = (
        slot-foreign _ _ _ _ _ (λ e. c.if-offset_for-eq0.false (c.offset_for.ensures.0 ∙ e))
            (λ e. c.if-side-eq2.false (c.owner_of-side.ensures ∙ e)),
        omega arith,
      );
    }
