use mathlib.Core.Path.{◌≡◌, refl, sym, ◌∙◌}
use Rattle.std.specs.Prelude.{None, Ok}
use Rattle.reel.specs.Reel.{step_at}
use Rattle.reel.proofs.Found.{step-ended, step-refused, step-whole}
use Rattle.filling.proofs.Filling.{along-none, along-on}
use Rattle.filling.proofs.fill.Goals as goal

pub loop-found-preserved : goal.loop-found-preserved
loop-found-preserved c =
    let w = step-whole c.args.reel.now c.loop-found.cursor.at c.in-Ok-Some.found (cc) in (
      c.append.auto.b ∙ c.loop-found.invariant.0,
      along-on _ _ _ _ _ c.loop-found.invariant.1 _ _ _ w _ c.slot_of-slot.ensures _ c.append.ensures,
    )

pub returns-in_default : goal.returns-in_default
returns-in_default c =
    let over : step_at c.args.reel.now c.loop-found.cursor.at ≡ Ok None = cc in
    along-none _ _ _ _ _ c.loop-found.invariant.1 _ _ refl c.blank.ensures _ (step-ended _ _ over).made

pub returns-in_default-2 : goal.returns-in_default-2
returns-in_default-2 c =
    let a = c.loop-found.invariant.1 in
    along-none _ _ _ _ _ a _ _ refl c.blank.ensures _ (step-refused _ _ a.within _ (sym c.step.ensures ∙ c.in_default.is)).made
