use mathlib.Core.Path.{subst, sym, ◌∙◌, ◌≡◌}
use Prim.Native.Nat.{◌≤◌}
use native.Mathlib.Omega.{arith}
use lib.ListN.{length}
use Rattle.std.specs.Prelude.{None, Ok}
use Rattle.reel.specs.Reel.{step_at}
use Rattle.reel.proofs.Found.{step-ended, step-refused, step-whole}
use Rattle.sides.proofs.Picking.{Picked, pick-on, pick-over}
use Rattle.sides.proofs.pick.Goals as goal

pub loop-found-preserved : goal.loop-found-preserved
loop-found-preserved c =
    let l = c.loop-found in
    let w = step-whole c.args.reel.now l.cursor.at c.in-Ok-Some.found (cc) in
    let room : length c.args.reel.now ≤ length l.out = omega (arith, l.invariant.0, c.requires) in (
      c.copied-w.auto.out ∙ l.invariant.0,
      subst (Picked _ _ _ _) (sym w.onward)
          (pick-on _ _ _ _ _ l.invariant.1 room _ _ _ w _ _ _ c.slot_of-slot.ensures c.copied-w.ensures.value
          c.copied-w.ensures.out_after),
    )

pub returns-in_default : goal.returns-in_default
returns-in_default c =
    let over : step_at c.args.reel.now c.loop-found.cursor.at ≡ Ok None = cc in
    pick-over _ _ _ _ _ c.loop-found.invariant.1 _ (step-ended _ _ over).made

pub returns-in_default-2 : goal.returns-in_default-2
returns-in_default-2 c =
    let p = c.loop-found.invariant.1 in
    pick-over _ _ _ _ _ p _ (step-refused _ _ p.within _ (sym c.step.ensures ∙ c.in_default.is)).made
