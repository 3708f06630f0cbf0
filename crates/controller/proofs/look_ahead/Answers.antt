-- `look_ahead` meets its contract: the loop's invariant is `Seeking`. Assumes nothing.
use mathlib.Core.Path.{sym, ◌∙◌, ◌≡◌}
use native.Mathlib.Omega.{arith}
use Rattle.std.specs.Prelude.{None, Ok}
use Rattle.reel.specs.Reel.{step_at}
use Rattle.reel.proofs.Found.{step-ended, step-refused, step-whole}
use Rattle.controller.proofs.Walking.{left_cut, left_ended, seeking-frame}
use Rattle.controller.proofs.look_ahead.Goals as goal
use Rattle.controller.proofs.look_ahead.Goals.{in_default, in_default-2}

pub loop-found-preserved : goal.loop-found-preserved
loop-found-preserved c =
    let w = step-whole c.args.reel.now c.loop-found.cursor.at c.in-Ok-Some.found (cc) in
    seeking-frame _ _ _ _ c.loop-found.invariant _ _ _ w (omega arith)

pub returns : goal.returns
returns c =
    let g = c.loop-found.invariant in
    elim c.match-step.branch [
      | in_default w ↦
          let over : step_at c.args.reel.now c.loop-found.cursor.at ≡ Ok None = cc in
          left_ended _ _ _ _ g (step-ended _ _ over) _ c.behind.ensures
      | in_default-2 w ↦ left_cut _ _ _ _ g _ (step-refused _ _ g.inside _ (sym c.step.ensures ∙ w.in_default.is)) _ c.behind.ensures
    ]
