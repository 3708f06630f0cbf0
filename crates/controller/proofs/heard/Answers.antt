-- `heard` meets its contract: each return stands under the cases that led there. Assumes nothing.
use mathlib.Core.Path.{◌∙◌}
use native.Mathlib.Omega.{arith}
use Rattle.controller.proofs.Walking.{lies-frame, lies-nothing, lies-read}
use Rattle.controller.proofs.Steps.{heard-by, heard-done, heard-frame, heard-over, heard-read, heard-stopped}
use Rattle.controller.proofs.heard.Goals as goal

pub overflow_add-more : goal.overflow_add-more
overflow_add-more c =
    let l = lies-frame _ _ _ _ c.look_ahead.ensures _ _ c.in-Frame.is in
    omega (arith, l.1)

pub returns-in-Frame : goal.returns-in-Frame
returns-in-Frame c =
    let l = lies-frame _ _ _ _ c.look_ahead.ensures _ _ c.in-Frame.is in
    heard-by _ _ _ _ _ c.in-Running.is (c.judged.ensures ∙ heard-frame _ _ _ l.0)

pub returns-in-Read : goal.returns-in-Read
returns-in-Read c =
    let l = lies-read _ _ _ _ c.look_ahead.ensures c.in-Read.is in
    heard-by _ _ _ _ _ c.in-Running.is (c.judged-in-Read.ensures ∙ heard-read _ _ _ l.0 l.1)

pub returns-in-Nothing : goal.returns-in-Nothing
returns-in-Nothing c =
    heard-by _ _ _ _ _ c.in-Running.is (heard-over _ _ _ (lies-nothing _ _ _ _ c.look_ahead.ensures c.in-Nothing.is))

pub returns-in-Done : goal.returns-in-Done
returns-in-Done c = c.in-Done.is ∙ heard-by _ _ _ _ _ c.in-Done.is (heard-done _ _)

pub returns-in-Stopped : goal.returns-in-Stopped
returns-in-Stopped c = c.in-Stopped.is ∙ heard-by _ _ _ _ _ c.in-Stopped.is (heard-stopped _ _ _)
