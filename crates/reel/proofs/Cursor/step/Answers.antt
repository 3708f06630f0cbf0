-- `Cursor::step` meets its contract: each return stands under the tests that led there.
-- Assumes nothing.
use mathlib.Core.Path.{sym}
use native.Mathlib.Omega.{arith}
use Rattle.reel.proofs.Steps.{step_past, step_end, step-frame, step_cut}
use Rattle.reel.proofs.Cursor.step.Goals as goal

pub returns-then-reel-at : goal.returns-then-reel-at
returns-then-reel-at c = sym (step_past _ _ (omega arith))

pub returns-then-reel-at-2 : goal.returns-then-reel-at-2
returns-then-reel-at-2 c = sym (step_end _ _ (omega arith))

pub returns-then-n-reel : goal.returns-then-n-reel
returns-then-n-reel c = sym (step-frame _ _ (omega arith) _ c.from-n.ensures (omega arith))

pub returns-else-n-reel : goal.returns-else-n-reel
returns-else-n-reel c = sym (step_cut _ _ (omega arith) _ c.from-n.ensures (omega arith))
