use mathlib.Core.Path.{sym, ◌∙◌}
use native.Mathlib.Omega.{arith}
use Rattle.contents.proofs.Loops.{slot-fits, slot-short}
use Rattle.contents.proofs.slot_at.Goals as goal

pub returns-then-slots-b-2 : goal.returns-then-slots-b-2
returns-then-slots-b-2 c = (c.slot_from.ensures.0 ∙ sym (slot-fits _ _ _ (omega arith)), c.slot_from.ensures.1)

pub returns : goal.returns
returns c = let a = c.args in (sym (slot-short a.slots a.b.now a.p (omega arith)), omega arith)
