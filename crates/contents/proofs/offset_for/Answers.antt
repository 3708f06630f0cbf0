use mathlib.Core.Path.{sym, ◌∙◌}
use native.Mathlib.Omega.{arith}
use Rattle.contents.proofs.Offsets.{offset-among, offset-outside}
use Rattle.contents.proofs.offset_for.Goals as goal

pub returns-then-slot-slots : goal.returns-then-slot-slots
returns-then-slot-slots c = (c.offset.ensures.0 ∙ sym (offset-among _ _ _ c.if-slot-slots.true), c.offset.ensures.1)

pub returns : goal.returns
returns c = let a = c.args in (sym (offset-outside a.slots a.b.now a.slot c.if-slot-slots.false), omega arith)
