use mathlib.Core.Path.{◌∙◌}
use Rattle.settings.proofs.Settings.{slot_of-kind, slot_of-none}
use Rattle.settings.proofs.slot_of.Goals as goal

pub returns-in_default : goal.returns-in_default
returns-in_default c = slot_of-none _ _ c.decode.ensures _ c.in_default.is

pub returns : goal.returns
returns c = c.slot_for.ensures ∙ slot_of-kind _ _ c.decode.ensures _ c.in-Ok.is
