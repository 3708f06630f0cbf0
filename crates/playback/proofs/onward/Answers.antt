use mathlib.Core.Path.{◌∙◌}
use Rattle.day.proofs.Days.{plus-checked}
use Rattle.playback.proofs.onward.Goals as goal

pub returns : goal.returns
returns c = c.unwrap_or.ensures ∙ plus-checked _ _ _ c.checked_add.ensures
