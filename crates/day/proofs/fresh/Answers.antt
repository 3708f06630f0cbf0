use mathlib.Core.Path.{refl}
use Rattle.day.specs.Days.{fresh}
use Rattle.day.proofs.fresh.Goals as goal

pub returns : goal.returns
unfolding fresh
returns c = refl
