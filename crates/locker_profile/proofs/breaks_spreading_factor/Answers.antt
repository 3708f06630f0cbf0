use native.Mathlib.Omega.{arith}
use Rattle.locker_profile.specs.Rules.{spreading_factor}
use Rattle.locker_profile.proofs.Paths.{below, beside}
use Rattle.locker_profile.proofs.breaks_spreading_factor.Goals as goal

pub returns-then-lora-code : goal.returns-then-lora-code
unfolding spreading_factor
returns-then-lora-code c = rw c.code.ensures (below 7 12 c.args.lora.sf (omega arith))

pub returns-else-lora-code : goal.returns-else-lora-code
unfolding spreading_factor
returns-else-lora-code c = rw c.code-else-lora-code.ensures (beside 7 12 c.args.lora.sf (omega arith))
