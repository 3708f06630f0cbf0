use native.Mathlib.Omega.{arith}
use Rattle.locker_profile.specs.Rules.{rate}
use Rattle.locker_profile.proofs.Paths.{below, beside}
use Rattle.locker_profile.proofs.breaks_rate.Goals as goal

pub returns-then-lora-code : goal.returns-then-lora-code
unfolding rate
returns-then-lora-code c = rw c.code.ensures (below 1 4 c.args.lora.lora_cr (omega arith))

pub returns-else-lora-code : goal.returns-else-lora-code
unfolding rate
returns-else-lora-code c = rw c.code-else-lora-code.ensures (beside 1 4 c.args.lora.lora_cr (omega arith))
