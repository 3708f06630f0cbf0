use native.Mathlib.Omega.{arith}
use Rattle.settings.proofs.Settings.{size-most}
use Rattle.settings.proofs.size_of.Goals as goal

pub returns : goal.returns
returns c = (c.head_of.ensures, omega (arith, c.head_of.ensures, size-most c.args.slot))
