use native.Mathlib.Omega.{arith}
use Rattle.frame.specs.Field.{read, read_to}
use Rattle.table.specs.Number.{narrow_of}
use Rattle.decoder.proofs.opcode_of.Goals as goal

pub returns : goal.returns
unfolding read read_to narrow_of
returns c = omega (arith, c.type_inv.frame 0, c.type_inv.frame 1)
