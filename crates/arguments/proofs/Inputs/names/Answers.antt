use Rattle.arguments.proofs.Places.{names_marked, names-own, names-past, names-unmarked}
use Rattle.std.proofs.Common.{arith}
use Rattle.arguments.proofs.Inputs.names.Goals as goal

pub returns-in-Some : goal.returns-in-Some
returns-in-Some c = rw c.in-Some.is (names_marked _ _ (omega arith) (omega arith))

pub returns-in_default : goal.returns-in_default
returns-in_default c = rw c.in-Some.is (names-past _ _ (omega arith))

pub returns-in_default-2 : goal.returns-in_default-2
returns-in_default-2 c = rw c.in-Some.is (names-own _ _ (omega arith))

pub returns-in_default-3 : goal.returns-in_default-3
returns-in_default-3 c = rw c.in_default.is (names-unmarked _)
