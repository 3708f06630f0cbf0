use Rattle.std.proofs.Common.{arith}
use Rattle.arguments.proofs.Places.{behind-fits, name-before, name-behind, name-own, name-unmarked, names-few}
use Rattle.arguments.proofs.Inputs.argument.Goals as goal
use Rattle.arguments.proofs.Inputs.argument.Goals.{in_default-via-in-Some+then-mark-gt0+else-mark-i, in_default-via-in-Some+else-mark-gt0, in_default-via-in_default}

pub overflow_add-i : goal.overflow_add-i
overflow_add-i c = omega (arith, names-few c.args.self.given c.args.self.mark)

pub overflow_add-result : goal.overflow_add-result
overflow_add-result c =
    omega (arith, behind-fits c.args.self.given c.in-Some.mark c.args.i (rw c.in-Some.is at c.requires) (omega arith) (omega arith))

pub overflow_add-result-in_default : goal.overflow_add-result-in_default
overflow_add-result-in_default c = omega (arith, names-few c.args.self.given c.args.self.mark)

pub returns-in-Some : goal.returns-in-Some
returns-in-Some c = rw c.in-Some.is (name-behind _ _ _ (rw c.in-Some.is at c.requires) (omega arith) (omega arith))

pub returns-in_default : goal.returns-in_default
returns-in_default c = elim c.in_default.branch [
  | in_default-via-in-Some+then-mark-gt0+else-mark-i w ↦ rw w.in-Some.is (name-before _ _ _ (rw w.in-Some.is at c.requires) (omega arith))
  | in_default-via-in-Some+else-mark-gt0 w ↦ rw w.in-Some.is (name-own _ _ _ (rw w.in-Some.is at c.requires) (omega arith))
  | in_default-via-in_default w ↦ rw w.in_default.is (name-unmarked _ _ (omega (arith, names-few c.args.self.given c.args.self.mark)))
]
