use Rattle.std.proofs.Common.{arith, ◌∙◌}
use Rattle.arguments.proofs.Places.{count_none, count-some}
use Rattle.arguments.proofs.Inputs.count.Goals as goal

pub returns-then-names-eq0 : goal.returns-then-names-eq0
returns-then-names-eq0 c = count_none _ _ (omega arith)

pub returns-else-names-eq0 : goal.returns-else-names-eq0
returns-else-names-eq0 c = c.names-names.ensures ∙ count-some _ _ (omega arith)
