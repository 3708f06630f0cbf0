use Rattle.std.proofs.Common.{arith, ◌∙◌}
use Rattle.arguments.proofs.Places.{place-first, place-named, place-past}
use Rattle.arguments.proofs.Inputs.place.Goals as goal

pub returns-then-i-names : goal.returns-then-i-names
returns-then-i-names c = c.argument.ensures ∙ place-named _ _ _ (omega arith)

pub returns-then-i-eq0 : goal.returns-then-i-eq0
returns-then-i-eq0 c = place-first _ _ _ (omega arith) (omega arith)

pub returns-else-i-eq0 : goal.returns-else-i-eq0
returns-else-i-eq0 c = place-past _ _ _ (omega arith) (omega arith)
