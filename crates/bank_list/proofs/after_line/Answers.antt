-- `after_line` meets its contract: a fault is told with its line.
-- Assumes nothing.
use mathlib.Core.Path.{◌∙◌}
use Rattle.bank_list.proofs.States.{fault-told, said-as}
use Rattle.bank_list.proofs.after_line.Goals as goal

pub returns-in-Err : goal.returns-in-Err
returns-in-Err c p w e = fault-told p _ e _ _ ∙ said-as p _ _ _ c.in-Err.is
