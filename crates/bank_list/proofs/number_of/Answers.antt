-- `number_of` meets its contract: the digits behind the place go on from the value, and what is past 64 bits stays past them.
-- Assumes nothing.
use mathlib.Core.Path.{sym, ◌∙◌}
use native.Mathlib.Omega.{arith}
use Rattle.bank_list.proofs.Scans.{number-end, number-pass, number_past, numbered-some}
use Rattle.bank_list.proofs.number_of.Goals as goal

pub returns-in_err-value : goal.returns-in_err-value
returns-in_err-value c =
    c.from_residual.ensures ∙ sym (number_past _ _ _ c.loop-digit.invariant.1 (omega arith) c.in_err-value.ensures)

pub loop-digit-preserved : goal.loop-digit-preserved
loop-digit-preserved c = ((numbered-some _ _ c.in_ok-value.ensures).1, number-pass _ _ _ c.loop-digit.invariant.1 (omega arith) _ c.in_ok-value.ensures)

pub returns : goal.returns
returns c = sym (number-end _ _ _ c.loop-digit.invariant.1 c.loop-digit-test.false (omega arith))
