-- `is_number` meets its contract.
-- Assumes nothing.
use mathlib.Core.Path.{sym, ◌∙◌}
use borrow.Author.Tests.{eq-eqb, ne_eqb}
use Rattle.bank_list.specs.Lines.{is_digit}
use Rattle.bank_list.proofs.Scans.{leading_count}
use Rattle.bank_list.proofs.is_number.Goals as goal

pub returns-then-n-ne0 : goal.returns-then-n-ne0
returns-then-n-ne0 c =
    let e = sym (c.digits-n.ensures ∙ leading_count is_digit c.args.s.now) in
    rw (e, ne_eqb c.digits-n.result 0 c.if-n-ne0.true)

pub returns-else-n-ne0 : goal.returns-else-n-ne0
returns-else-n-ne0 c =
    let e = sym (c.digits-n.ensures ∙ leading_count is_digit c.args.s.now) in
    rw (e, eq-eqb c.digits-n.result 0 c.if-n-ne0.false)
