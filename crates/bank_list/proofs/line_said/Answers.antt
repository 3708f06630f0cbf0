-- `line_said` meets its contract.
-- Assumes nothing.
use mathlib.Core.Path.{◌≡◌, ap, sym, ◌∙◌}
use Rattle.std.proofs.Common.{rules}
use Rattle.std.specs.Prelude.{Err}
use Rattle.bank_list.specs.Lines.{not_skipped}
use Rattle.bank_list.proofs.Said.{said-bank, said-skipped}
use Rattle.bank_list.proofs.line_said.Goals as goal

pub returns-then-is_skipped : goal.returns-then-is_skipped
returns-then-is_skipped c = sym (said-skipped c.args.line.now c.body-body.result.now c.body-body.ensures (sym c.is_skipped.ensures ∙ c.if-is_skipped.true))

pub returns-in_err-bank_said : goal.returns-in_err-bank_said
returns-in_err-bank_said c =
    let x = c.in_err-bank_said in
    let told : c.from_residual.result ≡ Err x.field-0.0 = search rules in
    told
    ∙ ap not_skipped (sym x.was ∙ c.bank_said.ensures)
    ∙ sym (said-bank c.args.line.now c.body-body.result.now c.body-body.ensures (sym c.is_skipped.ensures ∙ c.if-is_skipped.false))

pub returns : goal.returns
returns c =
    ap not_skipped (sym c.in_ok-bank_said.was ∙ c.bank_said.ensures)
    ∙ sym (said-bank c.args.line.now c.body-body.result.now c.body-body.ensures (sym c.is_skipped.ensures ∙ c.if-is_skipped.false))
