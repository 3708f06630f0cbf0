use mathlib.Core.Path.{◌∙◌}
use native.Mathlib.Omega.{arith}
use Rattle.bank_widths.proofs.Passing.{key-none, key-some}
use Rattle.bank_widths.proofs.ListedKeys.choice_for.Goals as goal

pub returns-in_err-best : goal.returns-in_err-best
returns-in_err-best c =
    let past = c.in_err-best.ensures.most in
    c.from_residual.ensures ∙ key-none c.args.need _ c.args.self.listed (λ i l. omega (arith, past i l, c.limit_of.ensures))

pub returns : goal.returns
returns c =
    let best = c.in_ok-best.ensures in
    key-some c.args.need _ c.args.self.listed _ best.held (omega (arith, best.within, c.limit_of.ensures)) (λ i l p. best.most i l (omega (arith, p, c.limit_of.ensures)))
