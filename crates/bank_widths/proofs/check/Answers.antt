use mathlib.Core.Path.{sym, ◌∙◌}
use Rattle.bank_widths.proofs.Banks.{judged-in, judged-out, lengths-say}
use Rattle.bank_widths.proofs.check.Goals as goal

pub returns-then-not-lengths_right : goal.returns-then-not-lengths_right
returns-then-not-lengths_right c = judged-out _ _ (sym c.lengths_right.ensures ∙ c.if-not-lengths_right.true)

pub judge-requires : goal.judge-requires
judge-requires c =
    let m = lengths-say _ _ (sym c.lengths_right.ensures ∙ c.if-not-lengths_right.false) in
    m.2

pub returns : goal.returns
returns c = c.judge.ensures ∙ judged-in _ _ (sym c.lengths_right.ensures ∙ c.if-not-lengths_right.false)
