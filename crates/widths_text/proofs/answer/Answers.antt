-- `answer` meets its contract: what is kept is asked, there is room for all of the text, and a wrong line has none.
-- Assumes nothing.
use mathlib.Core.Path.{ap, ◌∙◌}
use Rattle.std.proofs.Common.{arith}
use Rattle.texts.proofs.Writing.{puts-as, puts_whole}
use Rattle.widths_text.specs.Text.{longest, read_text}
use Rattle.widths_text.proofs.Asked.{asked-needs, asked-proposals}
use Rattle.widths_text.proofs.Longest.{read-most}
use Rattle.widths_text.proofs.answer.Goals as goal

pub returns-in-Needs : goal.returns-in-Needs
returns-in-Needs c =
    let text = ap read_text c.in-Ok.is ∙ asked-needs c.in-Ok.listed c.in-Needs.is (omega arith) c.capped-m.ensures in
    let done = puts_whole longest (read-most _) (omega arith) (puts-as _ text c.put_needs.ensures) in
    record { value = done.0; out_after = done.1.0; upper_bound = done.1.1 }

pub returns-in-Proposals : goal.returns-in-Proposals
returns-in-Proposals c =
    let text = ap read_text c.in-Ok.is ∙ asked-proposals c.in-Ok.listed c.in-Proposals.is (omega arith) (omega arith) c.capped-m-in-Proposals.ensures in
    let done = puts_whole longest (read-most _) (omega arith) (puts-as _ text c.put_proposals.ensures) in
    record { value = done.0; out_after = done.1.0; upper_bound = done.1.1 }
