-- `put_needs` meets its contract: the codes that were found stand in the list of its own.
-- Assumes nothing.
use mathlib.Core.Path.{ap, ◌∙◌}
use native.Mathlib.Omega.{arith}
use lib.ListN.{length-take}
use Rattle.texts.proofs.Writing.{puts-as}
use Rattle.widths_text.specs.Text.{found_text}
use Rattle.widths_text.proofs.Answers.{needs-told, needs-lines}
use Rattle.widths_text.proofs.put_needs.Goals as goal

pub returns-in-Ok : goal.returns-in-Ok
returns-in-Ok c =
    let found = c.find.ensures in
    puts-as _ (needs-lines c.args.needs.now _ found.value (simp length-take (omega arith)) found.out_after c.in-Ok.is _)
    c.put_banks.ensures

pub returns-in-Err : goal.returns-in-Err
returns-in-Err c =
    let ns = c.args.needs.now in
    puts-as _ (needs-told ns c.find.ensures.value (simp length-take (omega arith)) ∙ ap (found_text ns) c.in-Err.is) c.put_refused.ensures
