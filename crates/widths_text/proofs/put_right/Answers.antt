-- `put_right` meets its contract: the search for its need alone finds the right code.
-- Assumes nothing.
use Rattle.texts.proofs.Writing.{puts-as}
use Rattle.widths_text.proofs.Answers.{right-line}
use Rattle.widths_text.proofs.put_right.Goals as goal

pub returns : goal.returns
returns c =
    puts-as _ (right-line c.args.needs.now c.args.bank c.requires c.find.ensures.out_after) c.put_bank.ensures
