-- `put_millionths` meets its contract: filled in, the form is the text.
-- Assumes nothing.
use Rattle.texts.proofs.Writing.{puts-as}
use Rattle.widths_text.proofs.Forms.{millionths-form}
use Rattle.widths_text.proofs.put_millionths.Goals as goal

pub returns : goal.returns
returns c = puts-as _ (millionths-form _) c.put_form.ensures
