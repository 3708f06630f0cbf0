use Rattle.texts.proofs.Writing.{puts_then, puts-as}
use Rattle.texts.proofs.Forms.{spaced-one}
use Rattle.texts.proofs.put_word.Goals as goal

pub returns : goal.returns
returns c = puts-as _ (spaced-one _) (puts_then c.put_byte-to.ensures c.put_text.ensures)
