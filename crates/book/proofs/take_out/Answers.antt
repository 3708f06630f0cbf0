use Rattle.book.specs.Edits.{taken_out}
use Rattle.book.proofs.take_out.Goals as goal

pub returns : goal.returns
unfolding taken_out
returns c = cc
