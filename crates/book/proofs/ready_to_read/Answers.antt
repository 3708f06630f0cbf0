use Rattle.book.specs.Book.{layout_in, opened_for}
use Rattle.book.proofs.ready_to_read.Goals as goal

pub returns : goal.returns
unfolding opened_for layout_in
returns c = c.is_sound.ensures
