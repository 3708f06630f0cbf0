use Rattle.front.proofs.Readers.{reads-drawn}
use Rattle.front.proofs.Front.read.Goals as goal

pub returns-clause-reads : goal.returns-clause-reads
returns-clause-reads g c = reads-drawn _ _ _ _ _ _ _ c.open-input.ensures.opens c.read_opened.ensures
