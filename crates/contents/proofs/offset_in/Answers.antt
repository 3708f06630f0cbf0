use native.Mathlib.Omega.{arith}
use Rattle.contents.specs.Contents.{offset_at, word_at}
use Rattle.contents.proofs.offset_in.Goals as goal

pub returns : goal.returns
unfolding offset_at word_at
returns c = (cc, omega arith)
