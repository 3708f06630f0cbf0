use mathlib.Core.Path.{sym}
use native.Mathlib.Omega.{arith}
use Rattle.contents.specs.Contents.{offset_at}
use Rattle.contents.proofs.Loops.{offset-past}
use Rattle.contents.proofs.offset.Goals as goal

pub returns-then-slot-b : goal.returns-then-slot-b
unfolding offset_at
returns-then-slot-b c = c.word.ensures

pub returns : goal.returns
returns c = let a = c.args in (sym (offset-past a.b.now a.slot (omega arith)), omega arith)
