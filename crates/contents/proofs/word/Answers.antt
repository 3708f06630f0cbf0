use mathlib.Core.Path.{sym}
use native.Mathlib.Omega.{arith}
use Rattle.contents.specs.Contents.{word_at}
use Rattle.contents.proofs.Loops.{word-past}
use Rattle.contents.proofs.word.Goals as goal

pub returns-then-i-b : goal.returns-then-i-b
unfolding word_at
returns-then-i-b c = (cc, omega arith)

pub returns : goal.returns
returns c = let a = c.args in (sym (word-past a.b.now a.i (omega arith)), omega arith)
