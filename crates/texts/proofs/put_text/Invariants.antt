-- the bytes before the index stand there
use Rattle.std.proofs.Common.{take}
use Rattle.texts.specs.Written.{Puts}
use Rattle.texts.proofs.put_text.Given as goal

abbrev pub invariant-loop-b : goal.invariant-loop-b
invariant-loop-b l = Puts (take l.b-index l.text) l.at l.fn.out l.to l.out
