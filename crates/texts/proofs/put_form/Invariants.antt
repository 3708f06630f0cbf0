-- the bytes of the form before the index stand there, filled in
use Rattle.std.proofs.Common.{[], take}
use Rattle.texts.specs.Written.{Puts, filled}
use Rattle.texts.proofs.put_form.Given as goal

abbrev pub invariant-loop-b : goal.invariant-loop-b
invariant-loop-b l = Puts (filled (take l.b-index l.form) l.numbers []) l.at l.fn.out l.to l.out
