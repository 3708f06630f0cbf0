use mathlib.Core.Path.{refl}
use native.Mathlib.Omega.{arith}
use Rattle.book.specs.Book.{layout_in}
use Rattle.book.proofs.slots_in.Goals as goal

pub returns : goal.returns
unfolding layout_in
returns c = (refl, omega arith)
