-- The sum is the number of the k low bytes. Assumes nothing.
use mathlib.Core.Path.{◌≡◌}
use Rattle.frame.specs.Field.{read_to}
use Rattle.frame.specs.Layout.{bytes}
use Rattle.frame.proofs.Placed.get.Given as goal

abbrev pub invariant-loop-k : goal.invariant-loop-k
invariant-loop-k l = l.acc ≡ read_to l.self.field (bytes l.s) l.k
