-- The loop's invariant: the sum is the number of the bytes so far. Assumes nothing.
use Prim.Native.Nat.{◌≤◌}
use mathlib.Core.Path.{◌≡◌}
use Rattle.frame.specs.Layout.{bytes}
use Rattle.decoder.specs.Words.{big_end}
use Rattle.decoder.proofs.bytes_to.Given as goal

abbrev pub invariant-loop-b : goal.invariant-loop-b
invariant-loop-b l = (l.n ≤ 8) × (l.sum ≡ big_end (bytes l.s) l.b-index)
