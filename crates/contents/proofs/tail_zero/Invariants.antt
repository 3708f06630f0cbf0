use mathlib.Core.Path.{◌≡◌}
use mathlib.Core.Bool.{cond, false}
use lib.Dec.{eqb}
use lib.ListN.{drop}
use Rattle.contents.specs.Contents.{all_zero}
use Rattle.contents.proofs.tail_zero.Given as goal

abbrev pub invariant-loop-i : goal.invariant-loop-i
invariant-loop-i l = all_zero (drop l.e l.b) ≡ cond (eqb l.bits 0) (all_zero (drop l.i l.b)) false
