use mathlib.Core.Path.{◌≡◌}
use lib.ListN.{drop}
use Rattle.bank_widths.specs.Lists.{judged_from}
use Rattle.bank_widths.proofs.judge.Given as goal

abbrev pub invariant-loop-i : goal.invariant-loop-i
invariant-loop-i l = judged_from 0 l.needs l.codes ≡ judged_from l.i (drop l.i l.needs) (drop l.i l.codes)
