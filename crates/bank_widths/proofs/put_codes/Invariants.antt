use mathlib.Core.Path.{◌≡◌}
use lib.ListN.{drop, take}
use Rattle.bank_widths.specs.Lists.{judged_from, right_codes}
use Rattle.bank_widths.proofs.put_codes.Given as goal

abbrev pub invariant-loop-i : goal.invariant-loop-i
invariant-loop-i l =
    (take l.i l.codes ≡ take l.i (right_codes l.needs))
    × (judged_from 0 l.needs (right_codes l.needs) ≡ judged_from l.i (drop l.i l.needs) (drop l.i (right_codes l.needs)))
