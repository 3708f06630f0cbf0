use mathlib.Core.Path.{◌≡◌}
use lib.ListN.{drop}
use Rattle.table.specs.Table.{forms}
use Rattle.forms.specs.Forms.{other, other_in}
use Rattle.forms.proofs.other_form.Given as goal

abbrev pub invariant-loop-short : goal.invariant-loop-short
invariant-loop-short l = other l.slot ≡ other_in (drop l.short-index forms) l.slot
