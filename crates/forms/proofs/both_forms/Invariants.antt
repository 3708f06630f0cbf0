use mathlib.Core.Path.{◌≡◌}
use lib.ListN.{drop}
use Rattle.table.specs.Table.{forms}
use Rattle.contents.specs.Contents.{present_for}
use Rattle.forms.specs.Forms.{both_in, in_both}
use Rattle.forms.proofs.both_forms.Given as goal

abbrev pub invariant-loop-short : goal.invariant-loop-short
invariant-loop-short l = in_both (present_for l.slots l.book) ≡ both_in (drop l.short-index forms) (present_for l.slots l.book)
