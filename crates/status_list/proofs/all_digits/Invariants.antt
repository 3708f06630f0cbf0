-- `all_digits` meets its contract: what is passed are digits.
-- Assumes nothing.
use mathlib.Core.Path.{◌≡◌}
use lib.ListN.{drop}
use Rattle.status_list.specs.Words.{all_digits}
use Rattle.status_list.proofs.all_digits.Given as goal

abbrev pub invariant-loop-b : goal.invariant-loop-b
invariant-loop-b l = all_digits l.word ≡ all_digits (drop l.b-index l.word)
