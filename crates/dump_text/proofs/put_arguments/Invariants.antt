-- `put_arguments` meets its contract. The loop's invariant: the first `n-index` arguments stand there.
-- Assumes nothing.
use mathlib.Core.Path.{◌≡◌}
use lib.ListN.{length, take}
use Rattle.dump_text.specs.Text.{blanked}
use Rattle.dump_text.specs.Parts.{Puts}
use Rattle.dump_text.proofs.put_arguments.Given as goal

abbrev pub invariant-loop-n : goal.invariant-loop-n
invariant-loop-n l = (length l.out ≡ length l.initial.out) × Puts (blanked (take l.n-index l.args)) l.at l.initial.out l.to l.out
