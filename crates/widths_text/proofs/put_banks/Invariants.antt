-- `put_banks` meets its contract. The loop's invariant: the lines of the first `i` banks stand there.
-- Assumes nothing.
use mathlib.Core.Path.{◌≡◌}
use lib.ListN.{length, take}
use Rattle.texts.specs.Written.{Puts}
use Rattle.widths_text.specs.Text.{bank_lines}
use Rattle.widths_text.proofs.put_banks.Given as goal

abbrev pub invariant-loop-i : goal.invariant-loop-i
invariant-loop-i l = (length l.out ≡ length l.initial.out) × Puts (bank_lines 0 (take l.i l.needs) (take l.i l.codes)) l.at l.initial.out l.to l.out
