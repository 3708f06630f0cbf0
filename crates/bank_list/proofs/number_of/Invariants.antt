-- `number_of` meets its contract: the digits behind the place go on from the value, and what is past 64 bits stays past them.
-- Assumes nothing.
use mathlib.Core.Path.{◌≡◌}
use Prim.Native.Nat.{◌^◌, ◌<◌}
use lib.ListN.{drop}
use Rattle.bank_list.specs.Lines.{number_from, number_of}
use Rattle.bank_list.proofs.number_of.Given as goal

abbrev pub invariant-loop-digit : goal.invariant-loop-digit
invariant-loop-digit l = (l.value < 2 ^ 64) × (number_of l.digits ≡ number_from l.value (drop l.digit-index l.digits))
