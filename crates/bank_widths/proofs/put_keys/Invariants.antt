use mathlib.Core.Path.{◌≡◌}
use Prim.Native.Nat.{◌≤◌}
use lib.ListN.{length, take}
use Rattle.bank_widths.specs.Keys.{keys_below}
use Rattle.bank_widths.proofs.put_keys.Given as goal

abbrev pub invariant-loop-code : goal.invariant-loop-code
invariant-loop-code l = (l.count ≤ l.code) × (length l.all ≡ 256) × (take l.count l.all ≡ keys_below l.code)
