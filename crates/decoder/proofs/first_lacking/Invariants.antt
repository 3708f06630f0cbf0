-- The loop's invariant: `low` is the answer for the fields from j on. Assumes nothing.
use Prim.Native.Nat.{ℕ, ◌≤◌}
use mathlib.Core.Path.{◌≡◌}
use mathlib.Core.List.{List}
use lib.ListN.{drop, take}
use Rattle.table.specs.Table.{count_of, numbers_of}
use Rattle.decoder.specs.Decoding.{lacking}
use Rattle.decoder.proofs.first_lacking.Given as goal

abbrev pub from : ℕ → List ℕ → List ℕ → ℕ → ℕ
from n row args j = lacking n (drop j (numbers_of row)) (drop j (take (count_of row) args))

abbrev pub invariant-loop-j : goal.invariant-loop-j
invariant-loop-j l = (l.j ≤ count_of l.row) × (count_of l.row ≤ 9) × (l.low ≡ from l.n l.row l.args l.j)
