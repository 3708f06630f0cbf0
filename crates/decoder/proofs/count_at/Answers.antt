use mathlib.Core.Path.{ap, ◌≡◌, ◌∙◌}
use Prim.Native.Nat.{ℕ, ◌-◌, ◌/◌, ◌%◌, min}
use native.Mathlib.Omega.{arith}
use Rattle.table.specs.Table.{kinds, row_at, count_of}
use Rattle.table.specs.Heads.{head_at}
use Rattle.table.proofs.Heads.{head-count}
use Rattle.decoder.proofs.count_at.Goals as goal

counted : (i : ℕ) → head_at i / 256 % 16 ≡ count_of (row_at i)
unfolding head_at row_at
counted i = head-count (min i (kinds - 1)) (omega arith)

pub returns : goal.returns
returns c = ap (λ (x : ℕ). x / 256 % 16) c.head_at.ensures ∙ counted c.args.i
