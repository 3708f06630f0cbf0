use mathlib.Core.Path.{ap, ◌∙◌}
use native.Mathlib.Omega.{arith}
use Prim.Native.Nat.{ℕ, ◌+◌}
use Rattle.std.specs.Prelude.{Some}
use Rattle.playback.proofs.Sizes.{size-short, size-unknown, size-whole, size-cut}
use Rattle.playback.proofs.size_at.Goals as goal
use Rattle.playback.proofs.size_at.Goals.{then-left-lt2-via-then-left-lt2, then-left-lt2-via-else-left-lt2+then-part-i-gt1}

pub returns-then-left-lt2 : goal.returns-then-left-lt2
returns-then-left-lt2 c =
    elim c.then-left-lt2.branch [
      | then-left-lt2-via-then-left-lt2 w ↦ size-short c.args.part.now c.args.i (omega (arith, c.saturating_sub-left.ensures))
      | then-left-lt2-via-else-left-lt2+then-part-i-gt1 w ↦ size-unknown c.args.part.now c.args.i (omega arith)
    ]

pub returns-then-n-left : goal.returns-then-n-left
returns-then-n-left c =
    ap (λ (n : ℕ). Some (n + 2)) c.from-n.ensures
    ∙ size-whole c.args.part.now c.args.i (omega arith) (omega (arith, c.from-n.ensures, c.saturating_sub-left.ensures))

pub returns-else-n-left : goal.returns-else-n-left
returns-else-n-left c =
    size-cut c.args.part.now c.args.i (omega (arith, c.from-n.ensures, c.saturating_sub-left.ensures))
