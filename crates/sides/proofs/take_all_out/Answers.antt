use mathlib.Core.List.{List}
use mathlib.Core.Path.{ap, sym, ◌∙◌}
use Prim.Native.Nat.{ℕ, ◌+◌, ◌-◌}
use native.Mathlib.Omega.{arith}
use Rattle.table.specs.Table.{kinds}
use Rattle.owners.specs.Owners.{owns}
use Rattle.sides.specs.Means.{emptied_bytes}
use Rattle.sides.proofs.Calling.{emptied-end, emptied-on}
use Rattle.sides.proofs.take_all_out.Goals as goal

pub loop-k-preserved : goal.loop-k-preserved
loop-k-preserved c =
    let l = c.loop-k in
    let a = c.args in (
      c.take_out.auto.book ∙ l.invariant.0,
      l.invariant.1
          ∙ emptied-on (owns a.owners.now a.side) l.k l.book (omega arith)
          ∙ ap (λ (x : List ℕ). emptied_bytes (owns a.owners.now a.side) (kinds + 1 - (l.k + 1)) (l.k + 1) x)
          (sym c.take_out.ensures),
    )

pub returns : goal.returns
returns c = sym (c.loop-k.invariant.1 ∙ emptied-end _ _ _ c.loop-k-test.false)
