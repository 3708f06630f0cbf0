use mathlib.Core.Path.{sym, ◌∙◌}
use Prim.Native.Nat.{◌≤◌}
use native.Mathlib.Omega.{arith}
use borrow.Author.Tests.{le-ltb}
use Rattle.table.specs.Codes.{lists}
use Rattle.codes.proofs.Listed.{words, listed-is, listed-big, listed-past}
use Rattle.codes.proofs.is_listed.Goals as goal
use Rattle.codes.proofs.is_listed.Goals.{then-list-lt-COUNT, else-list-lt-COUNT}

pub returns-then-v-lt256 : goal.returns-then-v-lt256
unfolding words lists
returns-then-v-lt256 c = listed-is c.args.list c.args.v c.if-v-lt256.true.0 c.if-v-lt256.true.1

pub returns-else-v-lt256 : goal.returns-else-v-lt256
unfolding lists
returns-else-v-lt256 c =
    let a = c.args in
    elim c.if-list-lt-COUNT.branch [
      | then-list-lt-COUNT w ↦
          let over : 256 ≤ a.v = omega (arith, c.if-v-lt256.either, w.if-list-lt-COUNT.true) in
          w.t-4-is ∙ le-ltb _ _ over ∙ sym (listed-big _ _ w.if-list-lt-COUNT.true over)
      | else-list-lt-COUNT w ↦ w.t-4-is ∙ le-ltb _ _ w.if-list-lt-COUNT.false ∙ sym (listed-past _ _ w.if-list-lt-COUNT.false)
    ]
