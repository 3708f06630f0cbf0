use mathlib.Core.Bool.{not}
use mathlib.Core.Path.{ap, sym, ◌∙◌}
use Prim.Native.Nat.{ℕ}
use borrow.Author.Tests.{lt-ltb}
use lib.Dec.{eqb}
use Rattle.table.specs.Table.{settings}
use Rattle.owners.specs.Owners.{owns}
use Rattle.sides.proofs.is_foreign.Goals as goal

pub returns-then-slot-lt-SETTINGS : goal.returns-then-slot-lt-SETTINGS
unfolding owns
returns-then-slot-lt-SETTINGS c =
    let a = c.args in
    ap (λ (x : ℕ). not (eqb x a.side)) c.owner_of.ensures ∙ sym (rw (lt-ltb a.slot settings c.if-slot-lt-SETTINGS.true))
