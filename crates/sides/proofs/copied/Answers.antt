use mathlib.Core.Path.{sym, ◌∙◌}
use borrow.Author.Tests.{eq-eqb, ne_eqb}
use Rattle.owners.specs.Owners.{owner_of, owns}
use Rattle.sides.proofs.copied.Goals as goal

pub returns-then-owner_of-side : goal.returns-then-owner_of-side
unfolding owns
returns-then-owner_of-side c =
    let a = c.args in
    let e = ne_eqb (owner_of a.owners.now a.slot) a.side (λ z. c.if-owner_of-side.true (c.owner_of.ensures ∙ z)) in
    record { value = sym (rw e); out_after = sym (rw e) }

pub returns : goal.returns
unfolding owns
returns c =
    let a = c.args in
    let e = eq-eqb (owner_of a.owners.now a.slot) a.side (sym c.owner_of.ensures ∙ c.if-owner_of-side.false) in
    record { value = sym (rw e); out_after = c.write.ensures ∙ sym (rw e) }
