use mathlib.Core.Path.{ap, sym, ◌∙◌, ◌≡◌}
use mathlib.Core.Bool.{true}
use mathlib.Core.List.{List}
use Prim.Native.Nat.{ℕ}
use borrow.Author.Tests.{eq-eqb, ne_eqb}
use Rattle.settings.specs.Settings.{slot_for}
use Rattle.contents.specs.Contents.{offset_at}
use Rattle.owners.specs.Owners.{owner_of, owns}
use Rattle.sides.proofs.Calling.{remove_absent}
use Rattle.sides.proofs.take_out.Goals.{else-owner_of-side-via-then-owner_of-side+else-offset-ne0, else-owner_of-side-via-else-owner_of-side}
use Rattle.sides.proofs.take_out.Goals as goal

-- the kind is the side's
own : (o : List ℕ) (side k slot r : ℕ) → slot ≡ slot_for k → r ≡ owner_of o slot → r ≡ side → owns o side (slot_for k) ≡ true
unfolding owns
own o side k slot r s e h = eq-eqb (owner_of o (slot_for k)) side (ap (owner_of o) (sym s) ∙ sym e ∙ h)

pub returns-then-offset-ne0 : goal.returns-then-offset-ne0
returns-then-offset-ne0 c =
    c.remove-removed.ensures.1 ∙ sym (rw (own _ _ _ _ _ c.slot_for-slot.ensures c.owner_of.ensures c.if-owner_of-side.true))

pub returns-else-owner_of-side : goal.returns-else-owner_of-side
unfolding owns
returns-else-owner_of-side c =
    let a = c.args in
    elim c.else-owner_of-side.branch [
      | else-owner_of-side-via-then-owner_of-side+else-offset-ne0 w ↦
          sym (rw (own _ _ _ _ _ c.slot_for-slot.ensures c.owner_of.ensures w.if-owner_of-side.true)
          (remove_absent a.k a.book.now (λ i. (c.slice_known-1.given i).fits)
          (ap (offset_at a.book.now) (sym c.slot_for-slot.ensures) ∙ sym w.offset.ensures.0 ∙ w.if-offset-ne0.false)))
      | else-owner_of-side-via-else-owner_of-side w ↦
          sym (rw (ne_eqb (owner_of a.owners.now (slot_for a.k)) a.side
          (λ e. w.if-owner_of-side.false (c.owner_of.ensures ∙ ap (owner_of a.owners.now) c.slot_for-slot.ensures ∙ e))))
    ]
