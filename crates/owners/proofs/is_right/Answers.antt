use mathlib.Core.Path.{sym, ◌∙◌}
use Rattle.owners.proofs.Loops.{right-entries, right-over, right-owners, right-rest, right-spare, right-split}
use Rattle.owners.proofs.is_right.Goals as goal

pub returns-then-owners-slots : goal.returns-then-owners-slots
returns-then-owners-slots c = sym (right-entries _ _ _ _ _ c.if-owners-slots.true)

pub returns : goal.returns
returns c =
    right-rest _ _ _ _ _ c.if-owners-slots.false (sym c.spare_first.ensures ∙ c.if-not-spare_first.false) (sym c.each_side.ensures ∙ c.if-not-each_side.false)
    (sym c.is_joined.ensures ∙ c.if-not-is_joined.false) c.if-quota1-room.false

pub returns-then-quota1-room : goal.returns-then-quota1-room
returns-then-quota1-room c =
    sym (right-over _ _ _ _ _ c.if-owners-slots.false (sym c.spare_first.ensures ∙ c.if-not-spare_first.false)
    (sym c.each_side.ensures ∙ c.if-not-each_side.false)
    (sym c.is_joined.ensures ∙ c.if-not-is_joined.false) c.if-quota1-room.true)

pub returns-then-not-is_joined : goal.returns-then-not-is_joined
returns-then-not-is_joined c =
    sym (right-split _ _ _ _ _ c.if-owners-slots.false (sym c.spare_first.ensures ∙ c.if-not-spare_first.false)
    (sym c.each_side.ensures ∙ c.if-not-each_side.false)
    (sym c.is_joined.ensures ∙ c.if-not-is_joined.true))

pub returns-then-not-spare_first : goal.returns-then-not-spare_first
returns-then-not-spare_first c =
    sym (right-spare _ _ _ _ _ c.if-owners-slots.false (sym c.each_side.ensures ∙ c.if-not-each_side.false) (sym c.spare_first.ensures ∙ c.if-not-spare_first.true))

pub returns-then-not-each_side : goal.returns-then-not-each_side
returns-then-not-each_side c = sym (right-owners _ _ _ _ _ c.if-owners-slots.false (sym c.each_side.ensures ∙ c.if-not-each_side.true))
