use mathlib.Core.Path.{sym, ◌∙◌, ◌≡◌}
use mathlib.Core.Bool.{true}
use native.Mathlib.Omega.{arith}
use lib.ListN.{length}
use Rattle.filling.specs.Filling.{sized_for}
use Rattle.filling.proofs.Filling.{room-count, room-high, room-low, room-none, room-size, room-slot, sized-means}
use Rattle.filling.proofs.has_room.Goals as goal

pub returns-then-slot-ge-SETTINGS : goal.returns-then-slot-ge-SETTINGS
returns-then-slot-ge-SETTINGS c = room-none _ _ _ _ c.if-slot-ge-SETTINGS.true

pub returns-then-slot-slots : goal.returns-then-slot-slots
returns-then-slot-slots c = room-slot _ _ _ _ c.if-slot-ge-SETTINGS.false c.if-slot-slots.true

pub overflow_mul-slots : goal.overflow_mul-slots
overflow_mul-slots c =
    let sized : let a = c.args in sized_for a.slots (length a.b.now) ≡ true = sym c.is_sized.ensures ∙ c.if-not-is_sized.false in
    omega (arith, sized-means _ _ sized)

pub overflow_add-slots : goal.overflow_add-slots
overflow_add-slots c =
    let sized : let a = c.args in sized_for a.slots (length a.b.now) ≡ true = sym c.is_sized.ensures ∙ c.if-not-is_sized.false in
    omega (arith, sized-means _ _ sized)

pub returns-then-e-slots : goal.returns-then-e-slots
returns-then-e-slots c =
    let sized : let a = c.args in sized_for a.slots (length a.b.now) ≡ true = sym c.is_sized.ensures ∙ c.if-not-is_sized.false in
    room-low _ _ _ _ c.if-slot-ge-SETTINGS.false c.if-slot-slots.false sized (omega (arith, c.word-e.ensures.0, c.if-e-slots.true))

pub returns-then-b-e : goal.returns-then-b-e
returns-then-b-e c =
    let sized : let a = c.args in sized_for a.slots (length a.b.now) ≡ true = sym c.is_sized.ensures ∙ c.if-not-is_sized.false in
    room-high _ _ _ _ c.if-slot-ge-SETTINGS.false c.if-slot-slots.false sized (omega (arith, c.word-e.ensures.0, c.if-e-slots.false))
    (omega (arith, c.word-e.ensures.0, c.if-b-e.true))

pub returns-then-b-e-2 : goal.returns-then-b-e-2
returns-then-b-e-2 c =
    let sized : let a = c.args in sized_for a.slots (length a.b.now) ≡ true = sym c.is_sized.ensures ∙ c.if-not-is_sized.false in
    room-high _ _ _ _ c.if-slot-ge-SETTINGS.false c.if-slot-slots.false sized (omega (arith, c.word-e.ensures.0, c.if-e-slots.false))
    (omega (arith, c.word-e.ensures.0, c.if-b-e-2.true))

pub returns : goal.returns
returns c =
    let sized : let a = c.args in sized_for a.slots (length a.b.now) ≡ true = sym c.is_sized.ensures ∙ c.if-not-is_sized.false in
    room-count _ _ _ _ c.if-slot-ge-SETTINGS.false c.if-slot-slots.false sized (omega (arith, c.word-e.ensures.0, c.if-e-slots.false))
    (omega (arith, c.word-e.ensures.0, c.if-b-e-2.false, c.if-b-e.false))

pub returns-then-not-is_sized : goal.returns-then-not-is_sized
returns-then-not-is_sized c =
    room-size _ _ _ _ c.if-slot-ge-SETTINGS.false c.if-slot-slots.false (sym c.is_sized.ensures ∙ c.if-not-is_sized.true)
