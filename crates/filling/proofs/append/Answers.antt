use mathlib.Core.Path.{refl, sym, ◌∙◌}
use native.Mathlib.Omega.{arith}
use lib.ListN.{length}
use Rattle.filling.proofs.Filling.{Room, append-made, appended_left, has_room_lem}
use Rattle.filling.proofs.append.Goals as goal

pub bounds-b-1 : goal.bounds-b-1
bounds-b-1 c =
    let room : let a = c.args in Room a.slots a.slot (length a.frame.now) a.b.now = has_room_lem _ _ _ _ (sym c.has_room.ensures ∙ c.if-has_room.true) in
    let R = room in omega (arith, R.small)

pub overflow_add-b : goal.overflow_add-b
overflow_add-b c =
    let room : let a = c.args in Room a.slots a.slot (length a.frame.now) a.b.now = has_room_lem _ _ _ _ (sym c.has_room.ensures ∙ c.if-has_room.true) in
    omega (arith, room.few)

pub bounds-b-1-then-has_room : goal.bounds-b-1-then-has_room
bounds-b-1-then-has_room c =
    let room : let a = c.args in Room a.slots a.slot (length a.frame.now) a.b.now = has_room_lem _ _ _ _ (sym c.has_room.ensures ∙ c.if-has_room.true) in
    omega (arith, room.small, c.write.auto.b)

pub overflow_mul-slot : goal.overflow_mul-slot
overflow_mul-slot c =
    let room : let a = c.args in Room a.slots a.slot (length a.frame.now) a.b.now = has_room_lem _ _ _ _ (sym c.has_room.ensures ∙ c.if-has_room.true) in
    let R = room in
    omega (arith, R.among, R.small, R.big)

pub overflow_add-slot : goal.overflow_add-slot
overflow_add-slot c =
    let room : let a = c.args in Room a.slots a.slot (length a.frame.now) a.b.now = has_room_lem _ _ _ _ (sym c.has_room.ensures ∙ c.if-has_room.true) in
    let R = room in
    omega (arith, R.among, R.small, R.big)

pub returns-then-has_room : goal.returns-then-has_room
returns-then-has_room c =
    let room : let a = c.args in Room a.slots a.slot (length a.frame.now) a.b.now = has_room_lem _ _ _ _ (sym c.has_room.ensures ∙ c.if-has_room.true) in
    append-made _ _ _ _ room _ _ c.word-e.ensures.0 refl _ _ _
    c.write.ensures c.put_word.ensures c.put_word-then-has_room.ensures

pub returns-else-has_room : goal.returns-else-has_room
returns-else-has_room c = sym (appended_left _ _ _ _ (sym c.has_room.ensures ∙ c.if-has_room.false))
