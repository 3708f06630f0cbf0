use mathlib.Core.Bool.{Bool}
use mathlib.Core.Path.{ap, ap₂, sym, ◌∙◌, ◌≡◌}
use Prim.Native.Nat.{ℕ, ◌-◌}
use native.Mathlib.Omega.{arith}
use lib.ListN.{length}
use Rattle.contents.specs.Contents.{start}
use Rattle.owners.specs.Owners.{owner_table, owns, table_right}
use Rattle.table.specs.Table.{settings}
use Rattle.sides.specs.Means.{weight_from}
use Rattle.book.specs.Book.{layout_in, room_in}
use Rattle.sides.proofs.Calling.{read-caller, read_first, read-second, read_table}
use Rattle.sides.proofs.may_call.Goals as goal

pub returns : goal.returns
returns c =
    let right : (x : Bool) → c.is_right.result ≡ x → let a = c.args in table_right (layout_in a.book.now).slots (room_in a.book.now) (owner_table a.owners.now a.quota1 a.quota2) ≡ x = λ x e. let a = c.args in
    let m = c.slots_in-slots.ensures.0 in
    ap₂ (λ (i n : ℕ). table_right i n (owner_table a.owners.now a.quota1 a.quota2)) (sym m)
    (ap (λ (i : ℕ). length a.book.now - start i) (sym m) ∙ sym c.room_in.ensures)
    ∙ sym c.is_right.ensures
    ∙ e in
    let weights : let a = c.args in (c.weigh-held.result.first ≡ weight_from (layout_in a.book.now).slots settings (owns a.owners.now 1) a.book.now 0) × (c.weigh-held.result.second ≡ weight_from (layout_in a.book.now).slots settings (owns a.owners.now 2) a.book.now 0) = let a = c.args in
    let m = c.slots_in-slots.ensures.0 in (
      c.weigh-held.ensures.first_value.0 ∙ ap (λ (i : ℕ). weight_from i settings (owns a.owners.now 1) a.book.now 0) m,
      c.weigh-held.ensures.second_value.0 ∙ ap (λ (i : ℕ). weight_from i settings (owns a.owners.now 2) a.book.now 0) m,
    ) in
    read-second _ _ _ _ _ (right _ c.if-not-is_right.false) (sym c.is_side.ensures ∙ c.if-not-is_side.false) _ weights.0 c.if-held-quota1.false _
    weights.1

pub returns-then-held-quota1 : goal.returns-then-held-quota1
returns-then-held-quota1 c =
    let right : (x : Bool) → c.is_right.result ≡ x → let a = c.args in table_right (layout_in a.book.now).slots (room_in a.book.now) (owner_table a.owners.now a.quota1 a.quota2) ≡ x = λ x e. let a = c.args in
    let m = c.slots_in-slots.ensures.0 in
    ap₂ (λ (i n : ℕ). table_right i n (owner_table a.owners.now a.quota1 a.quota2)) (sym m)
    (ap (λ (i : ℕ). length a.book.now - start i) (sym m) ∙ sym c.room_in.ensures)
    ∙ sym c.is_right.ensures
    ∙ e in
    let weights : let a = c.args in (c.weigh-held.result.first ≡ weight_from (layout_in a.book.now).slots settings (owns a.owners.now 1) a.book.now 0) × (c.weigh-held.result.second ≡ weight_from (layout_in a.book.now).slots settings (owns a.owners.now 2) a.book.now 0) = let a = c.args in
    let m = c.slots_in-slots.ensures.0 in (
      c.weigh-held.ensures.first_value.0 ∙ ap (λ (i : ℕ). weight_from i settings (owns a.owners.now 1) a.book.now 0) m,
      c.weigh-held.ensures.second_value.0 ∙ ap (λ (i : ℕ). weight_from i settings (owns a.owners.now 2) a.book.now 0) m,
    ) in
    read_first _ _ _ _ _ (right _ c.if-not-is_right.false) (sym c.is_side.ensures ∙ c.if-not-is_side.false) _ weights.0
    (omega (arith, c.if-held-quota1.true))

pub returns-then-not-is_side : goal.returns-then-not-is_side
returns-then-not-is_side c =
    let right : (x : Bool) → c.is_right.result ≡ x → let a = c.args in table_right (layout_in a.book.now).slots (room_in a.book.now) (owner_table a.owners.now a.quota1 a.quota2) ≡ x = λ x e. let a = c.args in
    let m = c.slots_in-slots.ensures.0 in
    ap₂ (λ (i n : ℕ). table_right i n (owner_table a.owners.now a.quota1 a.quota2)) (sym m)
    (ap (λ (i : ℕ). length a.book.now - start i) (sym m) ∙ sym c.room_in.ensures)
    ∙ sym c.is_right.ensures
    ∙ e in
    read-caller _ _ _ _ _ (right _ c.if-not-is_right.false) (sym c.is_side.ensures ∙ c.if-not-is_side.true)

pub returns-then-not-is_right : goal.returns-then-not-is_right
returns-then-not-is_right c =
    let right : (x : Bool) → c.is_right.result ≡ x → let a = c.args in table_right (layout_in a.book.now).slots (room_in a.book.now) (owner_table a.owners.now a.quota1 a.quota2) ≡ x = λ x e. let a = c.args in
    let m = c.slots_in-slots.ensures.0 in
    ap₂ (λ (i n : ℕ). table_right i n (owner_table a.owners.now a.quota1 a.quota2)) (sym m)
    (ap (λ (i : ℕ). length a.book.now - start i) (sym m) ∙ sym c.room_in.ensures)
    ∙ sym c.is_right.ensures
    ∙ e in
    read_table _ _ _ _ _ (right _ c.if-not-is_right.true)
