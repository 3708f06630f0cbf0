use mathlib.Core.Bool.{cond}
use mathlib.Core.Path.{ap, ap₂, subst, sym, ◌∙◌, ◌≡◌}
use Prim.Native.Nat.{ℕ, ◌*◌, ◌≤◌}
use native.Mathlib.Omega.{arith}
use Rattle.sides.specs.Calls.{Put}
use lib.Dec.{eqb}
use lib.ListN.{length}
use Rattle.table.specs.Table.{settings}
use Rattle.contents.proofs.Judged.{Bytes}
use Rattle.owners.specs.Owners.{owns}
use Rattle.book.specs.Book.{Edit, layout_in}
use Rattle.book.proofs.Calls.{permits, permits-same}
use Rattle.sides.proofs.Calling.{barred-away, foreign-named, own_first, put-away, put-call, put_other, setting-short, wrong-away}
use Rattle.sides.proofs.Weighing.{side-few}
use Rattle.sides.specs.Means.{weight_after, weight_from}
use Rattle.sides.proofs.put.Goals as goal

pub returns-then-is_foreign : goal.returns-then-is_foreign
returns-then-is_foreign c =
    let bytes : Bytes c.args.book.now = λ i. (c.slice_known-1.given i).fits in
    permits _ _ _ _
    (barred-away _ _ _ bytes (sym c.may_call.ensures ∙ c.if-not-may_call.false) (Put _) _
    (foreign-named _ _ _ _ _ c.is_foreign.ensures c.if-is_foreign.true (Put _) c.slot_of-slot.ensures) _
    (own_first Edit _ _ _ _ c.and-then-is_foreign.ensures c.ready_to_edit-then-is_foreign.ensures))

pub weight_after-requires : goal.weight_after-requires
weight_after-requires c =
    let a = c.args in (
      subst (λ (n : ℕ). n ≤ 12 * settings) (sym c.of_side-held.ensures)
          (side-few a.caller _ _ (12 * settings) c.weigh.ensures.first_value.1 c.weigh.ensures.second_value.1),
      setting-short _ _ c.slot_of-slot.ensures c.if-slot-ge-SETTINGS.false,
    )

pub returns : goal.returns
returns c =
    let bytes : Bytes c.args.book.now = λ i. (c.slice_known-1.given i).fits in
    let holding : let a = c.args in let m = (layout_in a.book.now).slots in c.of_side-held.result ≡ cond (eqb a.caller 1) (weight_from m settings (owns a.owners.now 1) a.book.now 0) (weight_from m settings (owns a.owners.now 2) a.book.now 0) = let k = c.weigh.ensures in
    let a = c.args in
    let m = c.slots_in-slots.ensures.0 in
    c.of_side-held.ensures
    ∙ ap₂ (λ (x y : ℕ). cond (eqb a.caller 1) x y) k.first_value.0 k.second_value.0
    ∙ ap (λ (i : ℕ). cond (eqb a.caller 1) (weight_from i settings (owns a.owners.now 1) a.book.now 0)
    (weight_from i settings (owns a.owners.now 2) a.book.now 0)) m in
    let weighed : let a = c.args in c.weight_after.result ≡ weight_after (layout_in a.book.now).slots a.book.now c.slot_of-slot.result c.of_side-held.result (length a.frame.now) = let a = c.args in
    c.weight_after.ensures
    ∙ ap (λ (i : ℕ). weight_after i a.book.now c.slot_of-slot.result c.of_side-held.result
    (length a.frame.now)) c.slots_in-slots.ensures.0 in
    permits-same _ _ _ _
    (put-call _ _ _ bytes (sym c.may_call.ensures ∙ c.if-not-may_call.false) _ _ c.slot_of-slot.ensures
    (foreign-named _ _ _ _ _ c.is_foreign.ensures c.if-is_foreign.false (Put _) c.slot_of-slot.ensures) c.if-slot-ge-SETTINGS.false _ _
    holding weighed (omega (arith, c.quota_of.ensures, c.if-weight_after-quota_of.false)))
    c.put-2.ensures

pub returns-then-weight_after-quota_of : goal.returns-then-weight_after-quota_of
returns-then-weight_after-quota_of c =
    let bytes : Bytes c.args.book.now = λ i. (c.slice_known-1.given i).fits in
    let holding : let a = c.args in let m = (layout_in a.book.now).slots in c.of_side-held.result ≡ cond (eqb a.caller 1) (weight_from m settings (owns a.owners.now 1) a.book.now 0) (weight_from m settings (owns a.owners.now 2) a.book.now 0) = let k = c.weigh.ensures in
    let a = c.args in
    let m = c.slots_in-slots.ensures.0 in
    c.of_side-held.ensures
    ∙ ap₂ (λ (x y : ℕ). cond (eqb a.caller 1) x y) k.first_value.0 k.second_value.0
    ∙ ap (λ (i : ℕ). cond (eqb a.caller 1) (weight_from i settings (owns a.owners.now 1) a.book.now 0)
    (weight_from i settings (owns a.owners.now 2) a.book.now 0)) m in
    let weighed : let a = c.args in c.weight_after.result ≡ weight_after (layout_in a.book.now).slots a.book.now c.slot_of-slot.result c.of_side-held.result (length a.frame.now) = let a = c.args in
    c.weight_after.ensures
    ∙ ap (λ (i : ℕ). weight_after i a.book.now c.slot_of-slot.result c.of_side-held.result
    (length a.frame.now)) c.slots_in-slots.ensures.0 in
    permits _ _ _ _
    (put-away _ _ _ bytes (sym c.may_call.ensures ∙ c.if-not-may_call.false) _ _ c.slot_of-slot.ensures
    (foreign-named _ _ _ _ _ c.is_foreign.ensures c.if-is_foreign.false (Put _) c.slot_of-slot.ensures) c.if-slot-ge-SETTINGS.false _ _
    holding weighed
    (omega (arith, c.quota_of.ensures, c.if-weight_after-quota_of.true)) _ (own_first Edit _ _ _ _ c.and-then-weight_after-quota_of.ensures c.ready_to_edit-then-weight_after-quota_of.ensures))

pub returns-then-slot-ge-SETTINGS : goal.returns-then-slot-ge-SETTINGS
returns-then-slot-ge-SETTINGS c =
    let bytes : Bytes c.args.book.now = λ i. (c.slice_known-1.given i).fits in
    permits-same _ _ _ _
    (put_other _ _ _ bytes (sym c.may_call.ensures ∙ c.if-not-may_call.false) _ _ c.slot_of-slot.ensures
    (foreign-named _ _ _ _ _ c.is_foreign.ensures c.if-is_foreign.false (Put _) c.slot_of-slot.ensures) c.if-slot-ge-SETTINGS.true)
    c.put.ensures

pub returns-then-not-may_call : goal.returns-then-not-may_call
returns-then-not-may_call c =
    let bytes : Bytes c.args.book.now = λ i. (c.slice_known-1.given i).fits in
    permits _ _ _ _
    (wrong-away _ _ _ bytes (sym c.may_call.ensures ∙ c.if-not-may_call.true) (Put _) _ _
    (own_first Edit _ _ _ _ c.and.ensures c.ready_to_edit.ensures))
