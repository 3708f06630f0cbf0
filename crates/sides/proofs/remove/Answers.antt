use mathlib.Core.Path.{sym, ◌∙◌}
use Rattle.sides.specs.Calls.{Remove}
use Rattle.contents.proofs.Judged.{Bytes}
use Rattle.book.specs.Book.{Edit}
use Rattle.book.proofs.Calls.{permits, permits-same}
use Rattle.sides.proofs.Calling.{barred-away, foreign-named, own_first, remove-call, wrong-away}
use Rattle.sides.proofs.remove.Goals as goal

pub returns-then-is_foreign : goal.returns-then-is_foreign
returns-then-is_foreign c =
    let bytes : Bytes c.args.book.now = λ i. (c.slice_known-1.given i).fits in
    permits _ _ _ _
    (barred-away _ _ _ bytes (sym c.may_call.ensures ∙ c.if-not-may_call.false) (Remove _) _
    (foreign-named _ _ _ _ _ c.is_foreign.ensures c.if-is_foreign.true (Remove _) c.slot_for.ensures) _
    (own_first Edit _ _ _ _ c.and-then-is_foreign.ensures c.ready_to_edit-then-is_foreign.ensures))

pub returns : goal.returns
returns c =
    let bytes : Bytes c.args.book.now = λ i. (c.slice_known-1.given i).fits in
    permits-same _ _ _ _
    (remove-call _ _ _ bytes (sym c.may_call.ensures ∙ c.if-not-may_call.false) _
    (foreign-named _ _ _ _ _ c.is_foreign.ensures c.if-is_foreign.false (Remove _) c.slot_for.ensures))
    c.remove.ensures

pub returns-then-not-may_call : goal.returns-then-not-may_call
returns-then-not-may_call c =
    let bytes : Bytes c.args.book.now = λ i. (c.slice_known-1.given i).fits in
    permits _ _ _ _
    (wrong-away _ _ _ bytes (sym c.may_call.ensures ∙ c.if-not-may_call.true) (Remove _) _ _
    (own_first Edit _ _ _ _ c.and.ensures c.ready_to_edit.ensures))
