use mathlib.Core.Path.{sym, ◌∙◌}
use Rattle.sides.specs.Calls.{Ask}
use Rattle.contents.proofs.Judged.{Bytes}
use Rattle.book.specs.Book.{Read}
use Rattle.book.proofs.Calls.{tells, tells-same}
use Rattle.sides.proofs.Calling.{ask-call, barred-away, foreign-named, own_first, wrong-away}
use Rattle.sides.proofs.ask.Goals as goal

pub returns-then-is_foreign : goal.returns-then-is_foreign
returns-then-is_foreign c =
    let bytes : Bytes c.args.book.now = λ i. (c.shared_slice_known-1.given i).fits in
    tells _ _ _ _
    (barred-away _ _ _ bytes (sym c.may_call.ensures ∙ c.if-not-may_call.false) (Ask _) _
    (foreign-named _ _ _ _ _ c.is_foreign.ensures c.if-is_foreign.true (Ask _) c.asked_slot.ensures) _
    (own_first Read _ _ _ _ c.and-then-is_foreign.ensures c.ready_to_read-then-is_foreign.ensures))

pub returns : goal.returns
returns c =
    let bytes : Bytes c.args.book.now = λ i. (c.shared_slice_known-1.given i).fits in
    tells-same _ _ _ _
    (ask-call _ _ _ bytes (sym c.may_call.ensures ∙ c.if-not-may_call.false) _ _
    (foreign-named _ _ _ _ _ c.is_foreign.ensures c.if-is_foreign.false (Ask _) c.asked_slot.ensures))
    c.ask.ensures

pub returns-then-not-may_call : goal.returns-then-not-may_call
returns-then-not-may_call c =
    let bytes : Bytes c.args.book.now = λ i. (c.shared_slice_known-1.given i).fits in
    tells _ _ _ _
    (wrong-away _ _ _ bytes (sym c.may_call.ensures ∙ c.if-not-may_call.true) (Ask _) _ _
    (own_first Read _ _ _ _ c.and.ensures c.ready_to_read.ensures))
