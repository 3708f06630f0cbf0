use mathlib.Core.Path.{sym, ◌∙◌}
use Rattle.contents.proofs.Judged.{Bytes}
use Rattle.book.specs.Book.{Edit, opened_for}
use Rattle.book.proofs.Versions.{opened_for-opened, handed-on}
use Rattle.sides.specs.Calls.{Clear}
use Rattle.book.proofs.Calls.{Finds, done-finds, permits}
use Rattle.sides.proofs.Calling.{clear-call, enter, wrong-kept}
use Rattle.sides.proofs.clear.Goals as goal

pub returns-in_err-ready_to_edit : goal.returns-in_err-ready_to_edit
returns-in_err-ready_to_edit c = permits _ _ _ _ (handed-on _ _ _ Edit _ _ _ c.ready_to_edit.ensures c.in_err-ready_to_edit.was c.from_residual.ensures.1)

pub returns : goal.returns
returns c =
    let bytes : Bytes c.args.book.now = λ i. (c.slice_known-1.given i).fits in
    let known : Finds (opened_for Edit c.args.book.now) = done-finds (opened_for Edit _) _ (sym c.in_ok-ready_to_edit.was ∙ c.ready_to_edit.ensures) in
    let B = bytes in
    let h = known in
    clear-call _ _ _ B
    (enter _ _ _ B (sym c.may_call.ensures ∙ c.if-not-may_call.false) h.frames (opened_for-opened Edit _ h.frames h.opens))
    h.opens _
    c.take_all_out.ensures

pub returns-then-not-may_call : goal.returns-then-not-may_call
returns-then-not-may_call c =
    let known : Finds (opened_for Edit c.args.book.now) = done-finds (opened_for Edit _) _ (sym c.in_ok-ready_to_edit.was ∙ c.ready_to_edit.ensures) in
    let bytes : Bytes c.args.book.now = λ i. (c.slice_known-1.given i).fits in
    let h = known in
    permits _ _ _ _
    (wrong-kept _ _ _ bytes (sym c.may_call.ensures ∙ c.if-not-may_call.true) h.frames Clear h.opens _)
