use mathlib.Core.Path.{ap, sym, ◌∙◌}
use Prim.Native.Nat.{ℕ}
use native.Mathlib.Omega.{arith}
use Rattle.contents.proofs.Judged.{Bytes}
use Rattle.book.specs.Book.{Edit, ours, verdict}
use Rattle.book.proofs.Known.{held-past, held-within, low-offsets}
use Rattle.book.proofs.Removing.{remove_absent, remove-done, remove-none, some-held}
use Rattle.book.specs.Edits.{taken_out}
use Rattle.book.proofs.Calls.{Holds, holds-reads, opened-holds, permits}
use Rattle.book.proofs.Versions.{Serves, edit-serves, permits-for, handed-on}
use Rattle.book.proofs.remove.Goals as goal

pub returns-in_err-ready_to_edit : goal.returns-in_err-ready_to_edit
returns-in_err-ready_to_edit c = permits _ _ _ _ (handed-on _ _ _ Edit _ _ _ c.ready_to_edit.ensures c.in_err-ready_to_edit.was c.from_residual.ensures.1)

pub take_out-requires : goal.take_out-requires
take_out-requires c =
    let serving : Serves Edit ours c.args.book.now = edit-serves _ _ (sym c.in_ok-ready_to_edit.was ∙ c.ready_to_edit.ensures) in
    let known : Holds ours c.args.book.now = opened-holds ours _ _ (sym c.in_ok-ready_to_edit.was ∙ c.ready_to_edit.ensures ∙ ap verdict serving.opens) in
    let bytes : Bytes c.args.book.now = λ i. (c.slice_known-1.given i).fits in
    let r = holds-reads ours _ known in
    let past = held-past ours _ bytes known _ _ (omega arith) c.offset-at.ensures.0 c.if-at-eq0.false in
    let in-book = held-within ours _ bytes known _ _ (omega arith) c.offset-at.ensures.0 c.if-at-eq0.false in (
      past,
      omega (arith, past),
      omega (arith, in-book, c.word-e.ensures.0, c.size_of-n.ensures.0),
      omega (arith, r.high),
      omega (arith, r.big),
      some-held ours _ bytes known _ _ c.slot_for-slot.ensures c.if-slot-ge-SETTINGS.false (omega arith) _ c.offset-at.ensures.0 c.if-at-eq0.false,
      low-offsets ours _ bytes known,
    )

pub returns : goal.returns
returns c =
    let serving : Serves Edit ours c.args.book.now = edit-serves _ _ (sym c.in_ok-ready_to_edit.was ∙ c.ready_to_edit.ensures) in
    let bytes : Bytes c.args.book.now = λ i. (c.slice_known-1.given i).fits in
    let known : Holds ours c.args.book.now = opened-holds ours _ _ (sym c.in_ok-ready_to_edit.was ∙ c.ready_to_edit.ensures ∙ ap verdict serving.opens) in
    let b = c.args.book.now in
    permits-for _ _ _ Edit ours serving _ _ _
    (remove-done ours _ bytes known _ _ c.slot_for-slot.ensures c.if-slot-ge-SETTINGS.false (omega arith) _ c.offset-at.ensures.0 c.if-at-eq0.false _ _
    c.word-e.ensures.0
    (c.take_out.ensures
    ∙ ap (λ (x : ℕ). taken_out ours.slots b c.offset-at.result x c.word-e.result) c.size_of-n.ensures.0))

pub returns-then-at-eq0 : goal.returns-then-at-eq0
returns-then-at-eq0 c =
    let serving : Serves Edit ours c.args.book.now = edit-serves _ _ (sym c.in_ok-ready_to_edit.was ∙ c.ready_to_edit.ensures) in
    let bytes : Bytes c.args.book.now = λ i. (c.slice_known-1.given i).fits in
    let known : Holds ours c.args.book.now = opened-holds ours _ _ (sym c.in_ok-ready_to_edit.was ∙ c.ready_to_edit.ensures ∙ ap verdict serving.opens) in
    permits-for _ _ _ Edit ours serving _ _ _
    (remove_absent ours _ bytes known _ _ c.slot_for-slot.ensures c.if-slot-ge-SETTINGS.false (omega arith) _
    c.offset-at.ensures.0 c.if-at-eq0.true)

pub returns-then-slot-ge-SETTINGS : goal.returns-then-slot-ge-SETTINGS
returns-then-slot-ge-SETTINGS c =
    let serving : Serves Edit ours c.args.book.now = edit-serves _ _ (sym c.in_ok-ready_to_edit.was ∙ c.ready_to_edit.ensures) in
    let bytes : Bytes c.args.book.now = λ i. (c.slice_known-1.given i).fits in
    let known : Holds ours c.args.book.now = opened-holds ours _ _ (sym c.in_ok-ready_to_edit.was ∙ c.ready_to_edit.ensures ∙ ap verdict serving.opens) in
    permits-for _ _ _ Edit ours serving _ _ _ (remove-none ours _ bytes known _ _ c.slot_for-slot.ensures c.if-slot-ge-SETTINGS.true)
