use mathlib.Core.Path.{ap, sym, ◌∙◌, ◌≡◌}
use native.Mathlib.Omega.{arith}
use Rattle.std.specs.Prelude.{Ok}
use Rattle.settings.specs.Settings.{slot_of}
use Rattle.settings.proofs.Settings.{lacks-kind, lacks-own, slot_of-kind, slot_of-none}
use Rattle.contents.proofs.Judged.{Bytes}
use Rattle.book.specs.Book.{Edit, opened, ours, verdict}
use Rattle.book.proofs.Putting.{put-bad}
use Rattle.book.proofs.Calls.{Holds, done-nought, opened-holds, permits, permits-same}
use Rattle.book.proofs.Versions.{Serves, edit-serves, for-layout, permits-for, handed-on}
use Rattle.book.proofs.put.Goals as goal

pub returns-in_err-ready_to_edit : goal.returns-in_err-ready_to_edit
returns-in_err-ready_to_edit c = permits _ _ _ _ (handed-on _ _ _ Edit _ _ _ c.ready_to_edit.ensures c.in_err-ready_to_edit.was c.from_residual.ensures.1)

pub returns-in_default : goal.returns-in_default
returns-in_default c =
    let serving : Serves Edit ours c.args.book.now = edit-serves _ _ (sym c.in_ok-ready_to_edit.was ∙ c.ready_to_edit.ensures) in
    let bytes : Bytes c.args.book.now = λ i. (c.slice_known-1.given i).fits in
    let passed : Ok 0 ≡ verdict (opened ours c.args.book.now) = done-nought (opened ours _) _ (sym c.in_ok-ready_to_edit.was ∙ c.ready_to_edit.ensures ∙ ap verdict serving.opens) in
    let known : Holds ours c.args.book.now = opened-holds ours _ 0 passed in
    let d = c.decode-answer in
    let x = c.in_default.is in
    rw (c.declined.ensures, x)
    (permits-for _ _ _ Edit ours serving _ _ _
    (put-bad ours _ bytes known _ _ (slot_of-none _ _ d.ensures _ x) (omega arith) _ (lacks-own _ _ d.ensures _ x)))

pub put_setting-requires : goal.put_setting-requires
put_setting-requires c =
    let serving : Serves Edit ours c.args.book.now = edit-serves _ _ (sym c.in_ok-ready_to_edit.was ∙ c.ready_to_edit.ensures) in
    let passed : Ok 0 ≡ verdict (opened ours c.args.book.now) = done-nought (opened ours _) _ (sym c.in_ok-ready_to_edit.was ∙ c.ready_to_edit.ensures ∙ ap verdict serving.opens) in
    let own : c.slot_for-slot.result ≡ slot_of c.args.frame.now = c.slot_for-slot.ensures ∙ slot_of-kind _ _ c.decode-answer.ensures _ c.in-Ok.is in
    (passed, own, c.if-slot-lt-SETTINGS.true)

pub returns-then-slot-lt-SETTINGS : goal.returns-then-slot-lt-SETTINGS
returns-then-slot-lt-SETTINGS c =
    let serving : Serves Edit ours c.args.book.now = edit-serves _ _ (sym c.in_ok-ready_to_edit.was ∙ c.ready_to_edit.ensures) in
    permits-same _ _ _ _ (sym (for-layout _ _ _ Edit ours serving)) c.put_setting.ensures

pub returns : goal.returns
returns c =
    let serving : Serves Edit ours c.args.book.now = edit-serves _ _ (sym c.in_ok-ready_to_edit.was ∙ c.ready_to_edit.ensures) in
    let bytes : Bytes c.args.book.now = λ i. (c.slice_known-1.given i).fits in
    let passed : Ok 0 ≡ verdict (opened ours c.args.book.now) = done-nought (opened ours _) _ (sym c.in_ok-ready_to_edit.was ∙ c.ready_to_edit.ensures ∙ ap verdict serving.opens) in
    let known : Holds ours c.args.book.now = opened-holds ours _ 0 passed in
    let own : c.slot_for-slot.result ≡ slot_of c.args.frame.now = c.slot_for-slot.ensures ∙ slot_of-kind _ _ c.decode-answer.ensures _ c.in-Ok.is in
    let k = c.in-Ok.is in
    let p = permits-for _ _ _ Edit ours serving _ _ _ (put-bad ours _ bytes known _ _ own c.if-slot-lt-SETTINGS.false _
    (lacks-kind _ _ c.decode-answer.ensures _ k)) in
    (c.declined-2.ensures ∙ p.0, p.1)
