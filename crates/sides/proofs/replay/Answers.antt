use mathlib.Core.Path.{sym, ◌∙◌}
use Prim.Native.Nat.{ℕ, ◌≤◌}
use native.Mathlib.Omega.{arith}
use Rattle.sides.specs.Calls.{Replay}
use lib.ListN.{length, length-replicate, replicate}
use Rattle.contents.proofs.Judged.{Bytes}
use Rattle.book.specs.Book.{Read, longest_reel}
use Rattle.book.proofs.Told.{Replayed, replay-told}
use Rattle.book.proofs.Versions.{opened_for-opened}
use Rattle.book.proofs.Calls.{handed, tells}
use Rattle.sides.proofs.Calling.{enter, own_first, replay-away, replay-call, wrong-away}
use Rattle.sides.proofs.replay.Goals as goal

long : longest_reel ≤ length {A = ℕ} (replicate longest_reel 0)
long = omega (arith, length-replicate {A = ℕ} longest_reel 0)

pub returns-in_err-n : goal.returns-in_err-n
returns-in_err-n c =
    let met = handed _ _ c.from_residual.ensures.1 in
    tells _ _ _ _ (replay-away _ _ long _ _ _ _ _ (met ∙ sym c.in_err-n.was ∙ c.replay.ensures.0) met)

pub slice_bounds-tell_part-end : goal.slice_bounds-tell_part-end
slice_bounds-tell_part-end c =
    let told : Replayed c.args.book.now c.replay.new.out c.in_ok-n.n = replay-told _ _ long _ _ _ c.replay.ensures.0 c.replay.ensures.1 c.in_ok-n.was in
    told.fits

pub returns : goal.returns
returns c =
    let told : Replayed c.args.book.now c.replay.new.out c.in_ok-n.n = replay-told _ _ long _ _ _ c.replay.ensures.0 c.replay.ensures.1 c.in_ok-n.was in
    let bytes : Bytes c.args.book.now = λ i. (c.shared_slice_known-1.given i).fits in
    let T = told in
    replay-call _ _ _
    (enter _ _ _ bytes (sym c.may_call.ensures ∙ c.if-not-may_call.false) T.frames (opened_for-opened Read _ T.frames T.opens))
    T.opens _ c.replay.new.out c.in_ok-n.n T.reel _ _ c.tell_part.ensures

pub returns-then-not-may_call : goal.returns-then-not-may_call
returns-then-not-may_call c =
    let bytes : Bytes c.args.book.now = λ i. (c.shared_slice_known-1.given i).fits in
    tells _ _ _ _
    (wrong-away _ _ _ bytes (sym c.may_call.ensures ∙ c.if-not-may_call.true) Replay _ _
    (own_first Read _ _ _ _ c.and.ensures c.ready_to_read.ensures))
