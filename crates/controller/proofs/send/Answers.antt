-- `send` meets its contract. Assumes nothing.
use mathlib.Core.Path.{ap, sym, ◌∙◌}
use Rattle.book.proofs.Calls.{handed}
use Rattle.book.proofs.Told.{Replayed, replay-refused, replay-told}
use Rattle.contents.specs.Contents.{Contents}
use Rattle.controller.specs.Controller.{sending_of}
use Rattle.controller.proofs.Steps.{long, send-told}
use Rattle.controller.proofs.send.Goals as goal

pub returns : goal.returns
returns c =
    let told : Replayed c.args.book.now c.replay.new.out c.in_ok-len.len = replay-told _ _ long _ _ _ c.replay.ensures.0 c.replay.ensures.1 c.in_ok-len.was in
    send-told _ _ _ told _ _ c.to_send.ensures

pub returns-in_err-len : goal.returns-in_err-len
returns-in_err-len c =
    handed _ _ c.from_residual.ensures.1
    ∙ sym (ap (λ (q : Contents). sending_of q c.args.state)
    (replay-refused _ _ long _ _ c.replay.ensures.0 c.in_err-len.was))

pub slice_bounds-to_send-end : goal.slice_bounds-to_send-end
slice_bounds-to_send-end c =
    let told : Replayed c.args.book.now c.replay.new.out c.in_ok-len.len = replay-told _ _ long _ _ _ c.replay.ensures.0 c.replay.ensures.1 c.in_ok-len.was in
    told.fits
