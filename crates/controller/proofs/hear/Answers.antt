-- `hear` meets its contract. Assumes nothing.
use mathlib.Core.Path.{ap, sym, ◌∙◌}
use Rattle.book.proofs.Calls.{handed}
use Rattle.book.proofs.Told.{Replayed, replay-refused, replay-told}
use Rattle.status.specs.declared.Status.{Status}
use Rattle.status.specs.Words.{cmd_in}
use Rattle.contents.specs.Contents.{Contents}
use Rattle.controller.specs.Controller.{goes_on, heard_of, is_good}
use Rattle.controller.proofs.Steps.{hear-told, long}
use Rattle.controller.proofs.hear.Goals as goal

pub slice_bounds-heard-end : goal.slice_bounds-heard-end
slice_bounds-heard-end c =
    let told : Replayed c.args.book.now c.replay.new.out c.in_ok-n.n = replay-told _ _ long _ _ _ c.replay.ensures.0 c.replay.ensures.1 c.in_ok-n.was in
    told.fits

pub returns : goal.returns
returns c =
    let told : Replayed c.args.book.now c.replay.new.out c.in_ok-n.n = replay-told _ _ long _ _ _ c.replay.ensures.0 c.replay.ensures.1 c.in_ok-n.was in
    hear-told _ _ _ told _ _ _ _ c.heard.ensures
    (c.goes_on-good.ensures ∙ ap goes_on (c.cmd.ensures ∙ ap (λ (s : Status). cmd_in s.0) c.from_slice.ensures))

pub returns-in_err-n : goal.returns-in_err-n
returns-in_err-n c =
    let a = c.args in
    handed _ _ c.from_residual.ensures.1
    ∙ sym (ap (λ (q : Contents). heard_of q a.state (is_good a.status.now))
    (replay-refused _ _ long _ _ c.replay.ensures.0 c.in_err-n.was))
