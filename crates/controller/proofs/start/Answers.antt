-- `start` meets its contract. Assumes nothing.
use mathlib.Core.Path.{ap, sym, ◌∙◌}
use Rattle.book.proofs.Calls.{handed}
use Rattle.book.proofs.Told.{Replayed, replay-refused, replay-told}
use Rattle.controller.specs.Controller.{start_of}
use Rattle.controller.proofs.Steps.{long, start-empty, start-some}
use Rattle.controller.proofs.start.Goals as goal

pub returns-then-n-eq0 : goal.returns-then-n-eq0
returns-then-n-eq0 c =
    let told : Replayed c.args.book.now c.replay.new.out c.in_ok-n.n = replay-told _ _ long _ _ _ c.replay.ensures.0 c.replay.ensures.1 c.in_ok-n.was in
    start-empty _ _ _ told c.if-n-eq0.true

pub returns : goal.returns
returns c =
    let told : Replayed c.args.book.now c.replay.new.out c.in_ok-n.n = replay-told _ _ long _ _ _ c.replay.ensures.0 c.replay.ensures.1 c.in_ok-n.was in
    start-some _ _ _ told c.if-n-eq0.false

pub returns-in_err-n : goal.returns-in_err-n
returns-in_err-n c =
    handed _ _ c.from_residual.ensures.1
    ∙ sym (ap start_of (replay-refused _ _ long _ _ c.replay.ensures.0 c.in_err-n.was))
