-- `run` meets its contract. The loop's invariant is `Going`: the lines that stand there, and what is played from here on, make up the whole.
-- Assumes nothing.
use mathlib.Core.Path.{◌≡◌, sym, ap, subst, ◌∙◌}
use mathlib.Core.Bool.{true}
use mathlib.Core.List.{[], ◌∷◌}
use native.Mathlib.Omega.{arith}
use Rattle.std.specs.Prelude.{Ok, Option}
use Rattle.status_list.specs.declared.Found.{Found}
use Rattle.book.specs.Book.{Read, opened_for}
use Rattle.controller.specs.Controller.{sending_of}
use Rattle.controller.specs.declared.State.{State}
use Rattle.control_text.specs.Text.{Closes, Short, heard, is_running, sent_of}
use Rattle.control_text.proofs.Turns.{going_end, going-forward, going-over, going_start, going_step, going-wrong, not-running}
use Rattle.control_text.proofs.Longest.{all_short}
use Rattle.control_text.proofs.run.Goals as goal

pub loop-state-init : goal.loop-state-init
loop-state-init c = going_start _ _ _ _ c.requires.first_value

pub put_step-to-requires : goal.put_step-to-requires
put_step-to-requires c =
    let goes : is_running c.loop-state.state ≡ true = ap is_running c.in-Running.is in
    let forward = going-forward _ _ _ _ _ _ _ _ _ c.loop-state.invariant goes _ _ _ (sym c.next.ensures ∙ c.in-Ok-Some.is ∙ ap (λ (x : Option Found). Ok x) c.in-Ok-Some.field-0-is) in
    record {
      sent_bound = omega (arith, forward, ap sent_of c.in-Running.is);
      short = subst Short (sym c.send-turn.ensures) (all_short _ _);
    }

pub loop-state-smaller : goal.loop-state-smaller
loop-state-smaller c =
    let goes : is_running c.loop-state.state ≡ true = ap is_running c.in-Running.is in
    let forward = going-forward _ _ _ _ _ _ _ _ _ c.loop-state.invariant goes _ _ _ (sym c.next.ensures ∙ c.in-Ok-Some.is ∙ ap (λ (x : Option Found). Ok x) c.in-Ok-Some.field-0-is) in
    omega (arith, forward)

pub loop-state-preserved : goal.loop-state-preserved
loop-state-preserved c =
    let q = opened_for Read c.args.book.now in
    let x = c.in-Ok-Some.found.high ∷ c.in-Ok-Some.found.low ∷ [] in
    let was = sym c.in-Running.is in
    let goes : is_running c.loop-state.state ≡ true = ap is_running c.in-Running.is in
    going_step _ _ _ _ _ _ _ _ _ c.loop-state.invariant goes _ _ _ (sym c.next.ensures ∙ c.in-Ok-Some.is ∙ ap (λ (x : Option Found). Ok x) c.in-Ok-Some.field-0-is)
    _ _ _ _ _ (ap sent_of was) (c.send-turn.ensures ∙ ap (sending_of q) was) (c.hear-state.ensures ∙ ap (λ (st : State). heard q st x) was)
    c.put_step-to.ensures

pub returns-in-Ok-None : goal.returns-in-Ok-None
returns-in-Ok-None c =
    let closes = subst (λ (st : State). Closes c.loop-state.last st c.loop-state.to c.loop-state.out c.close.result c.close.new.out) (sym c.in-Running.is) c.close.ensures in
    let done = going_end _ _ _ _ _ _ _ _ _ c.loop-state.invariant c.requires.text_in_bounds _ _ closes
    (sym c.next.ensures ∙ c.in-Ok-None.is ∙ ap (λ (x : Option Found). Ok x) c.in-Ok-None.field-0-is) in
    record { value = done.0; out_after = done.1 }

pub returns-in-Err : goal.returns-in-Err
returns-in-Err c =
    let goes : is_running c.loop-state.state ≡ true = ap is_running c.in-Running.is in
    let done = going-wrong _ _ _ _ _ _ _ _ _ c.loop-state.invariant c.requires.text_in_bounds _ _ goes (sym c.next.ensures ∙ c.in-Err.is) in
    record { value = done.0; out_after = done.1 }

pub returns : goal.returns
returns c =
    let done = going-over _ _ _ _ _ _ _ _ _ c.loop-state.invariant c.requires.text_in_bounds _ _ c.close-2.ensures (not-running _ c.in_default.not-Running) in
    record { value = done.0; out_after = done.1 }
