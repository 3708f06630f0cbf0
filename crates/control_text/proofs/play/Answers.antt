-- `play` meets its contract: the run of the book's own first state, and there is room for all of the text.
-- Assumes nothing.
use mathlib.Core.Path.{sym, ◌∙◌}
use native.Mathlib.Omega.{arith}
use Rattle.book.specs.Book.{Read, opened_for}
use Rattle.control_text.proofs.Whole.{run_fits, play-refused, play-run}
use Rattle.control_text.proofs.Longest.{start_none}
use Rattle.control_text.proofs.play.Goals as goal

pub run-requires : goal.run-requires
run-requires c =
    let a = c.args in
    let e = sym c.start-began.ensures ∙ c.in-Ok.is in
    record {
      first_value = start_none (opened_for Read a.book.now) _ e;
      text_in_bounds = run_fits a.book.now a.text.now a.out.now (omega arith) _ e;
    }

pub returns-in-Ok : goal.returns-in-Ok
returns-in-Ok c =
    let a = c.args in
    let e = sym c.start-began.ensures ∙ c.in-Ok.is in
    let done = play-run a.book.now a.text.now a.out.now (omega arith) _ e _ _ c.run.ensures.value c.run.ensures.out_after in
    record { value = done.0; out_after = done.1.0; steps_le_len = done.1.1 }

pub returns-in-Err : goal.returns-in-Err
returns-in-Err c =
    let a = c.args in
    let e = sym c.start-began.ensures ∙ c.in-Err.is in
    let done = play-refused a.book.now a.text.now a.out.now (omega arith) _ _ _ _ e c.number.ensures c.put_form-len.ensures in
    record { value = done.0; out_after = done.1.0; steps_le_len = done.1.1 }
