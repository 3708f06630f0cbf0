-- `pass` meets its contract. The loop's invariant is `Going`: what is done and what is left make up what is to be done.
-- Assumes nothing.
use mathlib.Core.Path.{sym, ◌∙◌}
use mathlib.Core.Bool.{true, false}
use Rattle.reel.proofs.Found.{step-whole, step-ended, step-refused}
use Rattle.dump_text.proofs.Passing.{going-test, frame-fits, refusal-fits, going-frame, going-cut, done-stop, done_end, done_more, done-whole}
use Rattle.dump_text.proofs.pass.Goals as goal

pub put_line-written-requires : goal.put_line-written-requires
put_line-written-requires c =
    let g = c.loop-cursor.invariant in
    frame-fits _ _ _ _ _ _ _ _ g (going-test _ _ _ _ _ _ _ _ g _ true c.goes_on.ensures c.loop-cursor-test.true) _

pub loop-cursor-preserved : goal.loop-cursor-preserved
loop-cursor-preserved c =
    let g = c.loop-cursor.invariant in
    let goes = going-test _ _ _ _ _ _ _ _ g _ true c.goes_on.ensures c.loop-cursor-test.true in
    let w = step-whole c.args.input.now c.loop-cursor.cursor.at c.in-Ok-Some.found (cc) in
    going-frame _ _ _ _ _ _ _ _ _ _ g _ _ _ goes w c.put_line-written.ensures

pub put_refusal-end-requires : goal.put_refusal-end-requires
put_refusal-end-requires c =
    let g = c.loop-cursor.invariant in
    refusal-fits _ _ _ _ _ _ _ _ g (going-test _ _ _ _ _ _ _ _ g _ true c.goes_on.ensures c.loop-cursor-test.true) _

pub returns-in-Err : goal.returns-in-Err
returns-in-Err c =
    let g = c.loop-cursor.invariant in
    let goes = going-test _ _ _ _ _ _ _ _ g _ true c.goes_on.ensures c.loop-cursor-test.true in
    let cut = step-refused _ _ g.inside _ (sym c.step.ensures ∙ c.in-Err.is) in
    let done = going-cut _ _ _ _ _ _ _ _ _ _ g _ goes c.if-more.false cut c.put_refusal-end.ensures in
    record { passes = done-whole _ _ _ _ _ _ _ done; used_in_bounds = (done.inside, done.room) }

pub returns-after-loop-cursor-clause-passes : goal.returns-after-loop-cursor-clause-passes
returns-after-loop-cursor-clause-passes c =
    let g = c.loop-cursor.invariant in
    done-stop _ _ _ _ _ _ _ _ g (going-test _ _ _ _ _ _ _ _ g _ false c.goes_on.ensures c.loop-cursor-test.false)

pub returns-in-Ok-None-clause-passes : goal.returns-in-Ok-None-clause-passes
returns-in-Ok-None-clause-passes c = done_end _ _ _ _ _ _ _ _ c.loop-cursor.invariant (step-ended _ _ (cc))

pub returns-then-more-clause-passes : goal.returns-then-more-clause-passes
returns-then-more-clause-passes c =
    let g = c.loop-cursor.invariant in
    done_more _ _ _ _ _ _ _ _ g _ c.if-more.true (step-refused _ _ g.inside _ (sym c.step.ensures ∙ c.in-Err.is))
