-- `to_send` meets its contract: each return stands under the cases that led there. Assumes nothing.
use Rattle.controller.proofs.Walking.{lies-frame, lies-nothing, lies-read}
use Rattle.controller.proofs.Steps.{sends-by, sends-done, sends-frame, sends-over, sends-read, sends-stopped}
use Rattle.controller.proofs.to_send.Goals as goal

pub slice_bounds-write-count : goal.slice_bounds-write-count
slice_bounds-write-count c =
    let l = lies-frame _ _ _ _ c.look_ahead.ensures _ _ c.in-Frame.is in
    l.2.forward

pub slice_bounds-write-start : goal.slice_bounds-write-start
slice_bounds-write-start c =
    let l = lies-frame _ _ _ _ c.look_ahead.ensures _ _ c.in-Frame.is in
    l.2.forward

pub slice_bounds-write-end-in-Frame : goal.slice_bounds-write-end-in-Frame
slice_bounds-write-end-in-Frame c =
    let l = lies-frame _ _ _ _ c.look_ahead.ensures _ _ c.in-Frame.is in
    l.2.inside

pub overflow_sub-result : goal.overflow_sub-result
overflow_sub-result c =
    let l = lies-frame _ _ _ _ c.look_ahead.ensures _ _ c.in-Frame.is in
    l.2.forward

pub returns-in-Frame : goal.returns-in-Frame
returns-in-Frame c =
    let l = lies-frame _ _ _ _ c.look_ahead.ensures _ _ c.in-Frame.is in
    sends-by _ _ _ _ c.in-Running.is (sends-frame _ _ l.0 _ _ _ l.2 _ c.write.ensures)

pub returns-in-Read : goal.returns-in-Read
returns-in-Read c =
    let l = lies-read _ _ _ _ c.look_ahead.ensures c.in-Read.is in
    sends-by _ _ _ _ c.in-Running.is (sends-read _ _ l.0 l.1)

pub returns-in-Nothing : goal.returns-in-Nothing
returns-in-Nothing c =
    sends-by _ _ _ _ c.in-Running.is
    (sends-over _ _ (lies-nothing _ _ _ _ c.look_ahead.ensures c.in-Nothing.is))

pub returns-in-Done : goal.returns-in-Done
returns-in-Done c = sends-by _ _ _ _ c.in-Done.is (sends-done _)

pub returns-in-Stopped : goal.returns-in-Stopped
returns-in-Stopped c = sends-by _ _ _ _ c.in-Stopped.is (sends-stopped _ _)
