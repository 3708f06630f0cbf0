use mathlib.Core.Path.{◌≡◌}
use lib.ListN.{length, drop}
use Rattle.book.specs.Book.{layout_in, room_in}
use Rattle.playback.specs.Parts.{after, pass_records}
use Rattle.playback.specs.Code.{state_in}
use Rattle.playback.proofs.Running.{Along}
use Rattle.playback.proofs.play_records.Given as goal

abbrev pub invariant-loop-left : goal.invariant-loop-left
invariant-loop-left l =
    (length l.book ≡ length l.initial.book)
    × Along (layout_in l.initial.book) (length l.initial.book) l.more l.part
    (after l.from (pass_records l.more (room_in l.initial.book) l.count l.offset (drop l.from l.part) (state_in l.initial.book l.initial.day))) l.day l.book l.i l.at l.left

abbrev pub decreases-loop-left : goal.decreases-loop-left
decreases-loop-left l = l.left
