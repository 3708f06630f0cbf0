-- the record at `at` is whole, the filled bytes lie within the output, and the lent slices keep their lengths
use Rattle.std.proofs.Common.{◌≡◌, ◌+◌, ◌-◌, ◌≤◌, length}
use Rattle.histories.proofs.block.Given as goal

abbrev pub invariant-loop-size : goal.invariant-loop-size
invariant-loop-size l =
    (l.have ≤ length l.book) × (l.at + l.size ≤ length l.s) × (l.w ≤ length l.out) × (length l.book ≡ length l.fn.book)
    × (length l.lent ≡ length l.fn.lent) × (length l.out ≡ length l.fn.out)

abbrev pub decreases-loop-size : goal.decreases-loop-size
decreases-loop-size l = length l.s - l.at
