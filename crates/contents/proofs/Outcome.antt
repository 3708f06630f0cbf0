-- The contract of each public function permits one outcome. Assumes nothing.
use Rattle.once.proofs.Once.{Once, same}
use Rattle.contents.proofs as contents
use Rattle.contents.specs.contracts as contracts

word-once : Once contracts.word.ended contents.word.Reads.Pre contents.word.Reads.Learnt
word-once κs a h o u p q i = (same p.0 q.0 i, o.1)

offset-once : Once contracts.offset.ended contents.offset.Reads.Pre contents.offset.Reads.Learnt
offset-once κs a h o u p q i = (same p.0 q.0 i, o.1)

offset-for-once : Once contracts.offset_for.ended contents.offset_for.Reads.Pre contents.offset_for.Reads.Learnt
offset-for-once κs a h o u p q i = (same p.0 q.0 i, o.1)

slot-at-once : Once contracts.slot_at.ended contents.slot_at.Reads.Pre contents.slot_at.Reads.Learnt
slot-at-once κs a h o u p q i = (same p.0 q.0 i, o.1)

check-once : Once contracts.check.ended contents.check.Reads.Pre contents.check.Reads.Learnt
check-once κs a h o u p q i = (same p q i, o.1)
