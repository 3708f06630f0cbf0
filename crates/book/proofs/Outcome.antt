-- The contract of each public function permits one outcome. Assumes nothing.
use Rattle.once.proofs.Once.{Once, same}
use Rattle.book.proofs as book
use Rattle.book.specs.contracts as contracts

slots-in-once : Once contracts.slots_in.ended book.slots_in.Reads.Pre book.slots_in.Reads.Learnt
slots-in-once κs a h o u p q i = (same p.0 q.0 i, o.1)

ready-to-read-once : Once contracts.ready_to_read.ended book.ready_to_read.Reads.Pre book.ready_to_read.Reads.Learnt
ready-to-read-once κs a h o u p q i = (same p q i, o.1)

ready-to-edit-once : Once contracts.ready_to_edit.ended book.ready_to_edit.Reads.Pre book.ready_to_edit.Reads.Learnt
ready-to-edit-once κs a h o u p q i = (same p q i, o.1)

make-once : Once contracts.make.ended book.make.Reads.Pre book.make.Reads.Learnt
make-once κs a h o u p q i = (same p.0 q.0 i, (same p.1 q.1 i, o.1.1))

put-once : Once contracts.put.ended book.put.Reads.Pre book.put.Reads.Learnt
put-once κs a h o u p q i = (same p.0 q.0 i, (same p.1 q.1 i, o.1.1))

remove-once : Once contracts.remove.ended book.remove.Reads.Pre book.remove.Reads.Learnt
remove-once κs a h o u p q i = (same p.0 q.0 i, (same p.1 q.1 i, o.1.1))

ask-once : Once contracts.ask.ended book.ask.Reads.Pre book.ask.Reads.Learnt
ask-once κs a h o u p q i = (same p.0 q.0 i, (o.1.0, (o.1.1.0, (same p.1 q.1 i, o.1.1.1.1))))

clear-once : Once contracts.clear.ended book.clear.Reads.Pre book.clear.Reads.Learnt
clear-once κs a h o u p q i = (same p.0 q.0 i, (same p.1 q.1 i, o.1.1))

replay-once : Once contracts.replay.ended book.replay.Reads.Pre book.replay.Reads.Learnt
replay-once κs a h o u p q i = (same p.0 q.0 i, (o.1.0, (same p.1 q.1 i, o.1.1.1)))
