-- The contract of each public function permits one outcome. Assumes nothing.
use Rattle.once.proofs.Once.{Once, same}
use Rattle.sides.proofs as sides
use Rattle.sides.specs.contracts as contracts

put-once : Once contracts.put.ended sides.put.Reads.Pre sides.put.Reads.Learnt
put-once κs a h o u p q i = (same p.0 q.0 i, (same p.1 q.1 i, o.1.1))

remove-once : Once contracts.remove.ended sides.remove.Reads.Pre sides.remove.Reads.Learnt
remove-once κs a h o u p q i = (same p.0 q.0 i, (same p.1 q.1 i, o.1.1))

ask-once : Once contracts.ask.ended sides.ask.Reads.Pre sides.ask.Reads.Learnt
ask-once κs a h o u p q i = (same p.0 q.0 i, (o.1.0, (o.1.1.0, (o.1.1.1.0, (o.1.1.1.1.0, (o.1.1.1.1.1.0, (o.1.1.1.1.1.1.0, (same p.1 q.1 i, o.1.1.1.1.1.1.1.1))))))))

clear-once : Once contracts.clear.ended sides.clear.Reads.Pre sides.clear.Reads.Learnt
clear-once κs a h o u p q i = (same p.0 q.0 i, (same p.1 q.1 i, o.1.1))

replay-once : Once contracts.replay.ended sides.replay.Reads.Pre sides.replay.Reads.Learnt
replay-once κs a h o u p q i = (same p.0 q.0 i, (o.1.0, (o.1.1.0, (o.1.1.1.0, (o.1.1.1.1.0, (o.1.1.1.1.1.0, (same p.1 q.1 i, o.1.1.1.1.1.1.1)))))))
