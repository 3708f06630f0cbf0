-- The contract of each public function permits one outcome. Assumes nothing.
use Rattle.once.proofs.Once.{Once, same}
use Rattle.day.proofs as day
use Rattle.day.specs.contracts as contracts

fresh-once : Once contracts.fresh.ended day.fresh.Reads.Pre day.fresh.Reads.Learnt
fresh-once κs a h o u p q i = (same p q i, o.1)

receive-once : Once contracts.receive.ended day.receive.Reads.Pre day.receive.Reads.Learnt
receive-once κs a h o u p q i = (same p q i, o.1)

send-once : Once contracts.send.ended day.send.Reads.Pre day.send.Reads.Learnt
send-once κs a h o u p q i = (same p.0 q.0 i, (o.1.0, (same p.1 q.1 i, o.1.1.1)))
