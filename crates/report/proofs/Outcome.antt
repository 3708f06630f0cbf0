-- The contract of each public function permits one outcome.
-- Assumes nothing.
use Rattle.once.proofs.Once.{Once, same}
use Rattle.report.proofs as report
use Rattle.report.specs.contracts as contracts

numbers-once : Once contracts.numbers.ended report.numbers.Reads.Pre report.numbers.Reads.Learnt
numbers-once κs a h o u p q i = (same p.0 q.0 i, (o.1.0, (same p.1.0 q.1.0 i, o.1.1.1)))

stopped-once : Once contracts.stopped.ended report.stopped.Reads.Pre report.stopped.Reads.Learnt
stopped-once κs a h o u p q i = (same p.0 q.0 i, (o.1.0, (same p.1.0 q.1.0 i, o.1.1.1)))

frame-once : Once contracts.frame.ended report.frame.Reads.Pre report.frame.Reads.Learnt
frame-once κs a h o u p q i = (same p.0 q.0 i, (o.1.0, (o.1.1.0, (same p.1.0 q.1.0 i, o.1.1.1.1))))
