-- The contract of each public function permits one outcome. Assumes nothing.
use Rattle.once.proofs.Once.{Once, same}
use Rattle.dump_text.proofs as dump_text
use Rattle.dump_text.specs.contracts as contracts

line-once : Once contracts.line.ended dump_text.line.Reads.Pre dump_text.line.Reads.Learnt
line-once κs a h o u p q i = (same p.0 q.0 i, (o.1.0, (o.1.1.0, (same p.1.0 q.1.0 i, o.1.1.1.1))))

pass-once : Once contracts.pass.ended dump_text.pass.Reads.Pre dump_text.pass.Reads.Learnt
pass-once κs a h o u p q i = (
  same p.0.told q.0.told i,
  (o.1.0, (o.1.1.0, (o.1.1.1.0, (same p.0.stands q.0.stands i, o.1.1.1.1.1)))),
)

dump-once : Once contracts.dump.ended dump_text.dump.Reads.Pre dump_text.dump.Reads.Learnt
dump-once κs a h o u p q i = (same p.0 q.0 i, (o.1.0, (same p.1 q.1 i, o.1.1.1)))
