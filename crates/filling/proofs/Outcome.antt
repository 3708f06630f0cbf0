-- The contract of each public function permits one outcome. Assumes nothing.
use Rattle.once.proofs.Once.{Once, same}
use Rattle.filling.proofs as filling
use Rattle.filling.specs.contracts as contracts

blank-once : Once contracts.blank.ended filling.blank.Reads.Pre filling.blank.Reads.Learnt
blank-once κs a h o u p q i = (o.0, (same p q i, o.1.1))

append-once : Once contracts.append.ended filling.append.Reads.Pre filling.append.Reads.Learnt
append-once κs a h o u p q i = (o.0, (same p q i, o.1.1))

fill-once : Once contracts.fill.ended filling.fill.Reads.Pre filling.fill.Reads.Learnt
fill-once κs a h o u p q i = (o.0, (same p q i, o.1.1))
