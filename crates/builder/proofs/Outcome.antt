-- The contract of each public function permits one outcome. Assumes nothing.
use Rattle.once.proofs.Once.{Once, same}
use Rattle.builder.proofs as builder
use Rattle.builder.specs.contracts as contracts

checked-once : Once contracts.checked.ended builder.checked.Reads.Pre builder.checked.Reads.Learnt
checked-once κs a h o u p q i = (same p q i, o.1)

plain-once : Once contracts.plain.ended builder.plain.Reads.Pre builder.plain.Reads.Learnt
plain-once κs a h o u p q i = (same p q i, o.1)
