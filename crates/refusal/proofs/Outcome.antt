-- The contract of each public function permits one outcome. Assumes nothing.
use Rattle.once.proofs.Once.{Once, same}
use Rattle.refusal.proofs as refusal
use Rattle.refusal.specs.contracts as contracts

number-once : Once contracts.Refusal.number.ended refusal.Refusal.number.Reads.Pre refusal.Refusal.number.Reads.Learnt
number-once κs a h o u p q i = (same p q i, o.1)

place-once : Once contracts.Refusal.place.ended refusal.Refusal.place.Reads.Pre refusal.Refusal.place.Reads.Learnt
place-once κs a h o u p q i = (same p q i, o.1)
