-- The contract of each public function permits one outcome. Assumes nothing.
use Rattle.once.proofs.Once.{Once, same}
use Rattle.settings.proofs as settings
use Rattle.settings.specs.contracts as contracts

slot-for-once : Once contracts.slot_for.ended settings.slot_for.Reads.Pre settings.slot_for.Reads.Learnt
slot-for-once κs a h o u p q i = (same p q i, o.1)

size-of-once : Once contracts.size_of.ended settings.size_of.Reads.Pre settings.size_of.Reads.Learnt
size-of-once κs a h o u p q i = (same p.0 q.0 i, o.1)

slot-of-once : Once contracts.slot_of.ended settings.slot_of.Reads.Pre settings.slot_of.Reads.Learnt
slot-of-once κs a h o u p q i = (same p q i, o.1)
