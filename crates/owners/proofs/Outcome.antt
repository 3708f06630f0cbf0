-- The contract of each public function permits one outcome. Assumes nothing.
use Rattle.once.proofs.Once.{Once, same}
use Rattle.owners.proofs as owners
use Rattle.owners.specs.contracts as contracts

is-side-once : Once contracts.is_side.ended owners.is_side.Reads.Pre owners.is_side.Reads.Learnt
is-side-once κs a h o u p q i = (same p q i, o.1)

quota-of-once : Once contracts.quota_of.ended owners.quota_of.Reads.Pre owners.quota_of.Reads.Learnt
quota-of-once κs a h o u p q i = (same p q i, o.1)

owner-of-once : Once contracts.owner_of.ended owners.owner_of.Reads.Pre owners.owner_of.Reads.Learnt
owner-of-once κs a h o u p q i = (same p q i, o.1)

is-right-once : Once contracts.is_right.ended owners.is_right.Reads.Pre owners.is_right.Reads.Learnt
is-right-once κs a h o u p q i = (same p q i, o.1)
