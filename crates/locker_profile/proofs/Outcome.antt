-- The contract of each public function permits one outcome. Assumes nothing.
use Rattle.once.proofs.Once.{Once, same}
use Rattle.locker_profile.proofs as locker_profile
use Rattle.locker_profile.specs.contracts as contracts

check-once : Once contracts.check.ended locker_profile.check.Reads.Pre locker_profile.check.Reads.Learnt
check-once κs a h o u p q i = (same p q i, o.1)
