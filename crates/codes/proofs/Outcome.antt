-- The contract of each public function permits one outcome. Assumes nothing.
use Rattle.once.proofs.Once.{Once, same}
use Rattle.codes.proofs as codes
use Rattle.codes.specs.contracts as contracts

is-taken-once : Once contracts.is_taken.ended codes.is_taken.Reads.Pre codes.is_taken.Reads.Learnt
is-taken-once κs a h o u p q i = (same p q i, o.1)

is-allowed-once : Once contracts.is_allowed.ended codes.is_allowed.Reads.Pre codes.is_allowed.Reads.Learnt
is-allowed-once κs a h o u p q i = (same p q i, o.1)

is-accepted-once : Once contracts.is_accepted.ended codes.is_accepted.Reads.Pre codes.is_accepted.Reads.Learnt
is-accepted-once κs a h o u p q i = (same p q i, o.1)
