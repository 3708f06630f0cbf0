-- The contract of each public function permits one outcome. Assumes nothing.
use Rattle.once.proofs.Once.{Once, same}
use Rattle.bank_widths.proofs as bank_widths
use Rattle.bank_widths.specs.contracts as contracts

divisor-once : Once contracts.divisor.ended bank_widths.divisor.Reads.Pre bank_widths.divisor.Reads.Learnt
divisor-once κs a h o u p q i = (same p q i, o.1)

check-once : Once contracts.check.ended bank_widths.check.Reads.Pre bank_widths.check.Reads.Learnt
check-once κs a h o u p q i = (same p q i, o.1)

find-once : Once contracts.find.ended bank_widths.find.Reads.Pre bank_widths.find.Reads.Learnt
find-once κs a h o u p q i = (same p.0 q.0 i, (o.1.0, (same p.1 q.1 i, o.1.1.1)))
