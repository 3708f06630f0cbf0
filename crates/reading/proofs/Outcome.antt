-- The contract of each public function permits one outcome.
-- Assumes nothing.
use Rattle.once.proofs.Once.{Once, same}
use Rattle.reading.proofs as reading
use Rattle.reading.specs.contracts as contracts

half-dbm-text-once : Once contracts.HalfDbm.text.ended reading.HalfDbm.text.Reads.Pre reading.HalfDbm.text.Reads.Learnt
half-dbm-text-once κs a h o u p q i = (same p q i, o.1)

from-byte-once : Once contracts.QuarterDb.from_byte.ended reading.QuarterDb.from_byte.Reads.Pre reading.QuarterDb.from_byte.Reads.Learnt
from-byte-once κs a h o u p q i = (record { 0 = same p q i }, o.1)

quarter-db-text-once : Once contracts.QuarterDb.text.ended reading.QuarterDb.text.Reads.Pre reading.QuarterDb.text.Reads.Learnt
quarter-db-text-once κs a h o u p q i = (same p q i, o.1)

counter-difference-once : Once contracts.counter_difference.ended reading.counter_difference.Reads.Pre reading.counter_difference.Reads.Learnt
counter-difference-once κs a h o u p q i = (same p q i, o.1)
