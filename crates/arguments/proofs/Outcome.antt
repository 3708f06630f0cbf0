-- The contract of each public function permits one outcome.
-- Assumes nothing.
use Rattle.once.proofs.Once.{Once, same}
use Rattle.arguments.proofs as arguments
use Rattle.arguments.specs.contracts as contracts

word-of-once : Once contracts.word_of.ended arguments.word_of.Reads.Pre arguments.word_of.Reads.Learnt
word-of-once κs a h o u p q i = (same p q i, o.1)

count-once : Once contracts.Inputs.count.ended arguments.Inputs.count.Reads.Pre arguments.Inputs.count.Reads.Learnt
count-once κs a h o u p q i = (same p q i, o.1)

place-once : Once contracts.Inputs.place.ended arguments.Inputs.place.Reads.Pre arguments.Inputs.place.Reads.Learnt
place-once κs a h o u p q i = (same p q i, o.1)

same-bytes-once : Once contracts.same_bytes.ended arguments.same_bytes.Reads.Pre arguments.same_bytes.Reads.Learnt
same-bytes-once κs a h o u p q i = (same p q i, o.1)
