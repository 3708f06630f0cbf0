-- The contract of each public function permits one outcome. Assumes nothing.
use Rattle.once.proofs.Once.{Once, same}
use Rattle.frame.proofs as frame
use Rattle.frame.specs.contracts as contracts

is-sound-once : Once contracts.is_sound.ended frame.is_sound.Reads.Pre frame.is_sound.Reads.Learnt
is-sound-once κs a h o u p q i = (same p q i, o.1)

put-once : Once contracts.put.ended frame.put.Reads.Pre frame.put.Reads.Learnt
put-once κs a h o u p q i = (o.0, (same p q i, o.1.1))

byte-at-once : Once contracts.byte_at.ended frame.byte_at.Reads.Pre frame.byte_at.Reads.Learnt
byte-at-once κs a h o u p q i = (same p q i, o.1)

get-once : Once contracts.get.ended frame.get.Reads.Pre frame.get.Reads.Learnt
get-once κs a h o u p q i = (same p q i, o.1)
