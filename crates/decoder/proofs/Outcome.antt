-- The contract of each public function permits one outcome. Assumes nothing.
use Rattle.once.proofs.Once.{Once, same}
use Rattle.decoder.proofs as decoder
use Rattle.decoder.specs.contracts as contracts

decode-once : Once contracts.decode.ended decoder.decode.Reads.Pre decoder.decode.Reads.Learnt
decode-once κs a h o u p q i = (same p q i, o.1)
