-- The contract of each public function permits one outcome. Assumes nothing.
use Rattle.once.proofs.Once.{Once, same}
use Rattle.bank_list.proofs as bank_list
use Rattle.bank_list.specs.contracts as contracts

read-once : Once contracts.read.ended bank_list.read.Reads.Pre bank_list.read.Reads.Learnt
read-once κs a h o u p q i = (same p q i, o.1)
