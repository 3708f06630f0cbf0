-- The contract of each public function permits one outcome. Assumes nothing.
use Rattle.once.proofs.Once.{Once, same}
use Rattle.rx_bw.proofs as rx_bw
use Rattle.rx_bw.specs.contracts as contracts

rx-bw-tenths-once : Once contracts.rx_bw_tenths.ended rx_bw.rx_bw_tenths.Reads.Pre rx_bw.rx_bw_tenths.Reads.Learnt
rx-bw-tenths-once κs a h o u p q i = (same p q i, o.1)

rx-bw-names-once : Once contracts.rx_bw_names.ended rx_bw.rx_bw_names.Reads.Pre rx_bw.rx_bw_names.Reads.Learnt
rx-bw-names-once κs a h o u p q i = (same p q i, o.1)
