-- The contract of each public function that reads a response permits one outcome.
-- Assumes nothing.
use Rattle.once.proofs.Once.{Once, same}
use Rattle.cmd_fsk.proofs as cmd_fsk
use Rattle.cmd_fsk.specs.contracts as contracts

fsk-rx-stats-from-array-once : Once contracts.rsp.FskRxStatsRsp.from_array.ended cmd_fsk.rsp.FskRxStatsRsp.from_array.Reads.Pre cmd_fsk.rsp.FskRxStatsRsp.from_array.Reads.Learnt
fsk-rx-stats-from-array-once κs a h o u p q i = (same p q i, o.1)

fsk-rx-stats-from-slice-once : Once contracts.rsp.FskRxStatsRsp.from_slice.ended cmd_fsk.rsp.FskRxStatsRsp.from_slice.Reads.Pre cmd_fsk.rsp.FskRxStatsRsp.from_slice.Reads.Learnt
fsk-rx-stats-from-slice-once κs a h o u p q i = (same p q i, o.1)

fsk-packet-status-from-array-once : Once contracts.rsp.FskPacketStatusRsp.from_array.ended cmd_fsk.rsp.FskPacketStatusRsp.from_array.Reads.Pre cmd_fsk.rsp.FskPacketStatusRsp.from_array.Reads.Learnt
fsk-packet-status-from-array-once κs a h o u p q i = (same p q i, o.1)

fsk-packet-status-from-slice-once : Once contracts.rsp.FskPacketStatusRsp.from_slice.ended cmd_fsk.rsp.FskPacketStatusRsp.from_slice.Reads.Pre cmd_fsk.rsp.FskPacketStatusRsp.from_slice.Reads.Learnt
fsk-packet-status-from-slice-once κs a h o u p q i = (same p q i, o.1)
