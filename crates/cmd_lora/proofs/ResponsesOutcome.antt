-- The contract of each public function that reads a response permits one outcome.
-- Assumes nothing.
use Rattle.once.proofs.Once.{Once, same}
use Rattle.cmd_lora.proofs as cmd_lora
use Rattle.cmd_lora.specs.contracts as contracts

lora-rx-stats-from-array-once : Once contracts.rsp.LoraRxStatsRsp.from_array.ended cmd_lora.rsp.LoraRxStatsRsp.from_array.Reads.Pre cmd_lora.rsp.LoraRxStatsRsp.from_array.Reads.Learnt
lora-rx-stats-from-array-once κs a h o u p q i = (same p q i, o.1)

lora-rx-stats-from-slice-once : Once contracts.rsp.LoraRxStatsRsp.from_slice.ended cmd_lora.rsp.LoraRxStatsRsp.from_slice.Reads.Pre cmd_lora.rsp.LoraRxStatsRsp.from_slice.Reads.Learnt
lora-rx-stats-from-slice-once κs a h o u p q i = (same p q i, o.1)

lora-packet-status-from-array-once : Once contracts.rsp.LoraPacketStatusRsp.from_array.ended cmd_lora.rsp.LoraPacketStatusRsp.from_array.Reads.Pre cmd_lora.rsp.LoraPacketStatusRsp.from_array.Reads.Learnt
lora-packet-status-from-array-once κs a h o u p q i = (same p q i, o.1)

lora-packet-status-from-slice-once : Once contracts.rsp.LoraPacketStatusRsp.from_slice.ended cmd_lora.rsp.LoraPacketStatusRsp.from_slice.Reads.Pre cmd_lora.rsp.LoraPacketStatusRsp.from_slice.Reads.Learnt
lora-packet-status-from-slice-once κs a h o u p q i = (same p q i, o.1)
