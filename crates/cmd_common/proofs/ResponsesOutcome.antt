-- The contract of each public function that reads a response permits one outcome.
-- Assumes nothing.
use Rattle.once.proofs.Once.{Once, same}
use Rattle.cmd_common.proofs as cmd_common
use Rattle.cmd_common.specs.contracts as contracts

rssi-inst-from-array-once : Once contracts.rsp.RssiInstRsp.from_array.ended cmd_common.rsp.RssiInstRsp.from_array.Reads.Pre cmd_common.rsp.RssiInstRsp.from_array.Reads.Learnt
rssi-inst-from-array-once κs a h o u p q i = (same p q i, o.1)

rssi-inst-from-slice-once : Once contracts.rsp.RssiInstRsp.from_slice.ended cmd_common.rsp.RssiInstRsp.from_slice.Reads.Pre cmd_common.rsp.RssiInstRsp.from_slice.Reads.Learnt
rssi-inst-from-slice-once κs a h o u p q i = (same p q i, o.1)

timestamp-value-from-array-once : Once contracts.rsp.TimestampValueRsp.from_array.ended cmd_common.rsp.TimestampValueRsp.from_array.Reads.Pre cmd_common.rsp.TimestampValueRsp.from_array.Reads.Learnt
timestamp-value-from-array-once κs a h o u p q i = (same p q i, o.1)

timestamp-value-from-slice-once : Once contracts.rsp.TimestampValueRsp.from_slice.ended cmd_common.rsp.TimestampValueRsp.from_slice.Reads.Pre cmd_common.rsp.TimestampValueRsp.from_slice.Reads.Learnt
timestamp-value-from-slice-once κs a h o u p q i = (same p q i, o.1)

cca-result-from-array-once : Once contracts.rsp.CcaResultRsp.from_array.ended cmd_common.rsp.CcaResultRsp.from_array.Reads.Pre cmd_common.rsp.CcaResultRsp.from_array.Reads.Learnt
cca-result-from-array-once κs a h o u p q i = (same p q i, o.1)

cca-result-from-slice-once : Once contracts.rsp.CcaResultRsp.from_slice.ended cmd_common.rsp.CcaResultRsp.from_slice.Reads.Pre cmd_common.rsp.CcaResultRsp.from_slice.Reads.Learnt
cca-result-from-slice-once κs a h o u p q i = (same p q i, o.1)
