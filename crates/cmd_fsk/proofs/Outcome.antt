-- The contract of each public function permits one outcome: the enums' methods, then the builders. The responses' are in
-- proofs/ResponsesOutcome.antt. Assumes nothing.
use Rattle.once.proofs.Once.{Once, same}
use Rattle.cmd_fsk.proofs as cmd_fsk
use Rattle.cmd_fsk.specs.contracts as contracts

pulse-shape-code-once : Once contracts.PulseShape.code.ended cmd_fsk.PulseShape.code.Reads.Pre cmd_fsk.PulseShape.code.Reads.Learnt
pulse-shape-code-once κs a h o u p q i = (same p q i, o.1)

rx-bw-code-once : Once contracts.RxBw.code.ended cmd_fsk.RxBw.code.Reads.Pre cmd_fsk.RxBw.code.Reads.Learnt
rx-bw-code-once κs a h o u p q i = (same p q i, o.1)

pbl-len-detect-code-once : Once contracts.PblLenDetect.code.ended cmd_fsk.PblLenDetect.code.Reads.Pre cmd_fsk.PblLenDetect.code.Reads.Learnt
pbl-len-detect-code-once κs a h o u p q i = (same p q i, o.1)

pld-len-unit-code-once : Once contracts.PldLenUnit.code.ended cmd_fsk.PldLenUnit.code.Reads.Pre cmd_fsk.PldLenUnit.code.Reads.Learnt
pld-len-unit-code-once κs a h o u p q i = (same p q i, o.1)

addr-comp-code-once : Once contracts.AddrComp.code.ended cmd_fsk.AddrComp.code.Reads.Pre cmd_fsk.AddrComp.code.Reads.Learnt
addr-comp-code-once κs a h o u p q i = (same p q i, o.1)

fsk-pkt-format-code-once : Once contracts.FskPktFormat.code.ended cmd_fsk.FskPktFormat.code.Reads.Pre cmd_fsk.FskPktFormat.code.Reads.Learnt
fsk-pkt-format-code-once κs a h o u p q i = (same p q i, o.1)

crc-code-once : Once contracts.Crc.code.ended cmd_fsk.Crc.code.Reads.Pre cmd_fsk.Crc.code.Reads.Learnt
crc-code-once κs a h o u p q i = (same p q i, o.1)

whiten-type-code-once : Once contracts.WhitenType.code.ended cmd_fsk.WhitenType.code.Reads.Pre cmd_fsk.WhitenType.code.Reads.Learnt
whiten-type-code-once κs a h o u p q i = (same p q i, o.1)

bit-order-code-once : Once contracts.BitOrder.code.ended cmd_fsk.BitOrder.code.Reads.Pre cmd_fsk.BitOrder.code.Reads.Learnt
bit-order-code-once κs a h o u p q i = (same p q i, o.1)

set-fsk-modulation-params-cmd-once : Once contracts.set_fsk_modulation_params_cmd.ended cmd_fsk.set_fsk_modulation_params_cmd.Reads.Pre cmd_fsk.set_fsk_modulation_params_cmd.Reads.Learnt
set-fsk-modulation-params-cmd-once κs a h o u p q i = (same p q i, o.1)

set-fsk-packet-params-cmd-once : Once contracts.set_fsk_packet_params_cmd.ended cmd_fsk.set_fsk_packet_params_cmd.Reads.Pre cmd_fsk.set_fsk_packet_params_cmd.Reads.Learnt
set-fsk-packet-params-cmd-once κs a h o u p q i = (same p q i, o.1)

set-fsk-whitening-params-cmd-once : Once contracts.set_fsk_whitening_params_cmd.ended cmd_fsk.set_fsk_whitening_params_cmd.Reads.Pre cmd_fsk.set_fsk_whitening_params_cmd.Reads.Learnt
set-fsk-whitening-params-cmd-once κs a h o u p q i = (same p q i, o.1)

set-fsk-crc-params-cmd-once : Once contracts.set_fsk_crc_params_cmd.ended cmd_fsk.set_fsk_crc_params_cmd.Reads.Pre cmd_fsk.set_fsk_crc_params_cmd.Reads.Learnt
set-fsk-crc-params-cmd-once κs a h o u p q i = (same p q i, o.1)

set-fsk-sync-word-cmd-once : Once contracts.set_fsk_sync_word_cmd.ended cmd_fsk.set_fsk_sync_word_cmd.Reads.Pre cmd_fsk.set_fsk_sync_word_cmd.Reads.Learnt
set-fsk-sync-word-cmd-once κs a h o u p q i = (same p q i, o.1)

set-fsk-address-cmd-once : Once contracts.set_fsk_address_cmd.ended cmd_fsk.set_fsk_address_cmd.Reads.Pre cmd_fsk.set_fsk_address_cmd.Reads.Learnt
set-fsk-address-cmd-once κs a h o u p q i = (same p q i, o.1)

get-fsk-rx-stats-req-once : Once contracts.get_fsk_rx_stats_req.ended cmd_fsk.get_fsk_rx_stats_req.Reads.Pre cmd_fsk.get_fsk_rx_stats_req.Reads.Learnt
get-fsk-rx-stats-req-once κs a h o u p q i = (same p q i, o.1)

get-fsk-packet-status-req-once : Once contracts.get_fsk_packet_status_req.ended cmd_fsk.get_fsk_packet_status_req.Reads.Pre cmd_fsk.get_fsk_packet_status_req.Reads.Learnt
get-fsk-packet-status-req-once κs a h o u p q i = (same p q i, o.1)
