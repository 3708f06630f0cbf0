-- The contract of each public function permits one outcome: the enums' methods, then the builders. The responses' are in
-- proofs/ResponsesOutcome.antt. Assumes nothing.
use Rattle.once.proofs.Once.{Once, same}
use Rattle.cmd_lora.proofs as cmd_lora
use Rattle.cmd_lora.specs.contracts as contracts

sf-code-once : Once contracts.Sf.code.ended cmd_lora.Sf.code.Reads.Pre cmd_lora.Sf.code.Reads.Learnt
sf-code-once κs a h o u p q i = (same p q i, o.1)

sf-cmp-once : Once contracts.SfOrd.cmp.ended cmd_lora.SfOrd.cmp.Reads.Pre cmd_lora.SfOrd.cmp.Reads.Learnt
sf-cmp-once κs a h o u p q i = (same p q i, o.1)

lora-bw-code-once : Once contracts.LoraBw.code.ended cmd_lora.LoraBw.code.Reads.Pre cmd_lora.LoraBw.code.Reads.Learnt
lora-bw-code-once κs a h o u p q i = (same p q i, o.1)

lora-bw-to-hz-once : Once contracts.LoraBw.to_hz.ended cmd_lora.LoraBw.to_hz.Reads.Pre cmd_lora.LoraBw.to_hz.Reads.Learnt
lora-bw-to-hz-once κs a h o u p q i = (same p q i, o.1)

lora-bw-is-fractional-once : Once contracts.LoraBw.is_fractional.ended cmd_lora.LoraBw.is_fractional.Reads.Pre cmd_lora.LoraBw.is_fractional.Reads.Learnt
lora-bw-is-fractional-once κs a h o u p q i = (same p q i, o.1)

lora-bw-cmp-once : Once contracts.LoraBwOrd.cmp.ended cmd_lora.LoraBwOrd.cmp.Reads.Pre cmd_lora.LoraBwOrd.cmp.Reads.Learnt
lora-bw-cmp-once κs a h o u p q i = (same p q i, o.1)

lora-bw-partial-cmp-once : Once contracts.LoraBwPartialOrd.partial_cmp.ended cmd_lora.LoraBwPartialOrd.partial_cmp.Reads.Pre cmd_lora.LoraBwPartialOrd.partial_cmp.Reads.Learnt
lora-bw-partial-cmp-once κs a h o u p q i = (same p q i, o.1)

lora-cr-code-once : Once contracts.LoraCr.code.ended cmd_lora.LoraCr.code.Reads.Pre cmd_lora.LoraCr.code.Reads.Learnt
lora-cr-code-once κs a h o u p q i = (same p q i, o.1)

lora-cr-is-li-once : Once contracts.LoraCr.is_li.ended cmd_lora.LoraCr.is_li.Reads.Pre cmd_lora.LoraCr.is_li.Reads.Learnt
lora-cr-is-li-once κs a h o u p q i = (same p q i, o.1)

lora-cr-denominator-once : Once contracts.LoraCr.denominator.ended cmd_lora.LoraCr.denominator.Reads.Pre cmd_lora.LoraCr.denominator.Reads.Learnt
lora-cr-denominator-once κs a h o u p q i = (same p q i, o.1)

ldro-code-once : Once contracts.Ldro.code.ended cmd_lora.Ldro.code.Reads.Pre cmd_lora.Ldro.code.Reads.Learnt
ldro-code-once κs a h o u p q i = (same p q i, o.1)

lora-filter-code-once : Once contracts.LoraFilter.code.ended cmd_lora.LoraFilter.code.Reads.Pre cmd_lora.LoraFilter.code.Reads.Learnt
lora-filter-code-once κs a h o u p q i = (same p q i, o.1)

header-type-code-once : Once contracts.HeaderType.code.ended cmd_lora.HeaderType.code.Reads.Pre cmd_lora.HeaderType.code.Reads.Learnt
header-type-code-once κs a h o u p q i = (same p q i, o.1)

timeout-format-code-once : Once contracts.TimeoutFormat.code.ended cmd_lora.TimeoutFormat.code.Reads.Pre cmd_lora.TimeoutFormat.code.Reads.Learnt
timeout-format-code-once κs a h o u p q i = (same p q i, o.1)

lora-cad-exit-mode-code-once : Once contracts.LoraCadExitMode.code.ended cmd_lora.LoraCadExitMode.code.Reads.Pre cmd_lora.LoraCadExitMode.code.Reads.Learnt
lora-cad-exit-mode-code-once κs a h o u p q i = (same p q i, o.1)

addr-len-code-once : Once contracts.AddrLen.code.ended cmd_lora.AddrLen.code.Reads.Pre cmd_lora.AddrLen.code.Reads.Learnt
addr-len-code-once κs a h o u p q i = (same p q i, o.1)

timing-sync-mode-code-once : Once contracts.TimingSyncMode.code.ended cmd_lora.TimingSyncMode.code.Reads.Pre cmd_lora.TimingSyncMode.code.Reads.Learnt
timing-sync-mode-code-once κs a h o u p q i = (same p q i, o.1)

set-lora-modulation-params-cmd-once : Once contracts.set_lora_modulation_params_cmd.ended cmd_lora.set_lora_modulation_params_cmd.Reads.Pre cmd_lora.set_lora_modulation_params_cmd.Reads.Learnt
set-lora-modulation-params-cmd-once κs a h o u p q i = (same p q i, o.1)

set-lora-packet-params-cmd-once : Once contracts.set_lora_packet_params_cmd.ended cmd_lora.set_lora_packet_params_cmd.Reads.Pre cmd_lora.set_lora_packet_params_cmd.Reads.Learnt
set-lora-packet-params-cmd-once κs a h o u p q i = (same p q i, o.1)

set-lora-synch-timeout-cmd-once : Once contracts.set_lora_synch_timeout_cmd.ended cmd_lora.set_lora_synch_timeout_cmd.Reads.Pre cmd_lora.set_lora_synch_timeout_cmd.Reads.Learnt
set-lora-synch-timeout-cmd-once κs a h o u p q i = (same p q i, o.1)

set-lora-syncword-cmd-once : Once contracts.set_lora_syncword_cmd.ended cmd_lora.set_lora_syncword_cmd.Reads.Pre cmd_lora.set_lora_syncword_cmd.Reads.Learnt
set-lora-syncword-cmd-once κs a h o u p q i = (same p q i, o.1)

config-lora-preamble-modulation-cmd-once : Once contracts.config_lora_preamble_modulation_cmd.ended
    cmd_lora.config_lora_preamble_modulation_cmd.Reads.Pre cmd_lora.config_lora_preamble_modulation_cmd.Reads.Learnt
config-lora-preamble-modulation-cmd-once κs a h o u p q i = (same p q i, o.1)

config-lora-preamble-modulation-adv-cmd-once : Once contracts.config_lora_preamble_modulation_adv_cmd.ended
    cmd_lora.config_lora_preamble_modulation_adv_cmd.Reads.Pre cmd_lora.config_lora_preamble_modulation_adv_cmd.Reads.Learnt
config-lora-preamble-modulation-adv-cmd-once κs a h o u p q i = (same p q i, o.1)

set-lora-cad-params-cmd-once : Once contracts.set_lora_cad_params_cmd.ended cmd_lora.set_lora_cad_params_cmd.Reads.Pre cmd_lora.set_lora_cad_params_cmd.Reads.Learnt
set-lora-cad-params-cmd-once κs a h o u p q i = (same p q i, o.1)

set-lora-cad-cmd-once : Once contracts.set_lora_cad_cmd.ended cmd_lora.set_lora_cad_cmd.Reads.Pre cmd_lora.set_lora_cad_cmd.Reads.Learnt
set-lora-cad-cmd-once κs a h o u p q i = (same p q i, o.1)

get-lora-rx-stats-req-once : Once contracts.get_lora_rx_stats_req.ended cmd_lora.get_lora_rx_stats_req.Reads.Pre cmd_lora.get_lora_rx_stats_req.Reads.Learnt
get-lora-rx-stats-req-once κs a h o u p q i = (same p q i, o.1)

get-lora-packet-status-req-once : Once contracts.get_lora_packet_status_req.ended cmd_lora.get_lora_packet_status_req.Reads.Pre cmd_lora.get_lora_packet_status_req.Reads.Learnt
get-lora-packet-status-req-once κs a h o u p q i = (same p q i, o.1)

set-lora-address-cmd-once : Once contracts.set_lora_address_cmd.ended cmd_lora.set_lora_address_cmd.Reads.Pre cmd_lora.set_lora_address_cmd.Reads.Learnt
set-lora-address-cmd-once κs a h o u p q i = (same p q i, o.1)

set-lora-syncword-extended-cmd-once : Once contracts.set_lora_syncword_extended_cmd.ended cmd_lora.set_lora_syncword_extended_cmd.Reads.Pre cmd_lora.set_lora_syncword_extended_cmd.Reads.Learnt
set-lora-syncword-extended-cmd-once κs a h o u p q i = (same p q i, o.1)

set-lora-side-det-syncword-extended-cmd-once : Once contracts.set_lora_side_det_syncword_extended_cmd.ended
    cmd_lora.set_lora_side_det_syncword_extended_cmd.Reads.Pre cmd_lora.set_lora_side_det_syncword_extended_cmd.Reads.Learnt
set-lora-side-det-syncword-extended-cmd-once κs a h o u p q i = (same p q i, o.1)

set-lora-tx-sync-cmd-once : Once contracts.set_lora_tx_sync_cmd.ended cmd_lora.set_lora_tx_sync_cmd.Reads.Pre cmd_lora.set_lora_tx_sync_cmd.Reads.Learnt
set-lora-tx-sync-cmd-once κs a h o u p q i = (same p q i, o.1)

set-lora-blanking-cmd-once : Once contracts.set_lora_blanking_cmd.ended cmd_lora.set_lora_blanking_cmd.Reads.Pre cmd_lora.set_lora_blanking_cmd.Reads.Learnt
set-lora-blanking-cmd-once κs a h o u p q i = (same p q i, o.1)
