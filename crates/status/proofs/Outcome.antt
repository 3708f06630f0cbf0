-- The contract of each public function permits one outcome.
-- Assumes nothing.
use Rattle.once.proofs.Once.{Once, same}
use Rattle.status.proofs as status
use Rattle.status.specs.contracts as contracts

word-at-once : Once contracts.word_at.ended status.word_at.Reads.Pre status.word_at.Reads.Learnt
word-at-once κs a h o u p q i = (same p q i, o.1)

u32-of-once : Once contracts.u32_of.ended status.u32_of.Reads.Pre status.u32_of.Reads.Learnt
u32-of-once κs a h o u p q i = (same p q i, o.1)

half-once : Once contracts.half.ended status.half.Reads.Pre status.half.Reads.Learnt
half-once κs a h o u p q i = (same p q i, o.1)

cmd-status-code-once : Once contracts.CmdStatus.code.ended status.CmdStatus.code.Reads.Pre status.CmdStatus.code.Reads.Learnt
cmd-status-code-once κs a h o u p q i = (same p q i, o.1)

cmd-status-from-once : Once contracts.CmdStatusFromU8.from.ended status.CmdStatusFromU8.from.Reads.Pre status.CmdStatusFromU8.from.Reads.Learnt
cmd-status-from-once κs a h o u p q i = (same p q i, o.1)

cmd-status-check-once : Once contracts.CmdStatus.check.ended status.CmdStatus.check.Reads.Pre status.CmdStatus.check.Reads.Learnt
cmd-status-check-once κs a h o u p q i = (same p q i, o.1)

reset-src-code-once : Once contracts.ResetSrc.code.ended status.ResetSrc.code.Reads.Pre status.ResetSrc.code.Reads.Learnt
reset-src-code-once κs a h o u p q i = (same p q i, o.1)

chip-mode-status-code-once : Once contracts.ChipModeStatus.code.ended status.ChipModeStatus.code.Reads.Pre status.ChipModeStatus.code.Reads.Learnt
chip-mode-status-code-once κs a h o u p q i = (same p q i, o.1)

status-from-array-once : Once contracts.Status.from_array.ended status.Status.from_array.Reads.Pre status.Status.from_array.Reads.Learnt
status-from-array-once κs a h o u p q i = (same p q i, o.1)

status-from-slice-once : Once contracts.Status.from_slice.ended status.Status.from_slice.Reads.Pre status.Status.from_slice.Reads.Learnt
status-from-slice-once κs a h o u p q i = (same p q i, o.1)

status-cmd-once : Once contracts.Status.cmd.ended status.Status.cmd.Reads.Pre status.Status.cmd.Reads.Learnt
status-cmd-once κs a h o u p q i = (same p q i, o.1)

status-is-ok-once : Once contracts.Status.is_ok.ended status.Status.is_ok.Reads.Pre status.Status.is_ok.Reads.Learnt
status-is-ok-once κs a h o u p q i = (same p q i, o.1)

status-irq-once : Once contracts.Status.irq.ended status.Status.irq.Reads.Pre status.Status.irq.Reads.Learnt
status-irq-once κs a h o u p q i = (same p q i, o.1)

status-reset-src-once : Once contracts.Status.reset_src.ended status.Status.reset_src.Reads.Pre status.Status.reset_src.Reads.Learnt
status-reset-src-once κs a h o u p q i = (same p q i, o.1)

status-chip-mode-once : Once contracts.Status.chip_mode.ended status.Status.chip_mode.Reads.Pre status.Status.chip_mode.Reads.Learnt
status-chip-mode-once κs a h o u p q i = (same p q i, o.1)

status-check-once : Once contracts.Status.check.ended status.Status.check.Reads.Pre status.Status.check.Reads.Learnt
status-check-once κs a h o u p q i = (same p q i, o.1)

intr-from-slice-once : Once contracts.Intr.from_slice.ended status.Intr.from_slice.Reads.Pre status.Intr.from_slice.Reads.Learnt
intr-from-slice-once κs a h o u p q i = (same p q i, o.1)

intr-new-once : Once contracts.Intr.new.ended status.Intr.new.Reads.Pre status.Intr.new.Reads.Learnt
intr-new-once κs a h o u p q i = (same p q i, o.1)

intr-from-once : Once contracts.IntrFromU32.from.ended status.IntrFromU32.from.Reads.Pre status.IntrFromU32.from.Reads.Learnt
intr-from-once κs a h o u p q i = (same p q i, o.1)

intr-new-txrx-once : Once contracts.Intr.new_txrx.ended status.Intr.new_txrx.Reads.Pre status.Intr.new_txrx.Reads.Learnt
intr-new-txrx-once κs a h o u p q i = (same p q i, o.1)

intr-new-ranging-once : Once contracts.Intr.new_ranging.ended status.Intr.new_ranging.Reads.Pre status.Intr.new_ranging.Reads.Learnt
intr-new-ranging-once κs a h o u p q i = (same p q i, o.1)

intr-value-once : Once contracts.Intr.value.ended status.Intr.value.Reads.Pre status.Intr.value.Reads.Learnt
intr-value-once κs a h o u p q i = (same p q i, o.1)

intr-intr-match-once : Once contracts.Intr.intr_match.ended status.Intr.intr_match.Reads.Pre status.Intr.intr_match.Reads.Learnt
intr-intr-match-once κs a h o u p q i = (same p q i, o.1)

intr-none-once : Once contracts.Intr.none.ended status.Intr.none.Reads.Pre status.Intr.none.Reads.Learnt
intr-none-once κs a h o u p q i = (same p q i, o.1)

intr-rx-fifo-once : Once contracts.Intr.rx_fifo.ended status.Intr.rx_fifo.Reads.Pre status.Intr.rx_fifo.Reads.Learnt
intr-rx-fifo-once κs a h o u p q i = (same p q i, o.1)

intr-tx-fifo-once : Once contracts.Intr.tx_fifo.ended status.Intr.tx_fifo.Reads.Pre status.Intr.tx_fifo.Reads.Learnt
intr-tx-fifo-once κs a h o u p q i = (same p q i, o.1)

intr-rng-req-vld-once : Once contracts.Intr.rng_req_vld.ended status.Intr.rng_req_vld.Reads.Pre status.Intr.rng_req_vld.Reads.Learnt
intr-rng-req-vld-once κs a h o u p q i = (same p q i, o.1)

intr-tx-timestamp-once : Once contracts.Intr.tx_timestamp.ended status.Intr.tx_timestamp.Reads.Pre status.Intr.tx_timestamp.Reads.Learnt
intr-tx-timestamp-once κs a h o u p q i = (same p q i, o.1)

intr-rx-timestamp-once : Once contracts.Intr.rx_timestamp.ended status.Intr.rx_timestamp.Reads.Pre status.Intr.rx_timestamp.Reads.Learnt
intr-rx-timestamp-once κs a h o u p q i = (same p q i, o.1)

intr-preamble-detected-once : Once contracts.Intr.preamble_detected.ended status.Intr.preamble_detected.Reads.Pre status.Intr.preamble_detected.Reads.Learnt
intr-preamble-detected-once κs a h o u p q i = (same p q i, o.1)

intr-header-valid-once : Once contracts.Intr.header_valid.ended status.Intr.header_valid.Reads.Pre status.Intr.header_valid.Reads.Learnt
intr-header-valid-once κs a h o u p q i = (same p q i, o.1)

intr-cad-detected-once : Once contracts.Intr.cad_detected.ended status.Intr.cad_detected.Reads.Pre status.Intr.cad_detected.Reads.Learnt
intr-cad-detected-once κs a h o u p q i = (same p q i, o.1)

intr-lora-hdr-timestamp-once : Once contracts.Intr.lora_hdr_timestamp.ended status.Intr.lora_hdr_timestamp.Reads.Pre status.Intr.lora_hdr_timestamp.Reads.Learnt
intr-lora-hdr-timestamp-once κs a h o u p q i = (same p q i, o.1)

intr-header-err-once : Once contracts.Intr.header_err.ended status.Intr.header_err.Reads.Pre status.Intr.header_err.Reads.Learnt
intr-header-err-once κs a h o u p q i = (same p q i, o.1)

intr-eol-once : Once contracts.Intr.eol.ended status.Intr.eol.Reads.Pre status.Intr.eol.Reads.Learnt
intr-eol-once κs a h o u p q i = (same p q i, o.1)

intr-pa-once : Once contracts.Intr.pa.ended status.Intr.pa.Reads.Pre status.Intr.pa.Reads.Learnt
intr-pa-once κs a h o u p q i = (same p q i, o.1)

intr-lora-tx-rx-hop-once : Once contracts.Intr.lora_tx_rx_hop.ended status.Intr.lora_tx_rx_hop.Reads.Pre status.Intr.lora_tx_rx_hop.Reads.Learnt
intr-lora-tx-rx-hop-once κs a h o u p q i = (same p q i, o.1)

intr-sync-fail-once : Once contracts.Intr.sync_fail.ended status.Intr.sync_fail.Reads.Pre status.Intr.sync_fail.Reads.Learnt
intr-sync-fail-once κs a h o u p q i = (same p q i, o.1)

intr-lora-symbol-end-once : Once contracts.Intr.lora_symbol_end.ended status.Intr.lora_symbol_end.Reads.Pre status.Intr.lora_symbol_end.Reads.Learnt
intr-lora-symbol-end-once κs a h o u p q i = (same p q i, o.1)

intr-lora-timestamp-stat-once : Once contracts.Intr.lora_timestamp_stat.ended status.Intr.lora_timestamp_stat.Reads.Pre status.Intr.lora_timestamp_stat.Reads.Learnt
intr-lora-timestamp-stat-once κs a h o u p q i = (same p q i, o.1)

intr-error-once : Once contracts.Intr.error.ended status.Intr.error.Reads.Pre status.Intr.error.Reads.Learnt
intr-error-once κs a h o u p q i = (same p q i, o.1)

intr-cmd-once : Once contracts.Intr.cmd.ended status.Intr.cmd.Reads.Pre status.Intr.cmd.Reads.Learnt
intr-cmd-once κs a h o u p q i = (same p q i, o.1)

intr-rx-done-once : Once contracts.Intr.rx_done.ended status.Intr.rx_done.Reads.Pre status.Intr.rx_done.Reads.Learnt
intr-rx-done-once κs a h o u p q i = (same p q i, o.1)

intr-tx-done-once : Once contracts.Intr.tx_done.ended status.Intr.tx_done.Reads.Pre status.Intr.tx_done.Reads.Learnt
intr-tx-done-once κs a h o u p q i = (same p q i, o.1)

intr-cad-done-once : Once contracts.Intr.cad_done.ended status.Intr.cad_done.Reads.Pre status.Intr.cad_done.Reads.Learnt
intr-cad-done-once κs a h o u p q i = (same p q i, o.1)

intr-timeout-once : Once contracts.Intr.timeout.ended status.Intr.timeout.Reads.Pre status.Intr.timeout.Reads.Learnt
intr-timeout-once κs a h o u p q i = (same p q i, o.1)

intr-crc-error-once : Once contracts.Intr.crc_error.ended status.Intr.crc_error.Reads.Pre status.Intr.crc_error.Reads.Learnt
intr-crc-error-once κs a h o u p q i = (same p q i, o.1)

intr-len-error-once : Once contracts.Intr.len_error.ended status.Intr.len_error.Reads.Pre status.Intr.len_error.Reads.Learnt
intr-len-error-once κs a h o u p q i = (same p q i, o.1)

intr-addr-error-once : Once contracts.Intr.addr_error.ended status.Intr.addr_error.Reads.Pre status.Intr.addr_error.Reads.Learnt
intr-addr-error-once κs a h o u p q i = (same p q i, o.1)

intr-fhss-once : Once contracts.Intr.fhss.ended status.Intr.fhss.Reads.Pre status.Intr.fhss.Reads.Learnt
intr-fhss-once κs a h o u p q i = (same p q i, o.1)

intr-inter-packet1-once : Once contracts.Intr.inter_packet1.ended status.Intr.inter_packet1.Reads.Pre status.Intr.inter_packet1.Reads.Learnt
intr-inter-packet1-once κs a h o u p q i = (same p q i, o.1)

intr-inter-packet2-once : Once contracts.Intr.inter_packet2.ended status.Intr.inter_packet2.Reads.Pre status.Intr.inter_packet2.Reads.Learnt
intr-inter-packet2-once κs a h o u p q i = (same p q i, o.1)

intr-rng-resp-done-once : Once contracts.Intr.rng_resp_done.ended status.Intr.rng_resp_done.Reads.Pre status.Intr.rng_resp_done.Reads.Learnt
intr-rng-resp-done-once κs a h o u p q i = (same p q i, o.1)

intr-rng-req-dis-once : Once contracts.Intr.rng_req_dis.ended status.Intr.rng_req_dis.Reads.Pre status.Intr.rng_req_dis.Reads.Learnt
intr-rng-req-dis-once κs a h o u p q i = (same p q i, o.1)

intr-rng-exch-vld-once : Once contracts.Intr.rng_exch_vld.ended status.Intr.rng_exch_vld.Reads.Pre status.Intr.rng_exch_vld.Reads.Learnt
intr-rng-exch-vld-once κs a h o u p q i = (same p q i, o.1)

intr-rng-timeout-once : Once contracts.Intr.rng_timeout.ended status.Intr.rng_timeout.Reads.Pre status.Intr.rng_timeout.Reads.Learnt
intr-rng-timeout-once κs a h o u p q i = (same p q i, o.1)
