-- The contract of each public function permits one outcome: the enums' methods, then the builders. The responses' are in
-- proofs/ResponsesOutcome.antt. Assumes nothing.
use Rattle.once.proofs.Once.{Once, same}
use Rattle.cmd_common.proofs as cmd_common
use Rattle.cmd_common.specs.contracts as contracts

rx-path-code-once : Once contracts.RxPath.code.ended cmd_common.RxPath.code.Reads.Pre cmd_common.RxPath.code.Reads.Learnt
rx-path-code-once κs a h o u p q i = (same p q i, o.1)

rx-boost-code-once : Once contracts.RxBoost.code.ended cmd_common.RxBoost.code.Reads.Pre cmd_common.RxBoost.code.Reads.Learnt
rx-boost-code-once κs a h o u p q i = (same p q i, o.1)

pa-sel-code-once : Once contracts.PaSel.code.ended cmd_common.PaSel.code.Reads.Pre cmd_common.PaSel.code.Reads.Learnt
pa-sel-code-once κs a h o u p q i = (same p q i, o.1)

pa-lf-mode-code-once : Once contracts.PaLfMode.code.ended cmd_common.PaLfMode.code.Reads.Pre cmd_common.PaLfMode.code.Reads.Learnt
pa-lf-mode-code-once κs a h o u p q i = (same p q i, o.1)

auto-txrx-mode-code-once : Once contracts.AutoTxrxMode.code.ended cmd_common.AutoTxrxMode.code.Reads.Pre cmd_common.AutoTxrxMode.code.Reads.Learnt
auto-txrx-mode-code-once κs a h o u p q i = (same p q i, o.1)

timestamp-index-code-once : Once contracts.TimestampIndex.code.ended cmd_common.TimestampIndex.code.Reads.Pre cmd_common.TimestampIndex.code.Reads.Learnt
timestamp-index-code-once κs a h o u p q i = (same p q i, o.1)

timestamp-source-code-once : Once contracts.TimestampSource.code.ended cmd_common.TimestampSource.code.Reads.Pre cmd_common.TimestampSource.code.Reads.Learnt
timestamp-source-code-once κs a h o u p q i = (same p q i, o.1)

cad-exit-mode-code-once : Once contracts.CadExitMode.code.ended cmd_common.CadExitMode.code.Reads.Pre cmd_common.CadExitMode.code.Reads.Learnt
cad-exit-mode-code-once κs a h o u p q i = (same p q i, o.1)

set-rf-frequency-cmd-once : Once contracts.set_rf_frequency_cmd.ended cmd_common.set_rf_frequency_cmd.Reads.Pre cmd_common.set_rf_frequency_cmd.Reads.Learnt
set-rf-frequency-cmd-once κs a h o u p q i = (same p q i, o.1)

set-rx-path-cmd-once : Once contracts.set_rx_path_cmd.ended cmd_common.set_rx_path_cmd.Reads.Pre cmd_common.set_rx_path_cmd.Reads.Learnt
set-rx-path-cmd-once κs a h o u p q i = (same p q i, o.1)

set-rx-path-adv-cmd-once : Once contracts.set_rx_path_adv_cmd.ended cmd_common.set_rx_path_adv_cmd.Reads.Pre cmd_common.set_rx_path_adv_cmd.Reads.Learnt
set-rx-path-adv-cmd-once κs a h o u p q i = (same p q i, o.1)

set-pa-config-cmd-once : Once contracts.set_pa_config_cmd.ended cmd_common.set_pa_config_cmd.Reads.Pre cmd_common.set_pa_config_cmd.Reads.Learnt
set-pa-config-cmd-once κs a h o u p q i = (same p q i, o.1)

set-pa-config-adv-cmd-once : Once contracts.set_pa_config_adv_cmd.ended cmd_common.set_pa_config_adv_cmd.Reads.Pre cmd_common.set_pa_config_adv_cmd.Reads.Learnt
set-pa-config-adv-cmd-once κs a h o u p q i = (same p q i, o.1)

set-rx-adv-cmd-once : Once contracts.set_rx_adv_cmd.ended cmd_common.set_rx_adv_cmd.Reads.Pre cmd_common.set_rx_adv_cmd.Reads.Learnt
set-rx-adv-cmd-once κs a h o u p q i = (same p q i, o.1)

set-tx-adv-cmd-once : Once contracts.set_tx_adv_cmd.ended cmd_common.set_tx_adv_cmd.Reads.Pre cmd_common.set_tx_adv_cmd.Reads.Learnt
set-tx-adv-cmd-once κs a h o u p q i = (same p q i, o.1)

sel-pa-cmd-once : Once contracts.sel_pa_cmd.ended cmd_common.sel_pa_cmd.Reads.Pre cmd_common.sel_pa_cmd.Reads.Learnt
sel-pa-cmd-once κs a h o u p q i = (same p q i, o.1)

set-rx-duty-cycle-cmd-once : Once contracts.set_rx_duty_cycle_cmd.ended cmd_common.set_rx_duty_cycle_cmd.Reads.Pre cmd_common.set_rx_duty_cycle_cmd.Reads.Learnt
set-rx-duty-cycle-cmd-once κs a h o u p q i = (same p q i, o.1)

set-auto-rx-tx-cmd-once : Once contracts.set_auto_rx_tx_cmd.ended cmd_common.set_auto_rx_tx_cmd.Reads.Pre cmd_common.set_auto_rx_tx_cmd.Reads.Learnt
set-auto-rx-tx-cmd-once κs a h o u p q i = (same p q i, o.1)

set-default-rx-tx-timeout-cmd-once : Once contracts.set_default_rx_tx_timeout_cmd.ended cmd_common.set_default_rx_tx_timeout_cmd.Reads.Pre cmd_common.set_default_rx_tx_timeout_cmd.Reads.Learnt
set-default-rx-tx-timeout-cmd-once κs a h o u p q i = (same p q i, o.1)

set-timestamp-source-cmd-once : Once contracts.set_timestamp_source_cmd.ended cmd_common.set_timestamp_source_cmd.Reads.Pre cmd_common.set_timestamp_source_cmd.Reads.Learnt
set-timestamp-source-cmd-once κs a h o u p q i = (same p q i, o.1)

set-cca-cmd-once : Once contracts.set_cca_cmd.ended cmd_common.set_cca_cmd.Reads.Pre cmd_common.set_cca_cmd.Reads.Learnt
set-cca-cmd-once κs a h o u p q i = (same p q i, o.1)

set-cca-adv-cmd-once : Once contracts.set_cca_adv_cmd.ended cmd_common.set_cca_adv_cmd.Reads.Pre cmd_common.set_cca_adv_cmd.Reads.Learnt
set-cca-adv-cmd-once κs a h o u p q i = (same p q i, o.1)

set-agc-gain-manual-cmd-once : Once contracts.set_agc_gain_manual_cmd.ended cmd_common.set_agc_gain_manual_cmd.Reads.Pre cmd_common.set_agc_gain_manual_cmd.Reads.Learnt
set-agc-gain-manual-cmd-once κs a h o u p q i = (same p q i, o.1)

set-cad-params-cmd-once : Once contracts.set_cad_params_cmd.ended cmd_common.set_cad_params_cmd.Reads.Pre cmd_common.set_cad_params_cmd.Reads.Learnt
set-cad-params-cmd-once κs a h o u p q i = (same p q i, o.1)
