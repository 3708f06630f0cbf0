-- The codes of the enums: the numbers that stand in a frame (REFERENCE, "Commands"). They are those of the Rust.
-- Assumes nothing.
use Rattle.std.specs.Prelude.{ℕ}
use Rattle.cmd_common.specs.declared.RxPath.{RxPath}
use Rattle.cmd_common.specs.declared.RxPath.TheVariants as RxPathV
use Rattle.cmd_common.specs.declared.RxBoost.{RxBoost}
use Rattle.cmd_common.specs.declared.RxBoost.TheVariants as RxBoostV
use Rattle.cmd_common.specs.declared.PaSel.{PaSel}
use Rattle.cmd_common.specs.declared.PaSel.TheVariants as PaSelV
use Rattle.cmd_common.specs.declared.PaLfMode.{PaLfMode}
use Rattle.cmd_common.specs.declared.PaLfMode.TheVariants as PaLfModeV
use Rattle.cmd_common.specs.declared.AutoTxrxMode.{AutoTxrxMode}
use Rattle.cmd_common.specs.declared.AutoTxrxMode.TheVariants as AutoTxrxModeV
use Rattle.cmd_common.specs.declared.TimestampIndex.{TimestampIndex}
use Rattle.cmd_common.specs.declared.TimestampIndex.TheVariants as TimestampIndexV
use Rattle.cmd_common.specs.declared.TimestampSource.{TimestampSource}
use Rattle.cmd_common.specs.declared.TimestampSource.TheVariants as TimestampSourceV
use Rattle.cmd_common.specs.declared.CadExitMode.{CadExitMode}
use Rattle.cmd_common.specs.declared.CadExitMode.TheVariants as CadExitModeV

abbrev pub rx_path_code : RxPath → ℕ
rx_path_code RxPathV.LfPath = 0
rx_path_code RxPathV.HfPath = 1

abbrev pub rx_boost_code : RxBoost → ℕ
rx_boost_code RxBoostV.Off = 0
rx_boost_code RxBoostV.B1 = 1
rx_boost_code RxBoostV.B2 = 2
rx_boost_code RxBoostV.B3 = 3
rx_boost_code RxBoostV.B4 = 4
rx_boost_code RxBoostV.B5 = 5
rx_boost_code RxBoostV.B6 = 6
rx_boost_code RxBoostV.Max = 7

abbrev pub pa_sel_code : PaSel → ℕ
pa_sel_code PaSelV.LfPa = 0
pa_sel_code PaSelV.HfPa = 1

abbrev pub pa_lf_mode_code : PaLfMode → ℕ
pa_lf_mode_code PaLfModeV.LfPaFsm = 0
pa_lf_mode_code PaLfModeV.LfPaFdm = 1
pa_lf_mode_code PaLfModeV.LfPaHsmRfo1 = 2
pa_lf_mode_code PaLfModeV.LfPaHsmRfo2 = 3

abbrev pub auto_txrx_mode_code : AutoTxrxMode → ℕ
auto_txrx_mode_code AutoTxrxModeV.Disable = 0
auto_txrx_mode_code AutoTxrxModeV.Always = 1
auto_txrx_mode_code AutoTxrxModeV.RxOk = 2

abbrev pub timestamp_index_code : TimestampIndex → ℕ
timestamp_index_code TimestampIndexV.Ts0 = 0
timestamp_index_code TimestampIndexV.Ts1 = 1
timestamp_index_code TimestampIndexV.Ts2 = 2

abbrev pub timestamp_source_code : TimestampSource → ℕ
timestamp_source_code TimestampSourceV.None = 0
timestamp_source_code TimestampSourceV.TxDone = 1
timestamp_source_code TimestampSourceV.RxDone = 2
timestamp_source_code TimestampSourceV.Sync = 3
timestamp_source_code TimestampSourceV.Header = 4

abbrev pub cad_exit_mode_code : CadExitMode → ℕ
cad_exit_mode_code CadExitModeV.Fallback = 0
cad_exit_mode_code CadExitModeV.Tx = 1
cad_exit_mode_code CadExitModeV.Rx = 2
