-- Made from docs/commands.json by docs/make_reference.py: no value is missing from the list of its enum, since the code of every
-- value is among the codes. Assumes nothing.
use mathlib.Core.Bool.{true, false}
use lib.Dec.{T}
use Rattle.table.specs.Codes.{is_in}
use Rattle.enums.specs.Enums.{Enum, Value, code_of}
use Rattle.enums.specs.Enums as of
use Rattle.enums.specs.Values.{codes_in}
use Rattle.cmd_lora.specs.declared.Sf.TheVariants as SfV
use Rattle.cmd_lora.specs.declared.LoraBw.TheVariants as LoraBwV
use Rattle.cmd_lora.specs.declared.LoraCr.TheVariants as LoraCrV
use Rattle.cmd_lora.specs.declared.Ldro.TheVariants as LdroV
use Rattle.cmd_lora.specs.declared.LoraFilter.TheVariants as LoraFilterV
use Rattle.cmd_lora.specs.declared.HeaderType.TheVariants as HeaderTypeV
use Rattle.cmd_lora.specs.declared.TimeoutFormat.TheVariants as TimeoutFormatV
use Rattle.cmd_lora.specs.declared.LoraCadExitMode.TheVariants as LoraCadExitModeV
use Rattle.cmd_lora.specs.declared.AddrLen.TheVariants as AddrLenV
use Rattle.cmd_lora.specs.declared.TimingSyncMode.TheVariants as TimingSyncModeV
use Rattle.cmd_fsk.specs.declared.PulseShape.TheVariants as PulseShapeV
use Rattle.cmd_fsk.specs.declared.RxBw.TheVariants as RxBwV
use Rattle.cmd_fsk.specs.declared.PblLenDetect.TheVariants as PblLenDetectV
use Rattle.cmd_fsk.specs.declared.PldLenUnit.TheVariants as PldLenUnitV
use Rattle.cmd_fsk.specs.declared.AddrComp.TheVariants as AddrCompV
use Rattle.cmd_fsk.specs.declared.FskPktFormat.TheVariants as FskPktFormatV
use Rattle.cmd_fsk.specs.declared.Crc.TheVariants as CrcV
use Rattle.cmd_fsk.specs.declared.WhitenType.TheVariants as WhitenTypeV
use Rattle.cmd_fsk.specs.declared.BitOrder.TheVariants as BitOrderV
use Rattle.cmd_common.specs.declared.RxPath.TheVariants as RxPathV
use Rattle.cmd_common.specs.declared.RxBoost.TheVariants as RxBoostV
use Rattle.cmd_common.specs.declared.PaSel.TheVariants as PaSelV
use Rattle.cmd_common.specs.declared.PaLfMode.TheVariants as PaLfModeV
use Rattle.cmd_common.specs.declared.AutoTxrxMode.TheVariants as AutoTxrxModeV
use Rattle.cmd_common.specs.declared.TimestampIndex.TheVariants as TimestampIndexV
use Rattle.cmd_common.specs.declared.TimestampSource.TheVariants as TimestampSourceV
use Rattle.cmd_common.specs.declared.CadExitMode.TheVariants as CadExitModeV

pub listed : (e : Enum) (x : Value e) → T (is_in (code_of e x) (codes_in e))
unfolding is_in
listed of.yes_or_no x = elim x as (λ y. T (is_in (code_of of.yes_or_no y) (codes_in of.yes_or_no))) [ true ↦ tt | false ↦ tt ]
listed of.sf x = elim x as (λ y. T (is_in (code_of of.sf y) (codes_in of.sf))) [
  | SfV.Sf5 ↦ tt
  | SfV.Sf6 ↦ tt
  | SfV.Sf7 ↦ tt
  | SfV.Sf8 ↦ tt
  | SfV.Sf9 ↦ tt
  | SfV.Sf10 ↦ tt
  | SfV.Sf11 ↦ tt
  | SfV.Sf12 ↦ tt
]
listed of.lora_bw x = elim x as (λ y. T (is_in (code_of of.lora_bw y) (codes_in of.lora_bw))) [
  | LoraBwV.Bw7 ↦ tt
  | LoraBwV.Bw15 ↦ tt
  | LoraBwV.Bw31 ↦ tt
  | LoraBwV.Bw62 ↦ tt
  | LoraBwV.Bw125 ↦ tt
  | LoraBwV.Bw250 ↦ tt
  | LoraBwV.Bw500 ↦ tt
  | LoraBwV.Bw1000 ↦ tt
  | LoraBwV.Bw10 ↦ tt
  | LoraBwV.Bw20 ↦ tt
  | LoraBwV.Bw41 ↦ tt
  | LoraBwV.Bw83 ↦ tt
  | LoraBwV.Bw101 ↦ tt
  | LoraBwV.Bw203 ↦ tt
  | LoraBwV.Bw406 ↦ tt
  | LoraBwV.Bw812 ↦ tt
]
listed of.lora_cr x = elim x as (λ y. T (is_in (code_of of.lora_cr y) (codes_in of.lora_cr))) [
  | LoraCrV.NoCoding ↦ tt
  | LoraCrV.Cr1Ham45Si ↦ tt
  | LoraCrV.Cr2Ham23Si ↦ tt
  | LoraCrV.Cr3Ham47Si ↦ tt
  | LoraCrV.Cr4Ham12Si ↦ tt
  | LoraCrV.Cr5Ham45Li ↦ tt
  | LoraCrV.Cr6Ham23Li ↦ tt
  | LoraCrV.Cr7Ham12Li ↦ tt
  | LoraCrV.Cr8Cc23 ↦ tt
  | LoraCrV.Cr9Cc12 ↦ tt
]
listed of.ldro x = elim x as (λ y. T (is_in (code_of of.ldro y) (codes_in of.ldro))) [
  | LdroV.Off ↦ tt
  | LdroV.On ↦ tt
]
listed of.lora_filter x = elim x as (λ y. T (is_in (code_of of.lora_filter y) (codes_in of.lora_filter))) [
  | LoraFilterV.Auto ↦ tt
  | LoraFilterV.Chf ↦ tt
  | LoraFilterV.Dcc ↦ tt
  | LoraFilterV.DccF ↦ tt
]
listed of.header_type x = elim x as (λ y. T (is_in (code_of of.header_type y) (codes_in of.header_type))) [
  | HeaderTypeV.Explicit ↦ tt
  | HeaderTypeV.Implicit ↦ tt
]
listed of.timeout_format x = elim x as (λ y. T (is_in (code_of of.timeout_format y) (codes_in of.timeout_format))) [
  | TimeoutFormatV.Integer ↦ tt
  | TimeoutFormatV.Float ↦ tt
]
listed of.lora_cad_exit_mode x = elim x as (λ y. T (is_in (code_of of.lora_cad_exit_mode y) (codes_in of.lora_cad_exit_mode))) [
  | LoraCadExitModeV.CadOnly ↦ tt
  | LoraCadExitModeV.CadRx ↦ tt
  | LoraCadExitModeV.CadLbt ↦ tt
]
listed of.addr_len x = elim x as (λ y. T (is_in (code_of of.addr_len y) (codes_in of.addr_len))) [
  | AddrLenV.AddrNone ↦ tt
  | AddrLenV.Addr1B ↦ tt
  | AddrLenV.Addr2B ↦ tt
  | AddrLenV.Addr3B ↦ tt
  | AddrLenV.Addr4B ↦ tt
  | AddrLenV.Addr5B ↦ tt
  | AddrLenV.Addr6B ↦ tt
  | AddrLenV.Addr7B ↦ tt
  | AddrLenV.Addr8B ↦ tt
]
listed of.timing_sync_mode x = elim x as (λ y. T (is_in (code_of of.timing_sync_mode y) (codes_in of.timing_sync_mode))) [
  | TimingSyncModeV.Disabled ↦ tt
  | TimingSyncModeV.Initiator ↦ tt
  | TimingSyncModeV.Responder ↦ tt
]
listed of.pulse_shape x = elim x as (λ y. T (is_in (code_of of.pulse_shape y) (codes_in of.pulse_shape))) [
  | PulseShapeV.None ↦ tt
  | PulseShapeV.Custom ↦ tt
  | PulseShapeV.Bt0p3 ↦ tt
  | PulseShapeV.Bt0p5 ↦ tt
  | PulseShapeV.Bt0p7 ↦ tt
  | PulseShapeV.Bt1p0 ↦ tt
  | PulseShapeV.Bt2p0 ↦ tt
  | PulseShapeV.Rc0p3 ↦ tt
  | PulseShapeV.Rc0p5 ↦ tt
  | PulseShapeV.Rc0p7 ↦ tt
  | PulseShapeV.Rc1p0 ↦ tt
  | PulseShapeV.Rrc0p3 ↦ tt
  | PulseShapeV.Rrc0p4 ↦ tt
  | PulseShapeV.Rrc0p5 ↦ tt
  | PulseShapeV.Rrc0p7 ↦ tt
  | PulseShapeV.Rrc1p0 ↦ tt
]
listed of.rx_bw x = elim x as (λ y. T (is_in (code_of of.rx_bw y) (codes_in of.rx_bw))) [
  | RxBwV.BwAuto ↦ tt
  | RxBwV.Bw3076 ↦ tt
  | RxBwV.Bw2857 ↦ tt
  | RxBwV.Bw2666 ↦ tt
  | RxBwV.Bw2222 ↦ tt
  | RxBwV.Bw1333 ↦ tt
  | RxBwV.Bw1111 ↦ tt
  | RxBwV.Bw888 ↦ tt
  | RxBwV.Bw769 ↦ tt
  | RxBwV.Bw740 ↦ tt
  | RxBwV.Bw714 ↦ tt
  | RxBwV.Bw666 ↦ tt
  | RxBwV.Bw615 ↦ tt
  | RxBwV.Bw571 ↦ tt
  | RxBwV.Bw555 ↦ tt
  | RxBwV.Bw533 ↦ tt
  | RxBwV.Bw512 ↦ tt
  | RxBwV.Bw476 ↦ tt
  | RxBwV.Bw444 ↦ tt
  | RxBwV.Bw384 ↦ tt
  | RxBwV.Bw370 ↦ tt
  | RxBwV.Bw357 ↦ tt
  | RxBwV.Bw333 ↦ tt
  | RxBwV.Bw307 ↦ tt
  | RxBwV.Bw285 ↦ tt
  | RxBwV.Bw277 ↦ tt
  | RxBwV.Bw266 ↦ tt
  | RxBwV.Bw256 ↦ tt
  | RxBwV.Bw238 ↦ tt
  | RxBwV.Bw222 ↦ tt
  | RxBwV.Bw192 ↦ tt
  | RxBwV.Bw185 ↦ tt
  | RxBwV.Bw178 ↦ tt
  | RxBwV.Bw166 ↦ tt
  | RxBwV.Bw153 ↦ tt
  | RxBwV.Bw142 ↦ tt
  | RxBwV.Bw138 ↦ tt
  | RxBwV.Bw133 ↦ tt
  | RxBwV.Bw128 ↦ tt
  | RxBwV.Bw119 ↦ tt
  | RxBwV.Bw111 ↦ tt
  | RxBwV.Bw96 ↦ tt
  | RxBwV.Bw92 ↦ tt
  | RxBwV.Bw89 ↦ tt
  | RxBwV.Bw83 ↦ tt
  | RxBwV.Bw76 ↦ tt
  | RxBwV.Bw71 ↦ tt
  | RxBwV.Bw69 ↦ tt
  | RxBwV.Bw66 ↦ tt
  | RxBwV.Bw64 ↦ tt
  | RxBwV.Bw59 ↦ tt
  | RxBwV.Bw55 ↦ tt
  | RxBwV.Bw48 ↦ tt
  | RxBwV.Bw46 ↦ tt
  | RxBwV.Bw44 ↦ tt
  | RxBwV.Bw41 ↦ tt
  | RxBwV.Bw38 ↦ tt
  | RxBwV.Bw35 ↦ tt
  | RxBwV.Bw34 ↦ tt
  | RxBwV.Bw33 ↦ tt
  | RxBwV.Bw32 ↦ tt
  | RxBwV.Bw29 ↦ tt
  | RxBwV.Bw27 ↦ tt
  | RxBwV.Bw24 ↦ tt
  | RxBwV.Bw23 ↦ tt
  | RxBwV.Bw22 ↦ tt
  | RxBwV.Bw20 ↦ tt
  | RxBwV.Bw19 ↦ tt
  | RxBwV.Bw17 ↦ tt
  | RxBwV.Bw16 ↦ tt
  | RxBwV.Bw14 ↦ tt
  | RxBwV.Bw13 ↦ tt
  | RxBwV.Bw12 ↦ tt
  | RxBwV.Bw11 ↦ tt
  | RxBwV.Bw10 ↦ tt
  | RxBwV.Bw9p6 ↦ tt
  | RxBwV.Bw8p9 ↦ tt
  | RxBwV.Bw8p7 ↦ tt
  | RxBwV.Bw8p3 ↦ tt
  | RxBwV.Bw8 ↦ tt
  | RxBwV.Bw7p4 ↦ tt
  | RxBwV.Bw6p9 ↦ tt
  | RxBwV.Bw6 ↦ tt
  | RxBwV.Bw5p8 ↦ tt
  | RxBwV.Bw5p6 ↦ tt
  | RxBwV.Bw5p2 ↦ tt
  | RxBwV.Bw4p8 ↦ tt
  | RxBwV.Bw4p5 ↦ tt
  | RxBwV.Bw4p3 ↦ tt
  | RxBwV.Bw4p2 ↦ tt
  | RxBwV.Bw3p5 ↦ tt
]
listed of.pbl_len_detect x = elim x as (λ y. T (is_in (code_of of.pbl_len_detect y) (codes_in of.pbl_len_detect))) [
  | PblLenDetectV.None ↦ tt
  | PblLenDetectV.Len8Bits ↦ tt
  | PblLenDetectV.Len16Bits ↦ tt
  | PblLenDetectV.Len24Bits ↦ tt
  | PblLenDetectV.Len32Bits ↦ tt
]
listed of.pld_len_unit x = elim x as (λ y. T (is_in (code_of of.pld_len_unit y) (codes_in of.pld_len_unit))) [
  | PldLenUnitV.Bytes ↦ tt
  | PldLenUnitV.Bits ↦ tt
]
listed of.addr_comp x = elim x as (λ y. T (is_in (code_of of.addr_comp y) (codes_in of.addr_comp))) [
  | AddrCompV.Off ↦ tt
  | AddrCompV.Node ↦ tt
  | AddrCompV.NodeBcast ↦ tt
]
listed of.fsk_pkt_format x = elim x as (λ y. T (is_in (code_of of.fsk_pkt_format y) (codes_in of.fsk_pkt_format))) [
  | FskPktFormatV.FixedLength ↦ tt
  | FskPktFormatV.Variable8bit ↦ tt
  | FskPktFormatV.Variable9bit ↦ tt
  | FskPktFormatV.Variable16bit ↦ tt
]
listed of.crc x = elim x as (λ y. T (is_in (code_of of.crc y) (codes_in of.crc))) [
  | CrcV.CrcOff ↦ tt
  | CrcV.Crc1Byte ↦ tt
  | CrcV.Crc2Byte ↦ tt
  | CrcV.Crc3Byte ↦ tt
  | CrcV.Crc4Byte ↦ tt
  | CrcV.Crc1ByteInv ↦ tt
  | CrcV.Crc2ByteInv ↦ tt
  | CrcV.Crc3ByteInv ↦ tt
  | CrcV.Crc4ByteInv ↦ tt
]
listed of.whiten_type x = elim x as (λ y. T (is_in (code_of of.whiten_type y) (codes_in of.whiten_type))) [
  | WhitenTypeV.Sx126xLr11xx ↦ tt
  | WhitenTypeV.Sx128x ↦ tt
]
listed of.bit_order x = elim x as (λ y. T (is_in (code_of of.bit_order y) (codes_in of.bit_order))) [
  | BitOrderV.LsbFirst ↦ tt
  | BitOrderV.MsbFirst ↦ tt
]
listed of.rx_path x = elim x as (λ y. T (is_in (code_of of.rx_path y) (codes_in of.rx_path))) [
  | RxPathV.LfPath ↦ tt
  | RxPathV.HfPath ↦ tt
]
listed of.rx_boost x = elim x as (λ y. T (is_in (code_of of.rx_boost y) (codes_in of.rx_boost))) [
  | RxBoostV.Off ↦ tt
  | RxBoostV.B1 ↦ tt
  | RxBoostV.B2 ↦ tt
  | RxBoostV.B3 ↦ tt
  | RxBoostV.B4 ↦ tt
  | RxBoostV.B5 ↦ tt
  | RxBoostV.B6 ↦ tt
  | RxBoostV.Max ↦ tt
]
listed of.pa_sel x = elim x as (λ y. T (is_in (code_of of.pa_sel y) (codes_in of.pa_sel))) [
  | PaSelV.LfPa ↦ tt
  | PaSelV.HfPa ↦ tt
]
listed of.pa_lf_mode x = elim x as (λ y. T (is_in (code_of of.pa_lf_mode y) (codes_in of.pa_lf_mode))) [
  | PaLfModeV.LfPaFsm ↦ tt
  | PaLfModeV.LfPaFdm ↦ tt
  | PaLfModeV.LfPaHsmRfo1 ↦ tt
  | PaLfModeV.LfPaHsmRfo2 ↦ tt
]
listed of.auto_txrx_mode x = elim x as (λ y. T (is_in (code_of of.auto_txrx_mode y) (codes_in of.auto_txrx_mode))) [
  | AutoTxrxModeV.Disable ↦ tt
  | AutoTxrxModeV.Always ↦ tt
  | AutoTxrxModeV.RxOk ↦ tt
]
listed of.timestamp_index x = elim x as (λ y. T (is_in (code_of of.timestamp_index y) (codes_in of.timestamp_index))) [
  | TimestampIndexV.Ts0 ↦ tt
  | TimestampIndexV.Ts1 ↦ tt
  | TimestampIndexV.Ts2 ↦ tt
]
listed of.timestamp_source x = elim x as (λ y. T (is_in (code_of of.timestamp_source y) (codes_in of.timestamp_source))) [
  | TimestampSourceV.None ↦ tt
  | TimestampSourceV.TxDone ↦ tt
  | TimestampSourceV.RxDone ↦ tt
  | TimestampSourceV.Sync ↦ tt
  | TimestampSourceV.Header ↦ tt
]
listed of.cad_exit_mode x = elim x as (λ y. T (is_in (code_of of.cad_exit_mode y) (codes_in of.cad_exit_mode))) [
  | CadExitModeV.Fallback ↦ tt
  | CadExitModeV.Tx ↦ tt
  | CadExitModeV.Rx ↦ tt
]
