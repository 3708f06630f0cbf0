-- Made from docs/commands.json by docs/make_reference.py: the enums of the port, their values and codes. proofs/Listed.antt
-- shows that no value is missing (REFERENCE, "Commands"). Assumes nothing.
use Rattle.std.specs.Prelude.{ℕ, Bool, true, false, List, [], ◌∷◌}
use Rattle.table.specs.Table.{yes_no}
use Rattle.cmd_lora.specs.Codes.{sf_code, lora_bw_code, lora_cr_code, ldro_code, lora_filter_code}
use Rattle.cmd_lora.specs.Codes.{header_type_code, timeout_format_code, lora_cad_exit_mode_code, addr_len_code, timing_sync_mode_code}
use Rattle.cmd_fsk.specs.Codes.{pulse_shape_code, rx_bw_code, pbl_len_detect_code, pld_len_unit_code, addr_comp_code}
use Rattle.cmd_fsk.specs.Codes.{fsk_pkt_format_code, crc_code, whiten_type_code, bit_order_code}
use Rattle.cmd_common.specs.Codes.{rx_path_code, rx_boost_code, pa_sel_code, pa_lf_mode_code, auto_txrx_mode_code}
use Rattle.cmd_common.specs.Codes.{timestamp_index_code, timestamp_source_code, cad_exit_mode_code}
use Rattle.cmd_lora.specs.declared.Sf.{Sf}
use Rattle.cmd_lora.specs.declared.LoraBw.{LoraBw}
use Rattle.cmd_lora.specs.declared.LoraCr.{LoraCr}
use Rattle.cmd_lora.specs.declared.Ldro.{Ldro}
use Rattle.cmd_lora.specs.declared.LoraFilter.{LoraFilter}
use Rattle.cmd_lora.specs.declared.HeaderType.{HeaderType}
use Rattle.cmd_lora.specs.declared.TimeoutFormat.{TimeoutFormat}
use Rattle.cmd_lora.specs.declared.LoraCadExitMode.{LoraCadExitMode}
use Rattle.cmd_lora.specs.declared.AddrLen.{AddrLen}
use Rattle.cmd_lora.specs.declared.TimingSyncMode.{TimingSyncMode}
use Rattle.cmd_fsk.specs.declared.PulseShape.{PulseShape}
use Rattle.cmd_fsk.specs.declared.RxBw.{RxBw}
use Rattle.cmd_fsk.specs.declared.PblLenDetect.{PblLenDetect}
use Rattle.cmd_fsk.specs.declared.PldLenUnit.{PldLenUnit}
use Rattle.cmd_fsk.specs.declared.AddrComp.{AddrComp}
use Rattle.cmd_fsk.specs.declared.FskPktFormat.{FskPktFormat}
use Rattle.cmd_fsk.specs.declared.Crc.{Crc}
use Rattle.cmd_fsk.specs.declared.WhitenType.{WhitenType}
use Rattle.cmd_fsk.specs.declared.BitOrder.{BitOrder}
use Rattle.cmd_common.specs.declared.RxPath.{RxPath}
use Rattle.cmd_common.specs.declared.RxBoost.{RxBoost}
use Rattle.cmd_common.specs.declared.PaSel.{PaSel}
use Rattle.cmd_common.specs.declared.PaLfMode.{PaLfMode}
use Rattle.cmd_common.specs.declared.AutoTxrxMode.{AutoTxrxMode}
use Rattle.cmd_common.specs.declared.TimestampIndex.{TimestampIndex}
use Rattle.cmd_common.specs.declared.TimestampSource.{TimestampSource}
use Rattle.cmd_common.specs.declared.CadExitMode.{CadExitMode}
use Rattle.cmd_lora.specs.declared.Sf.TheVariants as SfV
use Rattle.cmd_lora.specs.declared.LoraBw.TheVariants as LoraBwV
use Rattle.cmd_lora.specs.declared.LoraCr.TheVariants as LoraCrV
use Rattle.cmd_lora.specs.declared.Ldro.TheVariants as LdroV
use Rattle.cmd_lora.specs.declared.LoraFilter.TheVariants as LoraFilterV
use Rattle.cmd_lora.specs.declared.HeaderType.TheVariants as HeaderTypeV
use Rattle.cmd_lora.specs.declared.TimeoutFormat.TheVariants as TimeoutFormatV
use Rattle.cmd_lora.specs.declared.LoraCadExitMode.TheVariants as LoraCadExitModeV
use Rattle.cmd_lora.specs.declared.AddrLen.TheVariants as AddrLenV
use Rattle.cmd_lora.specs.declared.TimingSyncMode.TheVariants as TimingSyncModeV
use Rattle.cmd_fsk.specs.declared.PulseShape.TheVariants as PulseShapeV
use Rattle.cmd_fsk.specs.declared.RxBw.TheVariants as RxBwV
use Rattle.cmd_fsk.specs.declared.PblLenDetect.TheVariants as PblLenDetectV
use Rattle.cmd_fsk.specs.declared.PldLenUnit.TheVariants as PldLenUnitV
use Rattle.cmd_fsk.specs.declared.AddrComp.TheVariants as AddrCompV
use Rattle.cmd_fsk.specs.declared.FskPktFormat.TheVariants as FskPktFormatV
use Rattle.cmd_fsk.specs.declared.Crc.TheVariants as CrcV
use Rattle.cmd_fsk.specs.declared.WhitenType.TheVariants as WhitenTypeV
use Rattle.cmd_fsk.specs.declared.BitOrder.TheVariants as BitOrderV
use Rattle.cmd_common.specs.declared.RxPath.TheVariants as RxPathV
use Rattle.cmd_common.specs.declared.RxBoost.TheVariants as RxBoostV
use Rattle.cmd_common.specs.declared.PaSel.TheVariants as PaSelV
use Rattle.cmd_common.specs.declared.PaLfMode.TheVariants as PaLfModeV
use Rattle.cmd_common.specs.declared.AutoTxrxMode.TheVariants as AutoTxrxModeV
use Rattle.cmd_common.specs.declared.TimestampIndex.TheVariants as TimestampIndexV
use Rattle.cmd_common.specs.declared.TimestampSource.TheVariants as TimestampSourceV
use Rattle.cmd_common.specs.declared.CadExitMode.TheVariants as CadExitModeV

-- the enums, and the yes or no
pub data Enum : Type 0 where
  yes_or_no : Enum
  sf : Enum
  lora_bw : Enum
  lora_cr : Enum
  ldro : Enum
  lora_filter : Enum
  header_type : Enum
  timeout_format : Enum
  lora_cad_exit_mode : Enum
  addr_len : Enum
  timing_sync_mode : Enum
  pulse_shape : Enum
  rx_bw : Enum
  pbl_len_detect : Enum
  pld_len_unit : Enum
  addr_comp : Enum
  fsk_pkt_format : Enum
  crc : Enum
  whiten_type : Enum
  bit_order : Enum
  rx_path : Enum
  rx_boost : Enum
  pa_sel : Enum
  pa_lf_mode : Enum
  auto_txrx_mode : Enum
  timestamp_index : Enum
  timestamp_source : Enum
  cad_exit_mode : Enum

abbrev pub Value : Enum → Type 0
Value yes_or_no = Bool
Value sf = Sf
Value lora_bw = LoraBw
Value lora_cr = LoraCr
Value ldro = Ldro
Value lora_filter = LoraFilter
Value header_type = HeaderType
Value timeout_format = TimeoutFormat
Value lora_cad_exit_mode = LoraCadExitMode
Value addr_len = AddrLen
Value timing_sync_mode = TimingSyncMode
Value pulse_shape = PulseShape
Value rx_bw = RxBw
Value pbl_len_detect = PblLenDetect
Value pld_len_unit = PldLenUnit
Value addr_comp = AddrComp
Value fsk_pkt_format = FskPktFormat
Value crc = Crc
Value whiten_type = WhitenType
Value bit_order = BitOrder
Value rx_path = RxPath
Value rx_boost = RxBoost
Value pa_sel = PaSel
Value pa_lf_mode = PaLfMode
Value auto_txrx_mode = AutoTxrxMode
Value timestamp_index = TimestampIndex
Value timestamp_source = TimestampSource
Value cad_exit_mode = CadExitMode

-- the code of a value: its number in the frame
abbrev pub code_of : (e : Enum) → Value e → ℕ
code_of yes_or_no b = yes_no b
code_of sf x = sf_code x
code_of lora_bw x = lora_bw_code x
code_of lora_cr x = lora_cr_code x
code_of ldro x = ldro_code x
code_of lora_filter x = lora_filter_code x
code_of header_type x = header_type_code x
code_of timeout_format x = timeout_format_code x
code_of lora_cad_exit_mode x = lora_cad_exit_mode_code x
code_of addr_len x = addr_len_code x
code_of timing_sync_mode x = timing_sync_mode_code x
code_of pulse_shape x = pulse_shape_code x
code_of rx_bw x = rx_bw_code x
code_of pbl_len_detect x = pbl_len_detect_code x
code_of pld_len_unit x = pld_len_unit_code x
code_of addr_comp x = addr_comp_code x
code_of fsk_pkt_format x = fsk_pkt_format_code x
code_of crc x = crc_code x
code_of whiten_type x = whiten_type_code x
code_of bit_order x = bit_order_code x
code_of rx_path x = rx_path_code x
code_of rx_boost x = rx_boost_code x
code_of pa_sel x = pa_sel_code x
code_of pa_lf_mode x = pa_lf_mode_code x
code_of auto_txrx_mode x = auto_txrx_mode_code x
code_of timestamp_index x = timestamp_index_code x
code_of timestamp_source x = timestamp_source_code x
code_of cad_exit_mode x = cad_exit_mode_code x

-- the values of each, in the order of their codes
abbrev pub values_of : (e : Enum) → List (Value e)
values_of yes_or_no = false ∷ true ∷ []
values_of sf = SfV.Sf5 ∷ SfV.Sf6 ∷ SfV.Sf7 ∷ SfV.Sf8 ∷ SfV.Sf9 ∷ SfV.Sf10 ∷ SfV.Sf11 ∷ SfV.Sf12 ∷ []
values_of lora_bw =
    LoraBwV.Bw7 ∷ LoraBwV.Bw15 ∷ LoraBwV.Bw31 ∷ LoraBwV.Bw62 ∷ LoraBwV.Bw125 ∷ LoraBwV.Bw250 ∷ LoraBwV.Bw500 ∷ LoraBwV.Bw1000 ∷ LoraBwV.Bw10 ∷ LoraBwV.Bw20
    ∷ LoraBwV.Bw41 ∷ LoraBwV.Bw83 ∷ LoraBwV.Bw101 ∷ LoraBwV.Bw203 ∷ LoraBwV.Bw406 ∷ LoraBwV.Bw812 ∷ []
values_of lora_cr =
    LoraCrV.NoCoding ∷ LoraCrV.Cr1Ham45Si ∷ LoraCrV.Cr2Ham23Si ∷ LoraCrV.Cr3Ham47Si ∷ LoraCrV.Cr4Ham12Si ∷ LoraCrV.Cr5Ham45Li ∷ LoraCrV.Cr6Ham23Li
    ∷ LoraCrV.Cr7Ham12Li ∷ LoraCrV.Cr8Cc23 ∷ LoraCrV.Cr9Cc12 ∷ []
values_of ldro = LdroV.Off ∷ LdroV.On ∷ []
values_of lora_filter = LoraFilterV.Auto ∷ LoraFilterV.Chf ∷ LoraFilterV.Dcc ∷ LoraFilterV.DccF ∷ []
values_of header_type = HeaderTypeV.Explicit ∷ HeaderTypeV.Implicit ∷ []
values_of timeout_format = TimeoutFormatV.Integer ∷ TimeoutFormatV.Float ∷ []
values_of lora_cad_exit_mode = LoraCadExitModeV.CadOnly ∷ LoraCadExitModeV.CadRx ∷ LoraCadExitModeV.CadLbt ∷ []
values_of addr_len =
    AddrLenV.AddrNone ∷ AddrLenV.Addr1B ∷ AddrLenV.Addr2B ∷ AddrLenV.Addr3B ∷ AddrLenV.Addr4B ∷ AddrLenV.Addr5B ∷ AddrLenV.Addr6B ∷ AddrLenV.Addr7B
    ∷ AddrLenV.Addr8B ∷ []
values_of timing_sync_mode = TimingSyncModeV.Disabled ∷ TimingSyncModeV.Initiator ∷ TimingSyncModeV.Responder ∷ []
values_of pulse_shape =
    PulseShapeV.None ∷ PulseShapeV.Custom ∷ PulseShapeV.Bt2p0 ∷ PulseShapeV.Rrc0p4 ∷ PulseShapeV.Bt0p3 ∷ PulseShapeV.Bt0p5 ∷ PulseShapeV.Bt0p7
    ∷ PulseShapeV.Bt1p0 ∷ PulseShapeV.Rc0p3 ∷ PulseShapeV.Rc0p5 ∷ PulseShapeV.Rc0p7 ∷ PulseShapeV.Rc1p0 ∷ PulseShapeV.Rrc0p3 ∷ PulseShapeV.Rrc0p5
    ∷ PulseShapeV.Rrc0p7 ∷ PulseShapeV.Rrc1p0 ∷ []
values_of rx_bw =
    RxBwV.Bw3076 ∷ RxBwV.Bw512 ∷ RxBwV.Bw256 ∷ RxBwV.Bw128 ∷ RxBwV.Bw64 ∷ RxBwV.Bw32 ∷ RxBwV.Bw8 ∷ RxBwV.Bw769 ∷ RxBwV.Bw384 ∷ RxBwV.Bw192 ∷ RxBwV.Bw96
    ∷ RxBwV.Bw48 ∷ RxBwV.Bw24 ∷ RxBwV.Bw12 ∷ RxBwV.Bw6 ∷ RxBwV.Bw615 ∷ RxBwV.Bw307 ∷ RxBwV.Bw153 ∷ RxBwV.Bw76 ∷ RxBwV.Bw38 ∷ RxBwV.Bw19 ∷ RxBwV.Bw9p6
    ∷ RxBwV.Bw4p8 ∷ RxBwV.Bw2857 ∷ RxBwV.Bw476 ∷ RxBwV.Bw238 ∷ RxBwV.Bw119 ∷ RxBwV.Bw59 ∷ RxBwV.Bw29 ∷ RxBwV.Bw14 ∷ RxBwV.Bw7p4 ∷ RxBwV.Bw714 ∷ RxBwV.Bw357
    ∷ RxBwV.Bw178 ∷ RxBwV.Bw89 ∷ RxBwV.Bw44 ∷ RxBwV.Bw22 ∷ RxBwV.Bw11 ∷ RxBwV.Bw5p6 ∷ RxBwV.Bw571 ∷ RxBwV.Bw285 ∷ RxBwV.Bw142 ∷ RxBwV.Bw71 ∷ RxBwV.Bw35
    ∷ RxBwV.Bw17 ∷ RxBwV.Bw8p9 ∷ RxBwV.Bw4p5 ∷ RxBwV.Bw2666 ∷ RxBwV.Bw1333 ∷ RxBwV.Bw888 ∷ RxBwV.Bw666 ∷ RxBwV.Bw333 ∷ RxBwV.Bw166 ∷ RxBwV.Bw83 ∷ RxBwV.Bw41
    ∷ RxBwV.Bw20 ∷ RxBwV.Bw10 ∷ RxBwV.Bw5p2 ∷ RxBwV.Bw533 ∷ RxBwV.Bw266 ∷ RxBwV.Bw133 ∷ RxBwV.Bw66 ∷ RxBwV.Bw33 ∷ RxBwV.Bw16 ∷ RxBwV.Bw8p3 ∷ RxBwV.Bw4p2
    ∷ RxBwV.Bw2222 ∷ RxBwV.Bw1111 ∷ RxBwV.Bw740 ∷ RxBwV.Bw370 ∷ RxBwV.Bw185 ∷ RxBwV.Bw92 ∷ RxBwV.Bw46 ∷ RxBwV.Bw23 ∷ RxBwV.Bw5p8 ∷ RxBwV.Bw555 ∷ RxBwV.Bw277
    ∷ RxBwV.Bw138 ∷ RxBwV.Bw69 ∷ RxBwV.Bw34 ∷ RxBwV.Bw8p7 ∷ RxBwV.Bw4p3 ∷ RxBwV.Bw444 ∷ RxBwV.Bw222 ∷ RxBwV.Bw111 ∷ RxBwV.Bw55 ∷ RxBwV.Bw27 ∷ RxBwV.Bw13
    ∷ RxBwV.Bw6p9 ∷ RxBwV.Bw3p5 ∷ RxBwV.BwAuto ∷ []
values_of pbl_len_detect = PblLenDetectV.None ∷ PblLenDetectV.Len8Bits ∷ PblLenDetectV.Len16Bits ∷ PblLenDetectV.Len24Bits ∷ PblLenDetectV.Len32Bits ∷ []
values_of pld_len_unit = PldLenUnitV.Bytes ∷ PldLenUnitV.Bits ∷ []
values_of addr_comp = AddrCompV.Off ∷ AddrCompV.Node ∷ AddrCompV.NodeBcast ∷ []
values_of fsk_pkt_format = FskPktFormatV.FixedLength ∷ FskPktFormatV.Variable8bit ∷ FskPktFormatV.Variable9bit ∷ FskPktFormatV.Variable16bit ∷ []
values_of crc =
    CrcV.CrcOff ∷ CrcV.Crc1Byte ∷ CrcV.Crc2Byte ∷ CrcV.Crc3Byte ∷ CrcV.Crc4Byte ∷ CrcV.Crc1ByteInv ∷ CrcV.Crc2ByteInv ∷ CrcV.Crc3ByteInv ∷ CrcV.Crc4ByteInv ∷ []
values_of whiten_type = WhitenTypeV.Sx126xLr11xx ∷ WhitenTypeV.Sx128x ∷ []
values_of bit_order = BitOrderV.LsbFirst ∷ BitOrderV.MsbFirst ∷ []
values_of rx_path = RxPathV.LfPath ∷ RxPathV.HfPath ∷ []
values_of rx_boost = RxBoostV.Off ∷ RxBoostV.B1 ∷ RxBoostV.B2 ∷ RxBoostV.B3 ∷ RxBoostV.B4 ∷ RxBoostV.B5 ∷ RxBoostV.B6 ∷ RxBoostV.Max ∷ []
values_of pa_sel = PaSelV.LfPa ∷ PaSelV.HfPa ∷ []
values_of pa_lf_mode = PaLfModeV.LfPaFsm ∷ PaLfModeV.LfPaFdm ∷ PaLfModeV.LfPaHsmRfo1 ∷ PaLfModeV.LfPaHsmRfo2 ∷ []
values_of auto_txrx_mode = AutoTxrxModeV.Disable ∷ AutoTxrxModeV.Always ∷ AutoTxrxModeV.RxOk ∷ []
values_of timestamp_index = TimestampIndexV.Ts0 ∷ TimestampIndexV.Ts1 ∷ TimestampIndexV.Ts2 ∷ []
values_of timestamp_source = TimestampSourceV.None ∷ TimestampSourceV.TxDone ∷ TimestampSourceV.RxDone ∷ TimestampSourceV.Sync ∷ TimestampSourceV.Header ∷ []
values_of cad_exit_mode = CadExitModeV.Fallback ∷ CadExitModeV.Tx ∷ CadExitModeV.Rx ∷ []
