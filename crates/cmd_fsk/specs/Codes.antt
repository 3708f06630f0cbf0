-- The codes of the enums: the numbers that stand in a frame (REFERENCE, "Commands"). They are those of the Rust.
-- Assumes nothing.
use Rattle.std.specs.Prelude.{ℕ}
use Rattle.cmd_fsk.specs.declared.PulseShape.{PulseShape}
use Rattle.cmd_fsk.specs.declared.PulseShape.TheVariants as PulseShapeV
use Rattle.cmd_fsk.specs.declared.RxBw.{RxBw}
use Rattle.cmd_fsk.specs.declared.RxBw.TheVariants as RxBwV
use Rattle.cmd_fsk.specs.declared.PblLenDetect.{PblLenDetect}
use Rattle.cmd_fsk.specs.declared.PblLenDetect.TheVariants as PblLenDetectV
use Rattle.cmd_fsk.specs.declared.PldLenUnit.{PldLenUnit}
use Rattle.cmd_fsk.specs.declared.PldLenUnit.TheVariants as PldLenUnitV
use Rattle.cmd_fsk.specs.declared.AddrComp.{AddrComp}
use Rattle.cmd_fsk.specs.declared.AddrComp.TheVariants as AddrCompV
use Rattle.cmd_fsk.specs.declared.FskPktFormat.{FskPktFormat}
use Rattle.cmd_fsk.specs.declared.FskPktFormat.TheVariants as FskPktFormatV
use Rattle.cmd_fsk.specs.declared.Crc.{Crc}
use Rattle.cmd_fsk.specs.declared.Crc.TheVariants as CrcV
use Rattle.cmd_fsk.specs.declared.WhitenType.{WhitenType}
use Rattle.cmd_fsk.specs.declared.WhitenType.TheVariants as WhitenTypeV
use Rattle.cmd_fsk.specs.declared.BitOrder.{BitOrder}
use Rattle.cmd_fsk.specs.declared.BitOrder.TheVariants as BitOrderV

abbrev pub pulse_shape_code : PulseShape → ℕ
pulse_shape_code PulseShapeV.None = 0
pulse_shape_code PulseShapeV.Custom = 1
pulse_shape_code PulseShapeV.Bt0p3 = 4
pulse_shape_code PulseShapeV.Bt0p5 = 5
pulse_shape_code PulseShapeV.Bt0p7 = 6
pulse_shape_code PulseShapeV.Bt1p0 = 7
pulse_shape_code PulseShapeV.Bt2p0 = 2
pulse_shape_code PulseShapeV.Rc0p3 = 8
pulse_shape_code PulseShapeV.Rc0p5 = 9
pulse_shape_code PulseShapeV.Rc0p7 = 10
pulse_shape_code PulseShapeV.Rc1p0 = 11
pulse_shape_code PulseShapeV.Rrc0p3 = 12
pulse_shape_code PulseShapeV.Rrc0p4 = 3
pulse_shape_code PulseShapeV.Rrc0p5 = 13
pulse_shape_code PulseShapeV.Rrc0p7 = 14
pulse_shape_code PulseShapeV.Rrc1p0 = 15

abbrev pub rx_bw_code : RxBw → ℕ
rx_bw_code RxBwV.BwAuto = 255
rx_bw_code RxBwV.Bw3076 = 0
rx_bw_code RxBwV.Bw2857 = 64
rx_bw_code RxBwV.Bw2666 = 128
rx_bw_code RxBwV.Bw2222 = 192
rx_bw_code RxBwV.Bw1333 = 136
rx_bw_code RxBwV.Bw1111 = 200
rx_bw_code RxBwV.Bw888 = 144
rx_bw_code RxBwV.Bw769 = 24
rx_bw_code RxBwV.Bw740 = 208
rx_bw_code RxBwV.Bw714 = 88
rx_bw_code RxBwV.Bw666 = 152
rx_bw_code RxBwV.Bw615 = 32
rx_bw_code RxBwV.Bw571 = 96
rx_bw_code RxBwV.Bw555 = 216
rx_bw_code RxBwV.Bw533 = 160
rx_bw_code RxBwV.Bw512 = 17
rx_bw_code RxBwV.Bw476 = 81
rx_bw_code RxBwV.Bw444 = 224
rx_bw_code RxBwV.Bw384 = 25
rx_bw_code RxBwV.Bw370 = 209
rx_bw_code RxBwV.Bw357 = 89
rx_bw_code RxBwV.Bw333 = 153
rx_bw_code RxBwV.Bw307 = 33
rx_bw_code RxBwV.Bw285 = 97
rx_bw_code RxBwV.Bw277 = 217
rx_bw_code RxBwV.Bw266 = 161
rx_bw_code RxBwV.Bw256 = 18
rx_bw_code RxBwV.Bw238 = 82
rx_bw_code RxBwV.Bw222 = 225
rx_bw_code RxBwV.Bw192 = 26
rx_bw_code RxBwV.Bw185 = 210
rx_bw_code RxBwV.Bw178 = 90
rx_bw_code RxBwV.Bw166 = 154
rx_bw_code RxBwV.Bw153 = 34
rx_bw_code RxBwV.Bw142 = 98
rx_bw_code RxBwV.Bw138 = 218
rx_bw_code RxBwV.Bw133 = 162
rx_bw_code RxBwV.Bw128 = 19
rx_bw_code RxBwV.Bw119 = 83
rx_bw_code RxBwV.Bw111 = 226
rx_bw_code RxBwV.Bw96 = 27
rx_bw_code RxBwV.Bw92 = 211
rx_bw_code RxBwV.Bw89 = 91
rx_bw_code RxBwV.Bw83 = 155
rx_bw_code RxBwV.Bw76 = 35
rx_bw_code RxBwV.Bw71 = 99
rx_bw_code RxBwV.Bw69 = 219
rx_bw_code RxBwV.Bw66 = 163
rx_bw_code RxBwV.Bw64 = 20
rx_bw_code RxBwV.Bw59 = 84
rx_bw_code RxBwV.Bw55 = 227
rx_bw_code RxBwV.Bw48 = 28
rx_bw_code RxBwV.Bw46 = 212
rx_bw_code RxBwV.Bw44 = 92
rx_bw_code RxBwV.Bw41 = 156
rx_bw_code RxBwV.Bw38 = 36
rx_bw_code RxBwV.Bw35 = 100
rx_bw_code RxBwV.Bw34 = 220
rx_bw_code RxBwV.Bw33 = 164
rx_bw_code RxBwV.Bw32 = 21
rx_bw_code RxBwV.Bw29 = 85
rx_bw_code RxBwV.Bw27 = 228
rx_bw_code RxBwV.Bw24 = 29
rx_bw_code RxBwV.Bw23 = 213
rx_bw_code RxBwV.Bw22 = 93
rx_bw_code RxBwV.Bw20 = 157
rx_bw_code RxBwV.Bw19 = 37
rx_bw_code RxBwV.Bw17 = 101
rx_bw_code RxBwV.Bw16 = 165
rx_bw_code RxBwV.Bw14 = 86
rx_bw_code RxBwV.Bw13 = 229
rx_bw_code RxBwV.Bw12 = 30
rx_bw_code RxBwV.Bw11 = 94
rx_bw_code RxBwV.Bw10 = 158
rx_bw_code RxBwV.Bw9p6 = 38
rx_bw_code RxBwV.Bw8p9 = 102
rx_bw_code RxBwV.Bw8p7 = 222
rx_bw_code RxBwV.Bw8p3 = 166
rx_bw_code RxBwV.Bw8 = 23
rx_bw_code RxBwV.Bw7p4 = 87
rx_bw_code RxBwV.Bw6p9 = 230
rx_bw_code RxBwV.Bw6 = 31
rx_bw_code RxBwV.Bw5p8 = 215
rx_bw_code RxBwV.Bw5p6 = 95
rx_bw_code RxBwV.Bw5p2 = 159
rx_bw_code RxBwV.Bw4p8 = 39
rx_bw_code RxBwV.Bw4p5 = 103
rx_bw_code RxBwV.Bw4p3 = 223
rx_bw_code RxBwV.Bw4p2 = 167
rx_bw_code RxBwV.Bw3p5 = 231

abbrev pub pbl_len_detect_code : PblLenDetect → ℕ
pbl_len_detect_code PblLenDetectV.None = 0
pbl_len_detect_code PblLenDetectV.Len8Bits = 8
pbl_len_detect_code PblLenDetectV.Len16Bits = 16
pbl_len_detect_code PblLenDetectV.Len24Bits = 24
pbl_len_detect_code PblLenDetectV.Len32Bits = 32

abbrev pub pld_len_unit_code : PldLenUnit → ℕ
pld_len_unit_code PldLenUnitV.Bytes = 0
pld_len_unit_code PldLenUnitV.Bits = 1

abbrev pub addr_comp_code : AddrComp → ℕ
addr_comp_code AddrCompV.Off = 0
addr_comp_code AddrCompV.Node = 1
addr_comp_code AddrCompV.NodeBcast = 2

abbrev pub fsk_pkt_format_code : FskPktFormat → ℕ
fsk_pkt_format_code FskPktFormatV.FixedLength = 0
fsk_pkt_format_code FskPktFormatV.Variable8bit = 1
fsk_pkt_format_code FskPktFormatV.Variable9bit = 2
fsk_pkt_format_code FskPktFormatV.Variable16bit = 3

abbrev pub crc_code : Crc → ℕ
crc_code CrcV.CrcOff = 0
crc_code CrcV.Crc1Byte = 1
crc_code CrcV.Crc2Byte = 2
crc_code CrcV.Crc3Byte = 3
crc_code CrcV.Crc4Byte = 4
crc_code CrcV.Crc1ByteInv = 9
crc_code CrcV.Crc2ByteInv = 10
crc_code CrcV.Crc3ByteInv = 11
crc_code CrcV.Crc4ByteInv = 12

abbrev pub whiten_type_code : WhitenType → ℕ
whiten_type_code WhitenTypeV.Sx126xLr11xx = 0
whiten_type_code WhitenTypeV.Sx128x = 1

abbrev pub bit_order_code : BitOrder → ℕ
bit_order_code BitOrderV.LsbFirst = 0
bit_order_code BitOrderV.MsbFirst = 1
