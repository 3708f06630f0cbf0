-- Worked examples and the ends of some ranges: one list of cases with one claim, proved by computing.
-- Assumes nothing.
use mathlib.Core.Path.{◌≡◌, refl}
use mathlib.Core.List.{List, [], ◌∷◌, map}
use Prim.Native.Nat.{ℕ, ◌+◌, ◌^◌}
use Rattle.frame.specs.Field.{part, mask, read, read_to, sound}
use Rattle.frame.specs.Layout.{put, tab, tab_from, byte_of, mask_of, reads}
use Rattle.table.specs.Number.{plain_of, narrow_of, narrows_of}
use Rattle.table.specs.Codes.{lists, rx_bw_codes, is_in, takes}
use Rattle.table.specs.Table.{kinds, plain}
use Rattle.table.specs.Laid.{find}
use Rattle.refusal.specs.Numbers.{number_of, place_of}
use Rattle.decoder.specs.Decoding as decoder
use Rattle.decoder.specs.Decoding.{Reading, reading, stray, lacking, judged, known, sought, answered, decode}
use Rattle.builder.specs.Building as builder
use Rattle.builder.specs.Building.{Making, makes, first_misfit, unless, builds, checked}
use Rattle.status.specs.Codes.{cmd_code, reset_code, mode_code}
use Rattle.status.specs.Words.{status_of, intr_of, cmd_in, reset_in, mode_in}
use Rattle.status.specs.declared.CmdStatus.{CmdStatus}
use Rattle.status.specs.declared.CmdStatus.TheVariants as cmd
use Rattle.status.specs.declared.ResetSrc.{ResetSrc}
use Rattle.status.specs.declared.ResetSrc.TheVariants as reset
use Rattle.status.specs.declared.ChipModeStatus.{ChipModeStatus}
use Rattle.status.specs.declared.ChipModeStatus.TheVariants as mode
use Rattle.reading.specs.Decimal.{decimal, digits}
use Rattle.reading.specs.Level.{signed_of, tenths, hundredths, rssi_text, snr_text, counter_difference}
use Rattle.cmd_lora.specs.Codes.{sf_code, lora_bw_code, lora_cr_code, ldro_code, lora_filter_code, addr_len_code}
use Rattle.cmd_lora.specs.declared.Sf.{Sf}
use Rattle.cmd_lora.specs.declared.Sf.TheVariants.{Sf7, Sf12}
use Rattle.cmd_lora.specs.declared.LoraBw.{LoraBw}
use Rattle.cmd_lora.specs.declared.LoraBw.TheVariants.{Bw125, Bw1000}
use Rattle.cmd_lora.specs.declared.LoraCr.{LoraCr}
use Rattle.cmd_lora.specs.declared.LoraCr.TheVariants.{Cr1Ham45Si, Cr9Cc12}
use Rattle.cmd_lora.specs.declared.Ldro.{Ldro}
use Rattle.cmd_lora.specs.declared.Ldro.TheVariants.{Off, On}
use Rattle.cmd_lora.specs.declared.LoraFilter.{LoraFilter}
use Rattle.cmd_lora.specs.declared.LoraFilter.TheVariants.{Auto, DccF}
use Rattle.cmd_lora.specs.declared.AddrLen.{AddrLen}
use Rattle.cmd_lora.specs.declared.AddrLen.TheVariants.{Addr2B}
use Rattle.cmd_fsk.specs.Codes.{whiten_type_code, bit_order_code}
use Rattle.cmd_fsk.specs.declared.WhitenType.{WhitenType}
use Rattle.cmd_fsk.specs.declared.WhitenType.TheVariants.{Sx126xLr11xx}
use Rattle.cmd_fsk.specs.declared.BitOrder.{BitOrder}
use Rattle.cmd_fsk.specs.declared.BitOrder.TheVariants.{LsbFirst, MsbFirst}
use Rattle.cmd_common.specs.Codes.{pa_sel_code, pa_lf_mode_code}
use Rattle.cmd_common.specs.declared.PaSel.{PaSel}
use Rattle.cmd_common.specs.declared.PaSel.TheVariants.{LfPa, HfPa}
use Rattle.cmd_common.specs.declared.PaLfMode.{PaLfMode}
use Rattle.cmd_common.specs.declared.PaLfMode.TheVariants.{LfPaFsm}
use Rattle.cmd_lora.specs.Responses.{lora_packet_status_rsp}

-- a case: what the specs give, and what is stated
pub record Case : Type 0 where
  pub given : List ℕ
  pub stated : List ℕ

-- ---- arguments by the names of their codes

-- kind 1
abbrev modulation : Sf → LoraBw → LoraCr → Ldro → LoraFilter → List ℕ
modulation sf bw cr ldro filter = sf_code sf ∷ lora_bw_code bw ∷ lora_cr_code cr ∷ ldro_code ldro ∷ lora_filter_code filter ∷ []

-- kind 11
abbrev address : AddrLen → ℕ → ℕ → List ℕ
address len pos addr = addr_len_code len ∷ pos ∷ addr ∷ []

-- kind 18
abbrev whitening : WhitenType → ℕ → List ℕ
whitening type init = whiten_type_code type ∷ init ∷ []

-- kind 20
abbrev sync_word : BitOrder → ℕ → List ℕ
sync_word order bits = 0x0123456789ABCDEF ∷ bit_order_code order ∷ bits ∷ []

-- the frame of such a sync word, by its last byte
abbrev sync_frame : ℕ → List ℕ
sync_frame last = 0x02 ∷ 0x44 ∷ 0x01 ∷ 0x23 ∷ 0x45 ∷ 0x67 ∷ 0x89 ∷ 0xAB ∷ 0xCD ∷ 0xEF ∷ last ∷ []

-- kind 27
abbrev amplifier : PaSel → PaLfMode → ℕ → ℕ → List ℕ
amplifier sel mode duty slices = pa_sel_code sel ∷ pa_lf_mode_code mode ∷ duty ∷ slices ∷ []

-- ---- what a case can be of

-- a kind's arguments, and its plain frame
abbrev gives : ℕ → List ℕ → List ℕ → Case
gives k args frame = record { given = plain k args; stated = frame }

-- a refusal, as its number and its place; and what is accepted, behind a 0
abbrev refused : ℕ → ℕ → List ℕ
refused number place = number ∷ place ∷ []

abbrev accepted : List ℕ → List ℕ
accepted l = 0 ∷ l

-- a kind's arguments, and what the checked builder answers
abbrev of_making : Making → List ℕ
of_making (makes f) = accepted f
of_making (builder.refuses x) = refused (number_of x) (place_of x)

abbrev checks : ℕ → List ℕ → List ℕ → Case
checks k args answer = record { given = of_making (checked k args); stated = answer }

-- a frame, and what the decoder answers: the kind and then the arguments
abbrev of_reading : Reading → List ℕ
of_reading (reading k vs) = accepted (k ∷ vs)
of_reading (decoder.refuses x) = refused (number_of x) (place_of x)

abbrev decodes : List ℕ → List ℕ → Case
decodes f answer = record { given = of_reading (decode f); stated = answer }

-- the bytes of a status, and what it says
abbrev codes : CmdStatus → ResetSrc → ChipModeStatus → List ℕ
codes c r m = cmd_code c ∷ reset_code r ∷ mode_code m ∷ []

abbrev status : List ℕ → CmdStatus → ResetSrc → ChipModeStatus → Case
status b c r m = record { given = codes (cmd_in (status_of b).0) (reset_in (status_of b).0) (mode_in (status_of b).0); stated = codes c r m }

-- the bytes of interrupts, and their number
abbrev interrupts : List ℕ → ℕ → Case
interrupts b v = record { given = (intr_of b).0 ∷ []; stated = v ∷ [] }

-- the bytes of a LoRa packet status, and its two levels
abbrev levels : List ℕ → ℕ → ℕ → Case
levels b packet signal =
    record { given = (lora_packet_status_rsp b).rssi_pkt.0 ∷ (lora_packet_status_rsp b).rssi_signal_pkt.0 ∷ []; stated = packet ∷ signal ∷ [] }

-- a level's count, and its text
abbrev level : ℕ → List ℕ → Case
level count text = record { given = rssi_text count; stated = text }

-- an SNR byte, and its text
abbrev snr : ℕ → List ℕ → Case
snr b text = record { given = snr_text (signed_of b); stated = text }

-- two readings of a counter, and their difference
abbrev counter : ℕ → ℕ → ℕ → Case
counter earlier later d = record { given = counter_difference earlier later ∷ []; stated = d ∷ [] }

-- ---- the cases

unfoldable pub cases : List Case
cases =
    -- four fields share two bytes
    gives 1 (modulation Sf7 Bw125 Cr1Ham45Si Off Auto) (0x02 ∷ 0x20 ∷ 0x74 ∷ 0x10 ∷ [])
    ∷ gives 1 (modulation Sf12 Bw1000 Cr9Cc12 On DccF) (0x02 ∷ 0x20 ∷ 0xC7 ∷ 0x9D ∷ [])
    -- a number that fills its field, and one more, which the plain builder masks
    ∷ gives 29 (16777215 ∷ []) (0x02 ∷ 0x0C ∷ 0xFF ∷ 0xFF ∷ 0xFF ∷ [])
    ∷ checks 29 (16777215 ∷ []) (accepted (0x02 ∷ 0x0C ∷ 0xFF ∷ 0xFF ∷ 0xFF ∷ []))
    ∷ gives 29 (16777216 ∷ []) (0x02 ∷ 0x0C ∷ 0 ∷ 0 ∷ 0 ∷ [])
    ∷ checks 29 (16777216 ∷ []) (refused 6 1)
    -- two fields share a bit: the plain builder ORs them, the checked one takes a narrower duty cycle
    ∷ gives 27 (amplifier HfPa LfPaFsm 0 0) (0x02 ∷ 0x02 ∷ 0x80 ∷ 0 ∷ [])
    ∷ gives 27 (amplifier LfPa LfPaFsm 8 0) (0x02 ∷ 0x02 ∷ 0x80 ∷ 0 ∷ [])
    ∷ checks 27 (amplifier LfPa LfPaFsm 8 0) (refused 6 3)
    -- and so with the start of the whitening
    ∷ gives 18 (whitening Sx126xLr11xx 4096) (0x02 ∷ 0x42 ∷ 0x10 ∷ 0 ∷ [])
    ∷ checks 18 (whitening Sx126xLr11xx 4096) (refused 6 2)
    -- the address goes low byte first
    ∷ gives 11 (address Addr2B 1 0x0102) (0x02 ∷ 0x2B ∷ 0x21 ∷ 0x02 ∷ 0x01 ∷ 0 ∷ 0 ∷ 0 ∷ 0 ∷ 0 ∷ 0 ∷ [])
    -- the parts of a status, by their names
    ∷ status (0x04 ∷ 0x04 ∷ []) cmd.Ok reset.Cleared mode.Rx
    ∷ status (0x08 ∷ 0 ∷ []) cmd.Unknown reset.Cleared mode.Sleep
    -- each part set, and the same with bits 15-12 and 3 set, which are ignored
    ∷ status (0x06 ∷ 0x35 ∷ []) cmd.Data reset.Unknown mode.Tx
    ∷ status (0xF6 ∷ 0x3D ∷ []) cmd.Data reset.Unknown mode.Tx
    -- no byte, one byte, and one too many
    ∷ status [] cmd.Fail reset.Cleared mode.Sleep
    ∷ status (0x04 ∷ []) cmd.Ok reset.Cleared mode.Sleep
    ∷ status (0x02 ∷ 0x60 ∷ 0xFF ∷ []) cmd.PErr reset.Rtc mode.Sleep
    -- a short slice fills from the top: one byte 80 is bit 31
    ∷ interrupts (0x80 ∷ []) (2 ^ 31)
    ∷ interrupts (0 ∷ 0 ∷ 0 ∷ 1 ∷ 0xFF ∷ []) 1
    -- a level whose half stands in another byte, and its text
    ∷ levels (0x04 ∷ 0x04 ∷ 0 ∷ 0 ∷ 0 ∷ 0x5A ∷ 0 ∷ 0x02 ∷ []) 181 0
    ∷ level 181 (45 ∷ 57 ∷ 48 ∷ 46 ∷ 53 ∷ [])
    -- levels 0, 1, 511 and 65,535: 0.0, -0.5, -255.5 and -32767.5
    ∷ level 0 (48 ∷ 46 ∷ 48 ∷ [])
    ∷ level 1 (45 ∷ 48 ∷ 46 ∷ 53 ∷ [])
    ∷ level 511 (45 ∷ 50 ∷ 53 ∷ 53 ∷ 46 ∷ 53 ∷ [])
    ∷ level 65535 (45 ∷ 51 ∷ 50 ∷ 55 ∷ 54 ∷ 55 ∷ 46 ∷ 53 ∷ [])
    -- a ratio has a sign: 80 is -32.00, FF is -0.25
    ∷ snr 0x80 (45 ∷ 51 ∷ 50 ∷ 46 ∷ 48 ∷ 48 ∷ [])
    ∷ snr 0xFF (45 ∷ 48 ∷ 46 ∷ 50 ∷ 53 ∷ [])
    -- 7F: 31.75; 00: 0.00
    ∷ snr 0x7F (51 ∷ 49 ∷ 46 ∷ 55 ∷ 53 ∷ [])
    ∷ snr 0 (48 ∷ 46 ∷ 48 ∷ 48 ∷ [])
    -- a code that the enum lacks
    ∷ decodes (0x02 ∷ 0x20 ∷ 0x40 ∷ 0x10 ∷ []) (refused 5 2)
    ∷ decodes (0x02 ∷ 0x20 ∷ 0x74 ∷ 0x10 ∷ []) (accepted (1 ∷ modulation Sf7 Bw125 Cr1Ham45Si Off Auto))
    ∷ checks 1 (modulation Sf7 Bw125 Cr1Ham45Si Off Auto) (accepted (0x02 ∷ 0x20 ∷ 0x74 ∷ 0x10 ∷ []))
    ∷ checks 11 (address Addr2B 1 0x0102) (accepted (0x02 ∷ 0x2B ∷ 0x21 ∷ 0x02 ∷ 0x01 ∷ 0 ∷ 0 ∷ 0 ∷ 0 ∷ 0 ∷ 0 ∷ []))
    -- every 4 before any 5
    ∷ decodes (0x02 ∷ 0x41 ∷ 0 ∷ 0 ∷ 0x07 ∷ 0x80 ∷ 0 ∷ 0 ∷ 0 ∷ []) (refused 4 5)
    -- the unit is the fourth of kind 17's nine arguments, and always 0
    ∷ checks 17 (0 ∷ 0 ∷ 0 ∷ 1 ∷ 0 ∷ 0 ∷ 0 ∷ 0 ∷ 0 ∷ []) (refused 6 4)
    ∷ decodes (0x02 ∷ 0x41 ∷ 0 ∷ 0 ∷ 0x08 ∷ 0x10 ∷ 0 ∷ 0 ∷ 0 ∷ []) (accepted (17 ∷ 0 ∷ 8 ∷ 1 ∷ 0 ∷ 0 ∷ 0 ∷ 0 ∷ 0 ∷ 0 ∷ []))
    -- a sync word has at most 64 bits, whichever of them goes first; the plain builder masks
    ∷ checks 20 (sync_word MsbFirst 64) (accepted (sync_frame 0xC0))
    ∷ checks 20 (sync_word MsbFirst 65) (refused 6 3)
    ∷ gives 20 (sync_word MsbFirst 65) (sync_frame 0xC1)
    ∷ gives 20 (sync_word MsbFirst 128) (sync_frame 0x80)
    ∷ decodes (sync_frame 0xC0) (accepted (20 ∷ sync_word MsbFirst 64))
    ∷ decodes (sync_frame 0x40) (accepted (20 ∷ sync_word LsbFirst 64))
    ∷ decodes (sync_frame 0x41) (refused 5 10)
    ∷ decodes (sync_frame 0xC1) (refused 5 10)
    -- opcode and length tell the kind together
    ∷ decodes (0x03 ∷ 0x20 ∷ 0x74 ∷ 0x10 ∷ []) (refused 2 0)
    ∷ decodes (0x02 ∷ 0x0C ∷ []) (refused 3 0)
    ∷ decodes (0x02 ∷ []) (refused 1 0)
    ∷ decodes (0x02 ∷ 0x1D ∷ 0x40 ∷ []) (accepted (14 ∷ 1 ∷ 0 ∷ []))
    ∷ decodes (0x02 ∷ 0x1D ∷ 0x40 ∷ 0 ∷ []) (accepted (15 ∷ 1 ∷ 0 ∷ 0 ∷ 0 ∷ 0 ∷ []))
    -- kinds, missing and surplus arguments
    ∷ checks 0 (1 ∷ []) (refused 13 0)
    ∷ checks (kinds + 1) [] (refused 13 0)
    ∷ checks 4 [] (refused 6 1)
    ∷ checks 4 (1 ∷ 2 ∷ []) (refused 6 2)
    ∷ checks 4 (256 ∷ 2 ∷ []) (refused 6 1)
    -- a counter that went round
    ∷ counter 65535 3 4
    ∷ []

pub examples : map (λ (c : Case). c.given) cases ≡ map (λ (c : Case). c.stated) cases
unfolding cases put tab tab_from byte_of mask_of reads part mask read read_to sound plain_of narrow_of narrows_of lists rx_bw_codes is_in takes find builds unless
    first_misfit decode sought answered judged known stray lacking lora_packet_status_rsp snr_text rssi_text tenths hundredths decimal digits
examples = refl
