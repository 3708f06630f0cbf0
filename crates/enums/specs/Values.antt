-- What the arguments of the typed builders are: for each kind an enum's value, a yes or no, or a number (REFERENCE, "Commands").
-- Assumes nothing.
use Rattle.std.specs.Prelude.{ℕ, ◌-◌, ◌^◌, ◌<◌, List, [], ◌∷◌, map, get_or}
use Rattle.enums.specs.Enums.{Enum, Value, code_of, values_of}
use Rattle.enums.specs.Enums as of

-- an argument: a value of one of them, or a number
pub data Sort : Type 0 where
  code : Enum → Sort
  number : Sort

-- their codes
abbrev pub codes_in : Enum → List ℕ
codes_in e = map (code_of e) (values_of e)

-- a number of 64 bits, the widest that a builder takes
pub record Number : Type 0 where
  pub value : ℕ
  pub fits : value < 2 ^ 64

-- ---- the arguments of each kind

abbrev pub sorts : List (List Sort)
sorts =
    -- from commands.json: sorts
    -- 1 sf, lora_bw, lora_cr, ldro, lora_filter
    (code of.sf ∷ code of.lora_bw ∷ code of.lora_cr ∷ code of.ldro ∷ code of.lora_filter ∷ [])
    -- 2 pbl_len, payload_len, header_type, crc_en, invert_iq
    ∷ (number ∷ number ∷ code of.header_type ∷ code of.yes_or_no ∷ code of.yes_or_no ∷ [])
    -- 3 symbols, timeout_format
    ∷ (number ∷ code of.timeout_format ∷ [])
    -- 4 syncword
    ∷ (number ∷ [])
    -- 5 pmod_en, dram_ret, wakeup_time, min_sleep_time
    ∷ (code of.yes_or_no ∷ number ∷ number ∷ number ∷ [])
    -- 6 pmod_en, dram_ret, wakeup_time, min_sleep_time, err_thr, min_sym, detect_time_sym, start_offset, end_offset
    ∷ (code of.yes_or_no ∷ number ∷ number ∷ number ∷ number ∷ number ∷ number ∷ number ∷ number ∷ [])
    -- 7 nb_symbols, pbl_any, pnr_delta, exit_mode, timeout, det_peak
    ∷ (number ∷ code of.yes_or_no ∷ number ∷ code of.lora_cad_exit_mode ∷ number ∷ number ∷ [])
    -- 8
    ∷ ([])
    -- 9
    ∷ ([])
    -- 10
    ∷ ([])
    -- 11 addr_len, addr_pos, addr
    ∷ (code of.addr_len ∷ number ∷ number ∷ [])
    -- 12 sync1, sync2
    ∷ (number ∷ number ∷ [])
    -- 13 sd1_sw1, sd1_sw2, sd2_sw1, sd2_sw2, sd3_sw1, sd3_sw2
    ∷ (number ∷ number ∷ number ∷ number ∷ number ∷ number ∷ [])
    -- 14 timing_sync_mode, dio_num
    ∷ (code of.timing_sync_mode ∷ number ∷ [])
    -- 15 thr_gain, thr, lvl_gain, detect, rssi_thr
    ∷ (number ∷ number ∷ number ∷ code of.yes_or_no ∷ number ∷ [])
    -- 16 bitrate, pulse_shape, rx_bw, fdev
    ∷ (number ∷ code of.pulse_shape ∷ code of.rx_bw ∷ number ∷ [])
    -- 17 pbl_len_tx, pbl_len_detect, pbl_long, pld_len_unit, addr_comp, fsk_pkt_format, pld_len, crc, dc_free
    ∷ (number ∷ code of.pbl_len_detect ∷ code of.yes_or_no ∷ code of.pld_len_unit ∷ code of.addr_comp ∷ code of.fsk_pkt_format ∷ number ∷ code of.crc
    ∷ code of.yes_or_no ∷ [])
    -- 18 whiten_type, init
    ∷ (code of.whiten_type ∷ number ∷ [])
    -- 19 polynom, init
    ∷ (number ∷ number ∷ [])
    -- 20 syncword, bit_order, nb_bits
    ∷ (number ∷ code of.bit_order ∷ number ∷ [])
    -- 21 addr_node, addr_bcast
    ∷ (number ∷ number ∷ [])
    -- 22
    ∷ ([])
    -- 23
    ∷ ([])
    -- 24 rf_freq
    ∷ (number ∷ [])
    -- 25 rx_path
    ∷ (code of.rx_path ∷ [])
    -- 26 rx_path, rx_boost
    ∷ (code of.rx_path ∷ code of.rx_boost ∷ [])
    -- 27 pa_sel, pa_lf_mode, pa_lf_duty_cycle, pa_lf_slices
    ∷ (code of.pa_sel ∷ code of.pa_lf_mode ∷ number ∷ number ∷ [])
    -- 28 pa_sel, pa_lf_mode, pa_lf_duty_cycle, pa_lf_slices, pa_hf_duty_cycle
    ∷ (code of.pa_sel ∷ code of.pa_lf_mode ∷ number ∷ number ∷ number ∷ [])
    -- 29 rx_timeout
    ∷ (number ∷ [])
    -- 30 tx_timeout
    ∷ (number ∷ [])
    -- 31 pa_sel
    ∷ (code of.pa_sel ∷ [])
    -- 32 rx_max_time, cycle_time, use_lora_cad, dram_ret
    ∷ (number ∷ number ∷ code of.yes_or_no ∷ number ∷ [])
    -- 33 clear, auto_txrx_mode, timeout, delay
    ∷ (code of.yes_or_no ∷ code of.auto_txrx_mode ∷ number ∷ number ∷ [])
    -- 34 rx_timeout, tx_timeout
    ∷ (number ∷ number ∷ [])
    -- 35 timestamp_index, timestamp_source
    ∷ (code of.timestamp_index ∷ code of.timestamp_source ∷ [])
    -- 36 duration
    ∷ (number ∷ [])
    -- 37 duration, gain
    ∷ (number ∷ number ∷ [])
    -- 38 gain_step
    ∷ (number ∷ [])
    -- 39 cad_timeout, threshold, exit_mode, trx_timeout
    ∷ (number ∷ number ∷ code of.cad_exit_mode ∷ number ∷ [])
    -- end: sorts
    ∷ []

abbrev pub sorts_of : ℕ → List Sort
sorts_of k = get_or sorts (k - 1) []

-- what a typed builder with such arguments is called with
pub data Args : List Sort → Type 0 where
  none : Args []
  coded : {e : Enum} {ss : List Sort} → Value e → Args ss → Args (code e ∷ ss)
  plus : {ss : List Sort} → Number → Args ss → Args (number ∷ ss)

-- the same as numbers: an enum's value and a yes or no by code
unfoldable pub numbers_in : {ss : List Sort} → Args ss → List ℕ
numbers_in none = []
numbers_in (coded {e} x rest) = code_of e x ∷ numbers_in rest
numbers_in (plus n rest) = n.value ∷ numbers_in rest
