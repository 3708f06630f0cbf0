-- The command table, and the frame that a plain builder gives (REFERENCE, "Commands", "Plain builder"). Over each row stand its kind's
-- arguments with their places: 2.7-4 is byte 2, bits 7 to 4; 2-3 is bytes 2 and 3, high byte first.
-- Assumes nothing.
use Rattle.std.specs.Prelude.{ℕ, ◌-◌, min, Bool, true, false, ◌&&◌, List, [], ◌∷◌, ◌++◌, leb, ltb, get_or, take, drop, replicate, length}
use Rattle.frame.specs.Layout.{puts}
use Rattle.table.specs.Number.{bits, bit, wide, byte, low_first, up_to, among, code, narrowed, plains_of}
use Rattle.table.specs.Codes.{sfs, preambles, crcs, cad_exits, rx_bws}

-- how many kinds there are: they are numbered from 1, in the order of the rows
abbrev pub kinds : ℕ
kinds = 39

-- whether k is a kind: one of 1 to the last
abbrev pub is_kind : ℕ → Bool
is_kind k = ltb 0 k && leb k kinds

-- how many of them are settings: their slots are the numbers below
abbrev pub settings : ℕ
settings = 29

-- the slot of a command that is never kept
abbrev pub action : ℕ
action = 255

-- opcode, length, slot, number of fields, the fields, zeros up to 13 numbers
abbrev pub row : ℕ → ℕ → ℕ → List ℕ → List ℕ
row op len slot fs = op ∷ len ∷ slot ∷ length fs ∷ fs ++ replicate (9 - length fs) 0

-- A setting has the next slot; an action has none. Where two fields of a row share bits one of them is narrowed: kind 17's unit to
-- nothing, kind 18's init to 12 bits, kinds 27's and 28's duty cycle to 3 (REFERENCE, "Checked builder").
abbrev pub rows : List (List ℕ)
rows =
    -- kind 1: sf at 2.7-4, lora_bw at 2.3-0, lora_cr at 3.7-4, ldro at 3.1-0, lora_filter at 3.3-2
    row 0x0220 4 0 (code (among sfs (bits 2 7 4)) ∷ code (bits 2 3 0) ∷ code (up_to 9 (bits 3 7 4)) ∷ code (up_to 1 (bits 3 1 0)) ∷ code (bits 3 3 2) ∷ [])
    -- kind 2: pbl_len at 2-3, payload_len at 4, header_type at 5.2, crc_en at 5.1, invert_iq at 5.0
    ∷ row 0x0221 6 1 (wide 2 3 ∷ byte 4 ∷ code (bit 5 2) ∷ code (bit 5 1) ∷ code (bit 5 0) ∷ [])
    -- kind 3: symbols at 2, timeout_format at 3.0
    ∷ row 0x0222 4 2 (byte 2 ∷ code (bit 3 0) ∷ [])
    -- kind 4: syncword at 2
    ∷ row 0x0223 3 3 (byte 2 ∷ [])
    -- kind 5: pmod_en at 2.7, dram_ret at 2.2-0, wakeup_time at 3-4, min_sleep_time at 5-7
    ∷ row 0x0226 8 4 (code (bit 2 7) ∷ bits 2 2 0 ∷ wide 3 4 ∷ wide 5 7 ∷ [])
    -- kind 6: pmod_en at 2.7, dram_ret at 2.2-0, wakeup_time at 3-4, min_sleep_time at 5-7,
    -- err_thr at 8.6-0, min_sym at 9.7-4, detect_time_sym at 9.3-0, start_offset at 10, end_offset at 11
    ∷ row 0x0226 12 5 (code (bit 2 7) ∷ bits 2 2 0 ∷ wide 3 4 ∷ wide 5 7 ∷ bits 8 6 0 ∷ bits 9 7 4 ∷ bits 9 3 0 ∷ byte 10 ∷ byte 11 ∷ [])
    -- kind 7: nb_symbols at 2, pbl_any at 3.4, pnr_delta at 3.3-0, exit_mode at 4, timeout at 5-7, det_peak at 8
    ∷ row 0x0227 9 6 (byte 2 ∷ code (bit 3 4) ∷ bits 3 3 0 ∷ code (among cad_exits (byte 4)) ∷ wide 5 7 ∷ byte 8 ∷ [])
    -- kind 8: no arguments
    ∷ row 0x0228 2 action []
    -- kind 9: no arguments
    ∷ row 0x0229 2 action []
    -- kind 10: no arguments
    ∷ row 0x022A 2 action []
    -- kind 11: addr_len at 2.7-4, addr_pos at 2.3-0, addr at 3-10 low byte first
    ∷ row 0x022B 11 7 (code (up_to 8 (bits 2 7 4)) ∷ bits 2 3 0 ∷ low_first 3 10 ∷ [])
    -- kind 12: sync1 at 2.4-0, sync2 at 3.4-0
    ∷ row 0x022D 4 8 (bits 2 4 0 ∷ bits 3 4 0 ∷ [])
    -- kind 13: sd1_sw1 at 2.4-0, sd1_sw2 at 3.4-0, sd2_sw1 at 4.4-0, sd2_sw2 at 5.4-0, sd3_sw1 at 6.4-0, sd3_sw2 at 7.4-0
    ∷ row 0x022E 8 9 (bits 2 4 0 ∷ bits 3 4 0 ∷ bits 4 4 0 ∷ bits 5 4 0 ∷ bits 6 4 0 ∷ bits 7 4 0 ∷ [])
    -- kind 14: timing_sync_mode at 2.7-6, dio_num at 2.3-0
    ∷ row 0x021D 3 10 (code (up_to 2 (bits 2 7 6)) ∷ bits 2 3 0 ∷ [])
    -- kind 15: thr_gain at 2.7-6, thr at 2.5-2, lvl_gain at 2.1-0, detect at 3.4, rssi_thr at 3.3-0
    ∷ row 0x021D 4 11 (bits 2 7 6 ∷ bits 2 5 2 ∷ bits 2 1 0 ∷ code (bit 3 4) ∷ bits 3 3 0 ∷ [])
    -- kind 16: bitrate at 2-5, pulse_shape at 6.3-0, rx_bw at 7, fdev at 8-10
    ∷ row 0x0240 11 12 (wide 2 5 ∷ code (bits 6 3 0) ∷ code (among rx_bws (byte 7)) ∷ wide 8 10 ∷ [])
    -- kind 17: pbl_len_tx at 2-3, pbl_len_detect at 4, pbl_long at 5.4, pld_len_unit at 5.4, addr_comp at 5.3-2, fsk_pkt_format at 5.1-0,
    -- pld_len at 6-7, crc at 8.7-4, dc_free at 8.0
    ∷ row 0x0241 9 13
    (wide 2 3 ∷ code (among preambles (byte 4)) ∷ code (bit 5 4) ∷ code (narrowed 0 (bit 5 4)) ∷ code (up_to 2 (bits 5 3 2)) ∷ code (bits 5 1 0)
    ∷ wide 6 7 ∷ code (among crcs (bits 8 7 4)) ∷ code (bit 8 0) ∷ [])
    -- kind 18: whiten_type at 2.4, init at 2-3
    ∷ row 0x0242 4 14 (code (bit 2 4) ∷ narrowed 12 (wide 2 3) ∷ [])
    -- kind 19: polynom at 2-5, init at 6-9
    ∷ row 0x0243 10 15 (wide 2 5 ∷ wide 6 9 ∷ [])
    -- kind 20: syncword at 2-9, bit_order at 10.7, nb_bits at 10.6-0, up to the 64 bits that the syncword has
    ∷ row 0x0244 11 16 (wide 2 9 ∷ code (bit 10 7) ∷ up_to 64 (bits 10 6 0) ∷ [])
    -- kind 21: addr_node at 2, addr_bcast at 3
    ∷ row 0x0245 4 17 (byte 2 ∷ byte 3 ∷ [])
    -- kind 22: no arguments
    ∷ row 0x0246 2 action []
    -- kind 23: no arguments
    ∷ row 0x0247 2 action []
    -- kind 24: rf_freq at 2-5
    ∷ row 0x0200 6 18 (wide 2 5 ∷ [])
    -- kind 25: rx_path at 2.0
    ∷ row 0x0201 3 19 (code (bit 2 0) ∷ [])
    -- kind 26: rx_path at 2.0, rx_boost at 3.2-0
    ∷ row 0x0201 4 20 (code (bit 2 0) ∷ code (bits 3 2 0) ∷ [])
    -- kind 27: pa_sel at 2.7, pa_lf_mode at 2.1-0, pa_lf_duty_cycle at 2.7-4, pa_lf_slices at 3.3-0
    ∷ row 0x0202 4 21 (code (bit 2 7) ∷ code (bits 2 1 0) ∷ narrowed 3 (bits 2 7 4) ∷ bits 3 3 0 ∷ [])
    -- kind 28: pa_sel at 2.7, pa_lf_mode at 2.1-0, pa_lf_duty_cycle at 2.7-4, pa_lf_slices at 3.3-0, pa_hf_duty_cycle at 4.4-0
    ∷ row 0x0202 5 22 (code (bit 2 7) ∷ code (bits 2 1 0) ∷ narrowed 3 (bits 2 7 4) ∷ bits 3 3 0 ∷ bits 4 4 0 ∷ [])
    -- kind 29: rx_timeout at 2-4
    ∷ row 0x020C 5 action (wide 2 4 ∷ [])
    -- kind 30: tx_timeout at 2-4
    ∷ row 0x020D 5 action (wide 2 4 ∷ [])
    -- kind 31: pa_sel at 2.0
    ∷ row 0x020F 3 23 (code (bit 2 0) ∷ [])
    -- kind 32: rx_max_time at 2-4, cycle_time at 5-7, use_lora_cad at 8.4, dram_ret at 8.2-0
    ∷ row 0x0210 9 action (wide 2 4 ∷ wide 5 7 ∷ code (bit 8 4) ∷ bits 8 2 0 ∷ [])
    -- kind 33: clear at 2.7, auto_txrx_mode at 2.1-0, timeout at 3-5, delay at 6-9
    ∷ row 0x0211 10 24 (code (bit 2 7) ∷ code (up_to 2 (bits 2 1 0)) ∷ wide 3 5 ∷ wide 6 9 ∷ [])
    -- kind 34: rx_timeout at 2-4, tx_timeout at 5-7
    ∷ row 0x0215 8 25 (wide 2 4 ∷ wide 5 7 ∷ [])
    -- kind 35: timestamp_index at 2.5-4, timestamp_source at 2.3-0
    ∷ row 0x0216 3 26 (code (up_to 2 (bits 2 5 4)) ∷ code (up_to 4 (bits 2 3 0)) ∷ [])
    -- kind 36: duration at 2-4
    ∷ row 0x0218 5 action (wide 2 4 ∷ [])
    -- kind 37: duration at 2-4, gain at 5
    ∷ row 0x0218 6 action (wide 2 4 ∷ byte 5 ∷ [])
    -- kind 38: gain_step at 2.3-0
    ∷ row 0x021A 3 27 (bits 2 3 0 ∷ [])
    -- kind 39: cad_timeout at 2-4, threshold at 5, exit_mode at 6.1-0, trx_timeout at 7-9
    ∷ row 0x021B 10 28 (wide 2 4 ∷ byte 5 ∷ code (up_to 2 (bits 6 1 0)) ∷ wide 7 9 ∷ [])
    ∷ []

-- The kinds that are one setting in two lengths, the shorter form first (REFERENCE, "Short and long forms"). That two kinds share an opcode
-- does not make them one: 14 and 15 are two settings, 36 and 37 two actions.
abbrev pub forms : List (List ℕ)
forms = (5 ∷ 6 ∷ []) ∷ (25 ∷ 26 ∷ []) ∷ (27 ∷ 28 ∷ []) ∷ []

-- ---- a row's parts

abbrev pub op_of : List ℕ → ℕ
op_of r = get_or r 0 0

abbrev pub len_of : List ℕ → ℕ
len_of r = get_or r 1 0

abbrev pub slot_of : List ℕ → ℕ
slot_of r = get_or r 2 0

abbrev pub count_of : List ℕ → ℕ
count_of r = get_or r 3 0

abbrev pub numbers_of : List ℕ → List ℕ
numbers_of r = take (count_of r) (drop 4 r)

-- the row of a kind
abbrev pub row_of : ℕ → List ℕ
row_of k = get_or rows (k - 1) []

-- the row at a place, and the last one past the end
unfoldable pub row_at : ℕ → List ℕ
row_at i = get_or rows (min i (kinds - 1)) []

-- the opcode stands in bytes 0 and 1
abbrev pub op_number : ℕ
op_number = wide 0 1

-- a yes is 1, a no is 0
abbrev pub yes_no : Bool → ℕ
yes_no true = 1
yes_no false = 0

-- ---- the plain builder

-- zeros, with the opcode and each argument cut to its field and ORed into it
abbrev pub plain_row : List ℕ → List ℕ → List ℕ
plain_row r vs = puts (replicate (len_of r) 0) (plains_of (op_number ∷ numbers_of r)) (op_of r ∷ vs)

abbrev pub plain : ℕ → List ℕ → List ℕ
plain k vs = plain_row (row_of k) vs
