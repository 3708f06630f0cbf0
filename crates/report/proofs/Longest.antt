-- No text is longer than the output must be that it asks for: whatever a day's numbers are (`numbers-most`), whichever frame (`frame-most`)
-- and wherever the fault (`stopped-most`). No decimal here has more than twenty digits.
-- Assumes nothing.
use mathlib.Core.Bool.{Bool, true, false, cond}
use mathlib.Core.List.{List, [], ◌∷◌}
use Prim.Native.Nat.{ℕ, zero, suc, ◌+◌, ◌*◌, ◌/◌, ◌≤◌}
use native.Mathlib.Omega.{arith}
use lib.Dec.{ltb}
use lib.IntN.{ℤ, pos, nat_abs}
use lib.Signed.{lt_z}
use lib.ListN.{length, get_or, length-append}
use Rattle.std.specs.Prelude.{Option, None, Some}
use Rattle.reading.specs.Decimal.{decimal}
use Rattle.reading.specs.Level.{minus, tenths, hundredths, rssi_text, snr_text}
use Rattle.texts.specs.Words.{word, line}
use Rattle.texts.proofs.Longest.{decimal-most, spaced-length, spaced-none}
use Rattle.dump_text.proofs.Longest.{line-longest}
use Rattle.cmd_lora.specs.declared.rsp.LoraRxStatsRsp.{LoraRxStatsRsp}
use Rattle.cmd_lora.specs.declared.rsp.LoraPacketStatusRsp.{LoraPacketStatusRsp}
use Rattle.cmd_fsk.specs.declared.rsp.FskRxStatsRsp.{FskRxStatsRsp}
use Rattle.cmd_fsk.specs.declared.rsp.FskPacketStatusRsp.{FskPacketStatusRsp}
use Rattle.day.specs.declared.Day.{Day}
use Rattle.report.specs.Report.{flag, refused_by, refused_below, counts_text, numbers_text, frame_text, stopped_text}
use Rattle.report.specs.Report.{lora_rx_stats_text, lora_packet_status_text, fsk_rx_stats_text, fsk_packet_status_text}
use Rattle.report.specs.Lengths.{longest, longest_line}

-- ---- words

minus-most : (b : Bool) → length (minus b) ≤ 1
minus-most true = omega arith
minus-most false = omega arith

rssi-most : (n : ℕ) → length (rssi_text n) ≤ 23
unfolding rssi_text tenths
rssi-most n = simp length-append (omega (arith, minus-most (ltb 0 n), decimal-most (5 * n / 10)))

snr-most : (z : ℤ) → length (snr_text z) ≤ 24
unfolding snr_text hundredths
snr-most z = simp length-append (omega (arith, minus-most (lt_z z (pos 0)), decimal-most (25 * nat_abs z / 100)))

flag-most : (b : Bool) → length (flag b) ≤ 20
flag-most true = decimal-most 1
flag-most false = decimal-most 0

-- ---- lines

one-most : (w : List ℕ) (n : ℕ) → length (line w (decimal n ∷ [])) ≤ length w + 22
unfolding line
one-most w n = simp (length-append, spaced-length, spaced-none) (omega (arith, decimal-most n))

two-most : (w : List ℕ) (m n : ℕ) → length (line w (decimal m ∷ decimal n ∷ [])) ≤ length w + 43
unfolding line
two-most w m n = simp (length-append, spaced-length, spaced-none) (omega (arith, decimal-most m, decimal-most n))

refused-by-most : (k n : ℕ) → length (refused_by k n) ≤ 50
unfolding refused_by
refused-by-most k n = by (ltb 0 n)
  where
    by : (b : Bool) → length (cond b (line (word "refused") (decimal k ∷ decimal n ∷ [])) []) ≤ 50
    by true = two-most (word "refused") k n
    by false = omega arith

refused-below-most : (k : ℕ) (counts : List ℕ) → length (refused_below k counts) ≤ 50 * k
unfolding refused_below
refused-below-most zero counts = omega arith
refused-below-most (suc k) counts =
    let h : length (refused_below k counts) ≤ 50 * k = refused-below-most k counts in
    simp length-append (omega (arith, refused-by-most k (get_or counts k 0)))

counts-most : (d : Day) → length (counts_text d) ≤ 538
unfolding counts_text
counts-most d =
    simp length-append
    (omega (
      arith,
      one-most (word "records") d.records,
      one-most (word "accepted") d.accepted,
      refused-below-most 9 d.refused,
      one-most (word "skipped") d.skipped,
    ))

lora-rx-stats-most : (l : Option LoraRxStatsRsp) → length (lora_rx_stats_text l) ≤ 170
unfolding line
lora-rx-stats-most None = omega arith
lora-rx-stats-most (Some r) =
    simp (length-append, spaced-length, spaced-none)
    (omega (
      arith,
      decimal-most r.pkt_rx,
      decimal-most r.crc_error,
      decimal-most r.header_error,
      decimal-most r.detection,
      decimal-most r.false_sync,
    ))

lora-packet-status-most : (l : Option LoraPacketStatusRsp) → length (lora_packet_status_text l) ≤ 245
unfolding line
lora-packet-status-most None = omega arith
lora-packet-status-most (Some r) =
    simp (length-append, spaced-length, spaced-none)
    (omega (
      arith,
      flag-most r.crc,
      decimal-most r.coding_rate,
      decimal-most r.pkt_length,
      snr-most r.snr_pkt.0,
      rssi-most r.rssi_pkt.0,
      rssi-most r.rssi_signal_pkt.0,
      decimal-most r.detector,
    ))

fsk-rx-stats-most : (l : Option FskRxStatsRsp) → length (fsk_rx_stats_text l) ≤ 221
unfolding line
fsk-rx-stats-most None = omega arith
fsk-rx-stats-most (Some r) =
    simp (length-append, spaced-length, spaced-none)
    (omega (
      arith,
      decimal-most r.pkt_rx,
      decimal-most r.crc_error,
      decimal-most r.len_error,
      decimal-most r.pbl_det,
      decimal-most r.sync_ok,
      decimal-most r.sync_fail,
      decimal-most r.timeout,
    ))

fsk-packet-status-most : (l : Option FskPacketStatusRsp) → length (fsk_packet_status_text l) ≤ 214
unfolding line
fsk-packet-status-most None = omega arith
fsk-packet-status-most (Some r) =
    simp (length-append, spaced-length, spaced-none)
    (omega (
      arith,
      decimal-most r.pkt_len,
      rssi-most r.rssi_avg.0,
      rssi-most r.rssi_sync.0,
      flag-most r.addr_match_bcast,
      flag-most r.addr_match_node,
      decimal-most r.lqi,
    ))

-- ---- texts

pub numbers-most : (d : Day) → length (numbers_text d) ≤ longest
unfolding numbers_text
numbers-most d =
    simp length-append
    (omega (
      arith,
      counts-most d,
      lora-rx-stats-most d.lora_rx_stats,
      lora-packet-status-most d.lora_packet_status,
      fsk-rx-stats-most d.fsk_rx_stats,
      fsk-packet-status-most d.fsk_packet_status,
    ))

pub frame-most : (index : ℕ) (f : List ℕ) → length (frame_text index f) ≤ longest_line
unfolding frame_text
frame-most index f = omega (arith, line-longest index f)

pub stopped-most : (place : ℕ) → length (stopped_text place) ≤ longest_line
unfolding stopped_text
stopped-most place = omega (arith, two-most (word "stopped") 15 place)
