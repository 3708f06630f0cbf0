-- A day with every reading, and its text as it is printed. But for yes and no, no two of its counts and
-- readings are equal, so that none can stand in another's place.
-- Assumes nothing.
use mathlib.Core.Path.{◌≡◌, refl}
use mathlib.Core.Bool.{true, false}
use mathlib.Core.List.{List, [], ◌∷◌, ◌++◌}
use Prim.Native.Nat.{ℕ}
use Rattle.std.specs.Prelude.{Some}
use Rattle.reading.specs.Decimal.{decimal, digits}
use Rattle.reading.specs.Level.{tenths, hundredths, rssi_text, snr_text}
use Rattle.cmd_lora.specs.Responses.{snr, lora_rx_stats_rsp, lora_packet_status_rsp}
use Rattle.cmd_fsk.specs.Responses.{fsk_rx_stats_rsp, fsk_packet_status_rsp}
use Rattle.day.specs.declared.Day.{Day}
use Rattle.texts.specs.Words.{word, spaced, line}
use Rattle.report.specs.Report.{refused_by, refused_below, counts_text, numbers_text, stopped_text}

-- the answers, as the chip gave them
pub day : Day
day =
    record {
      latest = 0;
      lora_rx_stats = Some (lora_rx_stats_rsp (4 ∷ 4 ∷ 1 ∷ 5 ∷ 0 ∷ 3 ∷ 0 ∷ 4 ∷ 1 ∷ 6 ∷ 0 ∷ 7 ∷ []));
      lora_packet_status = Some (lora_packet_status_rsp (4 ∷ 4 ∷ 18 ∷ 24 ∷ 249 ∷ 90 ∷ 91 ∷ 38 ∷ []));
      fsk_rx_stats = Some (fsk_rx_stats_rsp (4 ∷ 4 ∷ 2 ∷ 0 ∷ 0 ∷ 11 ∷ 0 ∷ 13 ∷ 2 ∷ 88 ∷ 2 ∷ 22 ∷ 0 ∷ 14 ∷ 0 ∷ 15 ∷ []));
      fsk_packet_status = Some (fsk_packet_status_rsp (4 ∷ 4 ∷ 1 ∷ 3 ∷ 60 ∷ 60 ∷ 17 ∷ 12 ∷ []));
      accepted = 20;
      refused = 0 ∷ 21 ∷ 22 ∷ 23 ∷ 25 ∷ 26 ∷ 0 ∷ 0 ∷ 27 ∷ [];
      skipped = 28;
      records = 200;
    }

pub day-printed : numbers_text day
    ≡ word "records 200\n"
    ++ word "accepted 20\n"
    ++ word "refused 1 21\n"
    ++ word "refused 2 22\n"
    ++ word "refused 3 23\n"
    ++ word "refused 4 25\n"
    ++ word "refused 5 26\n"
    ++ word "refused 8 27\n"
    ++ word "skipped 28\n"
    ++ word "lora_rx_stats pkt_rx 261 crc_error 3 header_error 4 detection 262 false_sync 7\n"
    ++ word "lora_packet_status crc 1 coding_rate 2 pkt_length 24 snr_pkt -1.75 rssi_pkt -90.5 rssi_signal_pkt -91.0 detector 9\n"
    ++ word "fsk_rx_stats pkt_rx 512 crc_error 11 len_error 13 pbl_det 600 sync_ok 534 sync_fail 14 timeout 15\n"
    ++ word "fsk_packet_status pkt_len 259 rssi_avg -60.0 rssi_sync -60.5 addr_match_bcast 0 addr_match_node 1 lqi 12\n"
unfolding day numbers_text counts_text refused_below refused_by line spaced decimal digits rssi_text snr_text tenths hundredths snr lora_rx_stats_rsp lora_packet_status_rsp
    fsk_rx_stats_rsp fsk_packet_status_rsp
day-printed = refl

pub fault-printed : stopped_text 96 ≡ word "stopped 15 96\n"
unfolding stopped_text line spaced decimal digits
fault-printed = refl
