-- A day's numbers: what an answer, and what a put's answer, make of the counts, the last readings and the latest command (REFERENCE, "Playback").
-- Assumes nothing.
use Rattle.std.specs.Prelude.{ℕ, ◌+◌, ◌-◌, ◌^◌, Bool, false, cond, not, None, Some, Result, Ok, Err, List, eqb, leb, ltb, get_or, set, replicate}
use Rattle.table.specs.Table.{settings}
use Rattle.settings.specs.Settings.{slot_for}
use Rattle.refusal.specs.declared.Refusal.{Refusal}
use Rattle.refusal.specs.Numbers.{number_of}
use Rattle.decoder.specs.Decoding.{Reading, reading, refuses}
use Rattle.book.specs.Plain.{Answer}
use Rattle.cmd_lora.specs.Responses.{lora_rx_stats_read, lora_packet_status_read}
use Rattle.cmd_lora.specs.declared.rsp.LoraRxStatsRsp.{LoraRxStatsRsp}
use Rattle.cmd_lora.specs.declared.rsp.LoraPacketStatusRsp.{LoraPacketStatusRsp}
use Rattle.cmd_fsk.specs.Responses.{fsk_rx_stats_read, fsk_packet_status_read}
use Rattle.cmd_fsk.specs.declared.rsp.FskRxStatsRsp.{FskRxStatsRsp}
use Rattle.cmd_fsk.specs.declared.rsp.FskPacketStatusRsp.{FskPacketStatusRsp}
use Rattle.day.specs.declared.Day.{Day}

-- ---- counts

-- the most that a number of 64 bits can be
abbrev pub most : ℕ
most = 2 ^ 64 - 1

-- n more; what would not fit 64 bits stays as it is
unfoldable pub plus : ℕ → ℕ → ℕ
plus count n = cond (leb (count + n) most) (count + n) count

-- one more at the index i
unfoldable pub bumped : ℕ → List ℕ → List ℕ
bumped i l = set l i (plus (get_or l i 0) 1)

-- No record yet: no command, no reading, and a count of 0 for each of the numbers 0 to 8.
unfoldable pub fresh : Day
fresh =
    record {
      latest = 0;
      lora_rx_stats = None;
      lora_packet_status = None;
      fsk_rx_stats = None;
      fsk_packet_status = None;
      accepted = 0;
      refused = replicate 9 0;
      skipped = 0;
      records = 0;
    }

-- ---- a command that was sent

-- the kind that a command decodes to; 0 where it does not decode
abbrev pub kind_in : Reading → ℕ
kind_in (reading k vs) = k
kind_in (refuses x) = 0

-- a command that decodes, to a kind that no book keeps
abbrev pub is_action : Reading → Bool
is_action (reading k vs) = not (ltb (slot_for k) settings)
is_action (refuses x) = false

-- the latest command is one of this kind; nothing is counted but the record
unfoldable pub noted : ℕ → Day → Day
noted k d =
    record {
      latest = k;
      lora_rx_stats = d.lora_rx_stats;
      lora_packet_status = d.lora_packet_status;
      fsk_rx_stats = d.fsk_rx_stats;
      fsk_packet_status = d.fsk_packet_status;
      accepted = d.accepted;
      refused = d.refused;
      skipped = d.skipped;
      records = plus d.records 1;
    }

-- a put that was accepted
unfoldable pub accepted_one : Day → Day
accepted_one d =
    record {
      latest = d.latest;
      lora_rx_stats = d.lora_rx_stats;
      lora_packet_status = d.lora_packet_status;
      fsk_rx_stats = d.fsk_rx_stats;
      fsk_packet_status = d.fsk_packet_status;
      accepted = plus d.accepted 1;
      refused = d.refused;
      skipped = d.skipped;
      records = d.records;
    }

-- a put that was refused by a number
unfoldable pub refused_one : ℕ → Day → Day
refused_one n d =
    record {
      latest = d.latest;
      lora_rx_stats = d.lora_rx_stats;
      lora_packet_status = d.lora_packet_status;
      fsk_rx_stats = d.fsk_rx_stats;
      fsk_packet_status = d.fsk_packet_status;
      accepted = d.accepted;
      refused = bumped n d.refused;
      skipped = d.skipped;
      records = d.records;
    }

-- A put of a command of this kind, by the book's answer. No put on a sound book is refused by a number above 8; one that is, is counted nowhere.
abbrev pub tallied : ℕ → Answer → Day → Day
tallied k (Ok n) d = accepted_one (noted k d)
tallied k (Err x) d = cond (ltb (number_of x) 9) (refused_one (number_of x) (noted k d)) (noted k d)

-- ---- an answer that was received

-- what is no reading is counted, and nothing else
unfoldable pub missed : Day → Day
missed d =
    record {
      latest = d.latest;
      lora_rx_stats = d.lora_rx_stats;
      lora_packet_status = d.lora_packet_status;
      fsk_rx_stats = d.fsk_rx_stats;
      fsk_packet_status = d.fsk_packet_status;
      accepted = d.accepted;
      refused = d.refused;
      skipped = plus d.skipped 1;
      records = plus d.records 1;
    }

-- The port's own reading of an answer takes the place of the one before; one of another length is no reading.
abbrev pub heard_lora_rx_stats : Result LoraRxStatsRsp Refusal → Day → Day
heard_lora_rx_stats (Ok r) d =
    record {
      latest = d.latest;
      lora_rx_stats = Some r;
      lora_packet_status = d.lora_packet_status;
      fsk_rx_stats = d.fsk_rx_stats;
      fsk_packet_status = d.fsk_packet_status;
      accepted = d.accepted;
      refused = d.refused;
      skipped = d.skipped;
      records = plus d.records 1;
    }
heard_lora_rx_stats (Err x) d = missed d

abbrev pub heard_lora_packet_status : Result LoraPacketStatusRsp Refusal → Day → Day
heard_lora_packet_status (Ok r) d =
    record {
      latest = d.latest;
      lora_rx_stats = d.lora_rx_stats;
      lora_packet_status = Some r;
      fsk_rx_stats = d.fsk_rx_stats;
      fsk_packet_status = d.fsk_packet_status;
      accepted = d.accepted;
      refused = d.refused;
      skipped = d.skipped;
      records = plus d.records 1;
    }
heard_lora_packet_status (Err x) d = missed d

abbrev pub heard_fsk_rx_stats : Result FskRxStatsRsp Refusal → Day → Day
heard_fsk_rx_stats (Ok r) d =
    record {
      latest = d.latest;
      lora_rx_stats = d.lora_rx_stats;
      lora_packet_status = d.lora_packet_status;
      fsk_rx_stats = Some r;
      fsk_packet_status = d.fsk_packet_status;
      accepted = d.accepted;
      refused = d.refused;
      skipped = d.skipped;
      records = plus d.records 1;
    }
heard_fsk_rx_stats (Err x) d = missed d

abbrev pub heard_fsk_packet_status : Result FskPacketStatusRsp Refusal → Day → Day
heard_fsk_packet_status (Ok r) d =
    record {
      latest = d.latest;
      lora_rx_stats = d.lora_rx_stats;
      lora_packet_status = d.lora_packet_status;
      fsk_rx_stats = d.fsk_rx_stats;
      fsk_packet_status = Some r;
      accepted = d.accepted;
      refused = d.refused;
      skipped = d.skipped;
      records = plus d.records 1;
    }
heard_fsk_packet_status (Err x) d = missed d

-- An answer is read as that of the latest command, if it was one of the requests 9, 10, 22 and 23. It does not use the command up.
unfoldable pub on_received : List ℕ → Day → Day
on_received b d =
    cond (eqb d.latest 9) (heard_lora_rx_stats (lora_rx_stats_read b) d)
    (cond (eqb d.latest 10) (heard_lora_packet_status (lora_packet_status_read b) d)
    (cond (eqb d.latest 22) (heard_fsk_rx_stats (fsk_rx_stats_read b) d)
    (cond (eqb d.latest 23) (heard_fsk_packet_status (fsk_packet_status_read b) d)
    (missed d))))
