-- A day as C has it: the refusal with its place, the counts, and the last readings, zeros where there is none (REFERENCE, "Playback").
-- Assumes nothing.
use Rattle.std.specs.Prelude.{ℕ, Option, None, Some, Ok, Err, is_some}
use Rattle.refusal.specs.Numbers.{number_of, place_of}
use Rattle.book.specs.Plain.{Answer}
use Rattle.cmd_lora.specs.declared.rsp.LoraRxStatsRsp.{LoraRxStatsRsp}
use Rattle.cmd_lora.specs.declared.rsp.LoraPacketStatusRsp.{LoraPacketStatusRsp}
use Rattle.cmd_fsk.specs.declared.rsp.FskRxStatsRsp.{FskRxStatsRsp}
use Rattle.cmd_fsk.specs.declared.rsp.FskPacketStatusRsp.{FskPacketStatusRsp}
use Rattle.playback.specs.declared.Played.{Played}
use Rattle.hoardbutton.specs.declared.radio.HbLoraRxStats.{HbLoraRxStats}
use Rattle.hoardbutton.specs.declared.radio.HbLoraPacketStatus.{HbLoraPacketStatus}
use Rattle.hoardbutton.specs.declared.radio.HbFskRxStats.{HbFskRxStats}
use Rattle.hoardbutton.specs.declared.radio.HbFskPacketStatus.{HbFskPacketStatus}
use Rattle.hoardbutton.specs.declared.plays.HbDay.{HbDay}
use Rattle.hoardbutton.specs.Radio.{fsk_packet_status_c, fsk_packet_status_none, fsk_rx_stats_c, fsk_rx_stats_none}
use Rattle.hoardbutton.specs.Radio.{lora_packet_status_c, lora_packet_status_none, lora_rx_stats_c, lora_rx_stats_none}

-- the refusal's number and its place; 0 where there is none
abbrev pub refusal_in : Answer → ℕ
refusal_in (Ok n) = 0
refusal_in (Err x) = number_of x

abbrev pub place_in : Answer → ℕ
place_in (Ok n) = 0
place_in (Err x) = place_of x

-- ---- the fields of the last readings

abbrev pub last_lora_rx_stats_c : Option LoraRxStatsRsp → HbLoraRxStats
last_lora_rx_stats_c None = lora_rx_stats_none 0
last_lora_rx_stats_c (Some r) = lora_rx_stats_c (Ok r)

abbrev pub last_lora_packet_status_c : Option LoraPacketStatusRsp → HbLoraPacketStatus
last_lora_packet_status_c None = lora_packet_status_none 0
last_lora_packet_status_c (Some r) = lora_packet_status_c (Ok r)

abbrev pub last_fsk_rx_stats_c : Option FskRxStatsRsp → HbFskRxStats
last_fsk_rx_stats_c None = fsk_rx_stats_none 0
last_fsk_rx_stats_c (Some r) = fsk_rx_stats_c (Ok r)

abbrev pub last_fsk_packet_status_c : Option FskPacketStatusRsp → HbFskPacketStatus
last_fsk_packet_status_c None = fsk_packet_status_none 0
last_fsk_packet_status_c (Some r) = fsk_packet_status_c (Ok r)

-- ---- the day

-- field by field; counts and place have 64 bits here too
abbrev pub day_c : Played → HbDay
day_c p =
    record {
      refusal = refusal_in p.answer;
      place = place_in p.answer;
      records = p.day.records;
      accepted = p.day.accepted;
      skipped = p.day.skipped;
      refused = p.day.refused;
      has_lora_rx_stats = is_some p.day.lora_rx_stats;
      has_lora_packet_status = is_some p.day.lora_packet_status;
      has_fsk_rx_stats = is_some p.day.fsk_rx_stats;
      has_fsk_packet_status = is_some p.day.fsk_packet_status;
      lora_rx_stats = last_lora_rx_stats_c p.day.lora_rx_stats;
      lora_packet_status = last_lora_packet_status_c p.day.lora_packet_status;
      fsk_rx_stats = last_fsk_rx_stats_c p.day.fsk_rx_stats;
      fsk_packet_status = last_fsk_packet_status_c p.day.fsk_packet_status;
    }
