-- The text of a day's numbers, to the byte (REFERENCE, "Playback").
-- Assumes nothing.
use Rattle.std.specs.Prelude.{ℕ, zero, suc, Bool, cond, Option, None, Some, List, [], ◌∷◌, ◌++◌, ltb, get_or}
use Rattle.reading.specs.Decimal.{decimal}
use Rattle.reading.specs.Level.{rssi_text, snr_text}
use Rattle.texts.specs.Words.{word, line}
use Rattle.decoder.specs.Decoding.{decode}
use Rattle.dump_text.specs.Text.{line_of}
use Rattle.cmd_lora.specs.declared.rsp.LoraRxStatsRsp.{LoraRxStatsRsp}
use Rattle.cmd_lora.specs.declared.rsp.LoraPacketStatusRsp.{LoraPacketStatusRsp}
use Rattle.cmd_fsk.specs.declared.rsp.FskRxStatsRsp.{FskRxStatsRsp}
use Rattle.cmd_fsk.specs.declared.rsp.FskPacketStatusRsp.{FskPacketStatusRsp}
use Rattle.day.specs.declared.Day.{Day}

-- yes prints as 1, no as 0
abbrev pub flag : Bool → List ℕ
flag b = decimal (cond b 1 0)

-- ---- counts

-- a number by which no put was refused has no line
unfoldable pub refused_by : ℕ → ℕ → List ℕ
refused_by k n = cond (ltb 0 n) (line (word "refused") (decimal k ∷ decimal n ∷ [])) []

-- the lines of the numbers below k, ascending
unfoldable pub refused_below : ℕ → List ℕ → List ℕ
refused_below zero counts = []
refused_below (suc k) counts = refused_below k counts ++ refused_by k (get_or counts k 0)

-- records, accepted and skipped always have their line; puts are refused by the numbers 0 to 8
unfoldable pub counts_text : Day → List ℕ
counts_text d =
    line (word "records") (decimal d.records ∷ [])
    ++ line (word "accepted") (decimal d.accepted ∷ [])
    ++ refused_below 9 d.refused
    ++ line (word "skipped") (decimal d.skipped ∷ [])

-- ---- readings: their fields as the chip has them in order, each with its name before it; a request that was never answered has no line

abbrev pub lora_rx_stats_text : Option LoraRxStatsRsp → List ℕ
lora_rx_stats_text None = []
lora_rx_stats_text (Some r) =
    line (word "lora_rx_stats")
    (word "pkt_rx" ∷ decimal r.pkt_rx ∷ word "crc_error" ∷ decimal r.crc_error
    ∷ word "header_error" ∷ decimal r.header_error ∷ word "detection" ∷ decimal r.detection
    ∷ word "false_sync" ∷ decimal r.false_sync ∷ [])

abbrev pub lora_packet_status_text : Option LoraPacketStatusRsp → List ℕ
lora_packet_status_text None = []
lora_packet_status_text (Some r) =
    line (word "lora_packet_status")
    (word "crc" ∷ flag r.crc ∷ word "coding_rate" ∷ decimal r.coding_rate
    ∷ word "pkt_length" ∷ decimal r.pkt_length ∷ word "snr_pkt" ∷ snr_text r.snr_pkt.0
    ∷ word "rssi_pkt" ∷ rssi_text r.rssi_pkt.0 ∷ word "rssi_signal_pkt" ∷ rssi_text r.rssi_signal_pkt.0
    ∷ word "detector" ∷ decimal r.detector ∷ [])

abbrev pub fsk_rx_stats_text : Option FskRxStatsRsp → List ℕ
fsk_rx_stats_text None = []
fsk_rx_stats_text (Some r) =
    line (word "fsk_rx_stats")
    (word "pkt_rx" ∷ decimal r.pkt_rx ∷ word "crc_error" ∷ decimal r.crc_error
    ∷ word "len_error" ∷ decimal r.len_error ∷ word "pbl_det" ∷ decimal r.pbl_det
    ∷ word "sync_ok" ∷ decimal r.sync_ok ∷ word "sync_fail" ∷ decimal r.sync_fail
    ∷ word "timeout" ∷ decimal r.timeout ∷ [])

abbrev pub fsk_packet_status_text : Option FskPacketStatusRsp → List ℕ
fsk_packet_status_text None = []
fsk_packet_status_text (Some r) =
    line (word "fsk_packet_status")
    (word "pkt_len" ∷ decimal r.pkt_len ∷ word "rssi_avg" ∷ rssi_text r.rssi_avg.0
    ∷ word "rssi_sync" ∷ rssi_text r.rssi_sync.0 ∷ word "addr_match_bcast" ∷ flag r.addr_match_bcast
    ∷ word "addr_match_node" ∷ flag r.addr_match_node ∷ word "lqi" ∷ decimal r.lqi ∷ [])

-- ---- texts

-- a day's numbers: its counts, then the last readings
unfoldable pub numbers_text : Day → List ℕ
numbers_text d =
    counts_text d
    ++ lora_rx_stats_text d.lora_rx_stats
    ++ lora_packet_status_text d.lora_packet_status
    ++ fsk_rx_stats_text d.fsk_rx_stats
    ++ fsk_packet_status_text d.fsk_packet_status

-- a frame of the book: the line that it has in a dump, behind the word (REFERENCE, "Dump")
unfoldable pub frame_text : ℕ → List ℕ → List ℕ
frame_text index f = word "frame" ++ (32 ∷ line_of index (decode f))

-- where the trace has its fault, behind the number of that refusal, 15 (REFERENCE, "Refusals")
unfoldable pub stopped_text : ℕ → List ℕ
stopped_text place = line (word "stopped") (decimal 15 ∷ decimal place ∷ [])
