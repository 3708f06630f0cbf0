-- Traces computed from the specs.
--     bank-day       a bank's day: two settings, a frame with a stray bit, each of the four requests with its answer, an answer to none, and a record
--                    that breaks off, at the place that is told (`bank-fault`)
--     astray-day     a command that does not decode, between a request and its answer: the answer is skipped
--     trace-faults   headers and records that just fit or do not, and what is told of them
-- Assumes nothing.
use mathlib.Core.Path.{◌≡◌, refl}
use mathlib.Core.Bool.{cond, false}
use mathlib.Core.List.{List, [], ◌∷◌}
use mathlib.Core.Option.{Option, none, some}
use Prim.Native.Nat.{ℕ}
use lib.IntN.{nat_abs}
use lib.ListN.{replicate}
use Rattle.std.specs.Prelude.{Option as Last, None, Some}
use Rattle.refusal.specs.declared.Refusal.TheVariants.{TraceFault}
use Rattle.frame.specs.Field.{part, mask, read, read_to, sound}
use Rattle.frame.specs.Layout.{put, tab, tab_from, byte_of, mask_of, reads}
use Rattle.table.specs.Number.{plain_of, narrow_of, narrows_of}
use Rattle.table.specs.Codes.{lists, rx_bw_codes, is_in, takes}
use Rattle.table.specs.Laid.{find}
use Rattle.settings.specs.Settings.{slot_for, slot_of}
use Rattle.contents.specs.Contents.{word_at}
use Rattle.contents.specs.Frames.{flat, held}
use Rattle.decoder.specs.Decoding.{stray, lacking, judged, known, sought, answered, decode}
use Rattle.forms.specs.Forms.{other, other_in}
use Rattle.std.specs.Prelude.{Ok, Err}
use Rattle.book.specs.Plain.{placed, put_on, seat, swap_in, Answer}
use Rattle.book.specs.Book.{made}
use Rattle.cmd_lora.specs.declared.rsp.LoraRxStatsRsp.{LoraRxStatsRsp}
use Rattle.cmd_lora.specs.declared.rsp.LoraPacketStatusRsp.{LoraPacketStatusRsp}
use Rattle.cmd_fsk.specs.declared.rsp.FskRxStatsRsp.{FskRxStatsRsp}
use Rattle.cmd_fsk.specs.declared.rsp.FskPacketStatusRsp.{FskPacketStatusRsp}
use Rattle.cmd_lora.specs.Responses.{lora_packet_status_rsp, lora_rx_stats_rsp, snr}
use Rattle.cmd_fsk.specs.Responses.{fsk_packet_status_rsp, fsk_rx_stats_rsp}
use Rattle.day.specs.Days.{accepted_one, bumped, fresh, missed, noted, on_received, plus, refused_one}
use Rattle.day.specs.Steps.{day_on, morning, on_sent}
use Rattle.playback.specs.declared.Stage.TheVariants.{Header}
use Rattle.playback.specs.Trace.{fits, headed, record_at, records_from, traced}
use Rattle.playback.specs.Plays.{Run, plays, run_in}
use Rattle.playback.specs.Parts.{ended, pass_from, pass_gap, pass_header, pass_records}

abbrev bank : List ℕ
bank =
    0x00 ∷ 0x0D ∷ 0x00 ∷ 0x04 ∷ 0x00 ∷ 0x03 ∷ 0x02 ∷ 0x23 ∷ 0x34 ∷ 0x00 ∷ 0x06 ∷ 0x02 ∷ 0x00 ∷ 0x33 ∷ 0xBE ∷ 0x27 ∷ 0xA0 ∷ 0x00 ∷ 0x04 ∷ 0x02 ∷ 0x22 ∷ 0x05 ∷ 0x02
    ∷ 0x00 ∷ 0x02 ∷ 0x02 ∷ 0x29 ∷ 0x01 ∷ 0x0C ∷ 0x04 ∷ 0x04 ∷ 0x00 ∷ 0x05 ∷ 0x00 ∷ 0x00 ∷ 0x00 ∷ 0x00 ∷ 0x00 ∷ 0x06 ∷ 0x00 ∷ 0x01 ∷ 0x00 ∷ 0x02 ∷ 0x02 ∷ 0x2A ∷ 0x01 ∷ 0x08
    ∷ 0x04 ∷ 0x04 ∷ 0x11 ∷ 0x18 ∷ 0xF9 ∷ 0x5A ∷ 0x5B ∷ 0x06 ∷ 0x00 ∷ 0x02 ∷ 0x02 ∷ 0x46 ∷ 0x01 ∷ 0x10 ∷ 0x04 ∷ 0x04 ∷ 0x00 ∷ 0x01 ∷ 0x00 ∷ 0x00 ∷ 0x00 ∷ 0x00 ∷ 0x00 ∷ 0x02
    ∷ 0x00 ∷ 0x01 ∷ 0x00 ∷ 0x00 ∷ 0x00 ∷ 0x00 ∷ 0x00 ∷ 0x02 ∷ 0x02 ∷ 0x47 ∷ 0x01 ∷ 0x08 ∷ 0x04 ∷ 0x04 ∷ 0x00 ∷ 0x03 ∷ 0x3C ∷ 0x3C ∷ 0x11 ∷ 0x0C ∷ 0x01 ∷ 0x03 ∷ 0x01 ∷ 0x02
    ∷ 0x03 ∷ 0x02 ∷ 0x00 ∷ []

-- what the day is shown by: counts, the numbers of each last reading, the final list, and the place of the fault
record Seen : Type 0 where
  counts : List ℕ
  readings : List (List ℕ)
  frames : List (List ℕ)
  stop : Option ℕ

lora-rx-stats : Last LoraRxStatsRsp → List ℕ
lora-rx-stats None = []
lora-rx-stats (Some r) = r.pkt_rx ∷ r.crc_error ∷ r.header_error ∷ r.detection ∷ r.false_sync ∷ []

lora-packet-status : Last LoraPacketStatusRsp → List ℕ
lora-packet-status None = []
lora-packet-status (Some r) =
    cond r.crc 1 0 ∷ r.coding_rate ∷ r.pkt_length ∷ nat_abs r.snr_pkt.0 ∷ r.rssi_pkt.0 ∷ r.rssi_signal_pkt.0 ∷ r.detector ∷ []

fsk-rx-stats : Last FskRxStatsRsp → List ℕ
fsk-rx-stats None = []
fsk-rx-stats (Some r) =
    r.pkt_rx ∷ r.crc_error ∷ r.len_error ∷ r.pbl_det ∷ r.sync_ok ∷ r.sync_fail ∷ r.timeout ∷ []

fsk-packet-status : Last FskPacketStatusRsp → List ℕ
fsk-packet-status None = []
fsk-packet-status (Some r) =
    r.pkt_len ∷ r.rssi_avg.0 ∷ r.rssi_sync.0 ∷ cond r.addr_match_bcast 1 0 ∷ cond r.addr_match_node 1 0 ∷ r.lqi ∷ []

abbrev seen : Run → Seen
seen r =
    record {
      counts = r.state.day.records ∷ r.state.day.accepted ∷ r.state.day.skipped ∷ r.state.day.refused;
      readings =
          lora-rx-stats r.state.day.lora_rx_stats
          ∷ lora-packet-status r.state.day.lora_packet_status
          ∷ fsk-rx-stats r.state.day.fsk_rx_stats
          ∷ fsk-packet-status r.state.day.fsk_packet_status
          ∷ [];
      frames = r.state.frames;
      stop = r.stop;
    }

-- twelve records, two puts accepted and one refused by 4, one answer skipped; the LoRa packet came with -1.75 dB, -90.5 and -91.0 dBm;
-- settings 4 and 24 are held; the fault is at byte 96
bank-day : seen (run_in 4034 bank)
    ≡ record {
      counts = 12 ∷ 2 ∷ 1 ∷ 0 ∷ 0 ∷ 0 ∷ 0 ∷ 1 ∷ 0 ∷ 0 ∷ 0 ∷ 0 ∷ [];
      readings =
          (5 ∷ 0 ∷ 0 ∷ 6 ∷ 1 ∷ [])
          ∷ (1 ∷ 1 ∷ 24 ∷ 7 ∷ 181 ∷ 182 ∷ 1 ∷ [])
          ∷ (1 ∷ 0 ∷ 0 ∷ 2 ∷ 1 ∷ 0 ∷ 0 ∷ [])
          ∷ (3 ∷ 120 ∷ 121 ∷ 0 ∷ 1 ∷ 12 ∷ [])
          ∷ [];
      frames = (0x02 ∷ 0x23 ∷ 0x34 ∷ []) ∷ (0x02 ∷ 0x00 ∷ 0x33 ∷ 0xBE ∷ 0x27 ∷ 0xA0 ∷ []) ∷ [];
      stop = some 96;
    }
unfolding run_in traced headed records_from record_at fits word_at day_on on_sent on_received noted accepted_one refused_one missed bumped plus fresh put_on placed seat other other_in swap_in flat held slot_for slot_of part mask read read_to sound put tab tab_from byte_of mask_of reads plain_of narrow_of narrows_of lists rx_bw_codes is_in takes find stray lacking judged known sought answered decode lora-rx-stats lora-packet-status fsk-rx-stats fsk-packet-status lora_rx_stats_rsp lora_packet_status_rsp fsk_rx_stats_rsp fsk_packet_status_rsp snr
bank-day = refl

-- its place, told of the whole trace and by the cursor of a pass over it
bank-fault :
    ((plays bank (replicate 231 0)).played.answer ≡ Err (TraceFault 96))
    × ((ended (record { stage = (pass_from false 169 Header bank morning).stage; day = fresh })).answer ≡ Err (TraceFault 96))
unfolding plays made run_in traced headed records_from record_at fits word_at pass_from pass_header pass_gap pass_records plus
bank-fault = (refl, refl)

-- ---- a command that does not decode

-- request 9, a command of one byte, and an answer of 12
abbrev astray : List ℕ
astray =
    0x00 ∷ 0x03 ∷ 0x00 ∷ 0x04
    ∷ 0x00 ∷ 0x02 ∷ 0x02 ∷ 0x29
    ∷ 0x00 ∷ 0x01 ∷ 0xFF
    ∷ 0x01 ∷ 0x0C ∷ 0x04 ∷ 0x04 ∷ 0x00 ∷ 0x05 ∷ 0x00 ∷ 0x00 ∷ 0x00 ∷ 0x00 ∷ 0x00 ∷ 0x06 ∷ 0x00 ∷ 0x01 ∷ []

-- the command is refused by 1, and is the latest: the answer is skipped
astray-day : seen (run_in 4034 astray)
    ≡ record { counts = 3 ∷ 0 ∷ 1 ∷ 0 ∷ 1 ∷ 0 ∷ 0 ∷ 0 ∷ 0 ∷ 0 ∷ 0 ∷ 0 ∷ []; readings = [] ∷ [] ∷ [] ∷ [] ∷ []; frames = []; stop = none }
unfolding run_in traced headed records_from record_at fits word_at day_on on_sent on_received noted refused_one missed bumped plus fresh put_on slot_for slot_of part
    mask read read_to tab tab_from byte_of mask_of reads narrow_of narrows_of lists rx_bw_codes is_in takes find stray lacking judged known sought answered decode
    lora-rx-stats lora-packet-status fsk-rx-stats fsk-packet-status
astray-day = refl

-- ---- what fits a trace

record Case : Type 0 where
  trace : List ℕ
  answer : Answer

abbrev given : List ℕ → Answer → Case
given t a = record { trace = t; answer = a }

abbrev answers : List Case → List Answer
answers [] = []
answers (c ∷ cs) = (plays c.trace (replicate 62 0)).played.answer ∷ answers cs

abbrev expected : List Case → List Answer
expected [] = []
expected (c ∷ cs) = c.answer ∷ expected cs

abbrev cases : List Case
cases =
    -- a header that is cut
    given [] (Err (TraceFault 0))
    ∷ given (0x00 ∷ 0x00 ∷ 0x00 ∷ []) (Err (TraceFault 0))
    -- no record, and a first offset of 4, of 3 and past the end
    ∷ given (0x00 ∷ 0x00 ∷ 0x00 ∷ 0x04 ∷ []) (Ok 0)
    ∷ given (0x00 ∷ 0x00 ∷ 0x00 ∷ 0x03 ∷ []) (Err (TraceFault 0))
    ∷ given (0x00 ∷ 0x00 ∷ 0x01 ∷ 0x00 ∷ []) (Ok 0)
    -- one record, past the end
    ∷ given (0x00 ∷ 0x01 ∷ 0x01 ∷ 0x00 ∷ []) (Err (TraceFault 256))
    -- one of direction 0, 1 and 2, and without its length
    ∷ given (0x00 ∷ 0x01 ∷ 0x00 ∷ 0x04 ∷ 0x00 ∷ 0x00 ∷ []) (Ok 0)
    ∷ given (0x00 ∷ 0x01 ∷ 0x00 ∷ 0x04 ∷ 0x01 ∷ 0x00 ∷ []) (Ok 0)
    ∷ given (0x00 ∷ 0x01 ∷ 0x00 ∷ 0x04 ∷ 0x02 ∷ 0x00 ∷ []) (Err (TraceFault 4))
    ∷ given (0x00 ∷ 0x01 ∷ 0x00 ∷ 0x04 ∷ 0x01 ∷ []) (Err (TraceFault 4))
    -- the same behind a gap of a byte, and without its last byte
    ∷ given (0x00 ∷ 0x01 ∷ 0x00 ∷ 0x05 ∷ 0x02 ∷ 0x01 ∷ 0x01 ∷ 0xFF ∷ []) (Ok 0)
    ∷ given (0x00 ∷ 0x01 ∷ 0x00 ∷ 0x05 ∷ 0x02 ∷ 0x01 ∷ 0x01 ∷ []) (Err (TraceFault 5))
    -- two records, of which the second has direction 2; and where one is counted
    ∷ given (0x00 ∷ 0x02 ∷ 0x00 ∷ 0x04 ∷ 0x01 ∷ 0x01 ∷ 0xFF ∷ 0x02 ∷ 0x00 ∷ []) (Err (TraceFault 7))
    ∷ given (0x00 ∷ 0x01 ∷ 0x00 ∷ 0x04 ∷ 0x01 ∷ 0x01 ∷ 0xFF ∷ 0x02 ∷ 0x00 ∷ []) (Ok 0)
    ∷ []

trace-faults : answers cases ≡ expected cases
unfolding plays made run_in traced headed records_from record_at fits word_at
trace-faults = refl
