-- The responses to the FSK commands: where each field stands behind the status (REFERENCE, "Responses"). Another length is refused.
-- Assumes nothing.
use Rattle.std.specs.Prelude.{ℕ, cond, List, Result, Ok, Err, eqb, length}
use Rattle.status.specs.Notation.{byte, wide, bit, half}
use Rattle.status.specs.Words.{status_of}
use Rattle.refusal.specs.declared.Refusal.{Refusal}
use Rattle.refusal.specs.declared.Refusal.TheVariants.{ResponseLength}
use Rattle.cmd_fsk.specs.declared.rsp.FskRxStatsRsp.{FskRxStatsRsp}
use Rattle.cmd_fsk.specs.declared.rsp.FskPacketStatusRsp.{FskPacketStatusRsp}

-- sixteen bytes: seven counts of 16 bits
unfoldable pub fsk_rx_stats_rsp : List ℕ → FskRxStatsRsp
fsk_rx_stats_rsp b =
    record {
      status = status_of b;
      pkt_rx = wide b 2 3;
      crc_error = wide b 4 5;
      len_error = wide b 6 7;
      pbl_det = wide b 8 9;
      sync_ok = wide b 10 11;
      sync_fail = wide b 12 13;
      timeout = wide b 14 15;
    }

abbrev pub fsk_rx_stats_read : List ℕ → Result FskRxStatsRsp Refusal
fsk_rx_stats_read b = cond (eqb (length b) 16) (Ok (fsk_rx_stats_rsp b)) (Err ResponseLength)

-- eight bytes; the last bits of both levels are in byte 6, beside the matches
unfoldable pub fsk_packet_status_rsp : List ℕ → FskPacketStatusRsp
fsk_packet_status_rsp b =
    record {
      status = status_of b;
      pkt_len = wide b 2 3;
      rssi_avg = record { 0 = half b 4 6 2 };
      rssi_sync = record { 0 = half b 5 6 0 };
      addr_match_bcast = bit b 6 5;
      addr_match_node = bit b 6 4;
      lqi = byte b 7;
    }

abbrev pub fsk_packet_status_read : List ℕ → Result FskPacketStatusRsp Refusal
fsk_packet_status_read b = cond (eqb (length b) 8) (Ok (fsk_packet_status_rsp b)) (Err ResponseLength)
