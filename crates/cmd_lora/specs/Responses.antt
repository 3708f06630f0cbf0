-- The responses to the LoRa commands: where each field stands behind the status (REFERENCE, "Responses"). Another length is refused.
-- Assumes nothing.
use Rattle.std.specs.Prelude.{ℕ, cond, List, Result, Ok, Err, eqb, length}
use Rattle.status.specs.Notation.{byte, wide, bits, bit, half}
use Rattle.status.specs.Words.{status_of}
use Rattle.reading.specs.Level.{signed_of}
use Rattle.reading.specs.declared.QuarterDb.{QuarterDb}
use Rattle.refusal.specs.declared.Refusal.{Refusal}
use Rattle.refusal.specs.declared.Refusal.TheVariants.{ResponseLength}
use Rattle.cmd_lora.specs.declared.rsp.LoraRxStatsRsp.{LoraRxStatsRsp}
use Rattle.cmd_lora.specs.declared.rsp.LoraPacketStatusRsp.{LoraPacketStatusRsp}

-- a byte in two's complement
unfoldable pub snr : ℕ → QuarterDb
snr b = record { 0 = signed_of b }

-- twelve bytes: five counts of 16 bits
unfoldable pub lora_rx_stats_rsp : List ℕ → LoraRxStatsRsp
lora_rx_stats_rsp b =
    record {
      status = status_of b;
      pkt_rx = wide b 2 3;
      crc_error = wide b 4 5;
      header_error = wide b 6 7;
      detection = wide b 8 9;
      false_sync = wide b 10 11;
    }

abbrev pub lora_rx_stats_read : List ℕ → Result LoraRxStatsRsp Refusal
lora_rx_stats_read b = cond (eqb (length b) 12) (Ok (lora_rx_stats_rsp b)) (Err ResponseLength)

-- eight bytes; the last bits of both levels are in byte 7
unfoldable pub lora_packet_status_rsp : List ℕ → LoraPacketStatusRsp
lora_packet_status_rsp b =
    record {
      status = status_of b;
      crc = bit b 2 4;
      coding_rate = bits b 2 3 0;
      pkt_length = byte b 3;
      snr_pkt = snr (byte b 4);
      rssi_pkt = record { 0 = half b 5 7 1 };
      rssi_signal_pkt = record { 0 = half b 6 7 0 };
      detector = bits b 7 5 2;
    }

abbrev pub lora_packet_status_read : List ℕ → Result LoraPacketStatusRsp Refusal
lora_packet_status_read b = cond (eqb (length b) 8) (Ok (lora_packet_status_rsp b)) (Err ResponseLength)
