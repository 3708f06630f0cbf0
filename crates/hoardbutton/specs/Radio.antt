-- Status and responses as C has them: the fields of the library's structs, and zeros beside a refusal.
-- Assumes nothing.
use Rattle.std.specs.Prelude.{ℕ, false, ℤ, pos, Result, Ok, Err}
use Rattle.refusal.specs.declared.Refusal.{Refusal}
use Rattle.refusal.specs.Numbers.{number_of}
use Rattle.status.specs.Notation.{is_set}
use Rattle.status.specs.Codes.{cmd_code, reset_code, mode_code, good_cmd}
use Rattle.status.specs.Words.{cmd_in, reset_in, mode_in}
use Rattle.status.specs.declared.Status.{Status}
use Rattle.hoardbutton.specs.declared.radio.HbStatus.{HbStatus}
use Rattle.cmd_lora.specs.declared.rsp.LoraRxStatsRsp.{LoraRxStatsRsp}
use Rattle.hoardbutton.specs.declared.radio.HbLoraRxStats.{HbLoraRxStats}
use Rattle.cmd_lora.specs.declared.rsp.LoraPacketStatusRsp.{LoraPacketStatusRsp}
use Rattle.hoardbutton.specs.declared.radio.HbLoraPacketStatus.{HbLoraPacketStatus}
use Rattle.cmd_fsk.specs.declared.rsp.FskRxStatsRsp.{FskRxStatsRsp}
use Rattle.hoardbutton.specs.declared.radio.HbFskRxStats.{HbFskRxStats}
use Rattle.cmd_fsk.specs.declared.rsp.FskPacketStatusRsp.{FskPacketStatusRsp}
use Rattle.hoardbutton.specs.declared.radio.HbFskPacketStatus.{HbFskPacketStatus}
use Rattle.cmd_common.specs.declared.rsp.RssiInstRsp.{RssiInstRsp}
use Rattle.hoardbutton.specs.declared.radio.HbRssiInst.{HbRssiInst}
use Rattle.cmd_common.specs.declared.rsp.TimestampValueRsp.{TimestampValueRsp}
use Rattle.hoardbutton.specs.declared.radio.HbTimestampValue.{HbTimestampValue}
use Rattle.cmd_common.specs.declared.rsp.CcaResultRsp.{CcaResultRsp}
use Rattle.hoardbutton.specs.declared.radio.HbCcaResult.{HbCcaResult}

abbrev pub status_c : Status → HbStatus
status_c s =
    record {
      value = s.0;
      irq = is_set s.0 8;
      ok = good_cmd (cmd_in s.0);
      cmd = cmd_code (cmd_in s.0);
      reset_src = reset_code (reset_in s.0);
      chip_mode = mode_code (mode_in s.0);
    }

abbrev pub lora_rx_stats_none : ℕ → HbLoraRxStats
lora_rx_stats_none why = record { refusal = why; status = 0; pkt_rx = 0; crc_error = 0; header_error = 0; detection = 0; false_sync = 0 }

abbrev pub lora_rx_stats_c : Result LoraRxStatsRsp Refusal → HbLoraRxStats
lora_rx_stats_c (Ok r) =
    record {
      refusal = 0;
      status = r.status.0;
      pkt_rx = r.pkt_rx;
      crc_error = r.crc_error;
      header_error = r.header_error;
      detection = r.detection;
      false_sync = r.false_sync;
    }
lora_rx_stats_c (Err x) = lora_rx_stats_none (number_of x)

abbrev pub lora_packet_status_none : ℕ → HbLoraPacketStatus
lora_packet_status_none why = record { refusal = why; status = 0; crc = false; coding_rate = 0; pkt_length = 0; snr_pkt = pos 0; rssi_pkt = 0; rssi_signal_pkt = 0; detector = 0 }

-- the fields, with the count of quarter dB beside them
abbrev pub lora_packet_status_with : LoraPacketStatusRsp → ℤ → HbLoraPacketStatus
lora_packet_status_with r snr =
    record {
      refusal = 0;
      status = r.status.0;
      crc = r.crc;
      coding_rate = r.coding_rate;
      pkt_length = r.pkt_length;
      snr_pkt = snr;
      rssi_pkt = r.rssi_pkt.0;
      rssi_signal_pkt = r.rssi_signal_pkt.0;
      detector = r.detector;
    }

abbrev pub lora_packet_status_c : Result LoraPacketStatusRsp Refusal → HbLoraPacketStatus
lora_packet_status_c (Ok r) = lora_packet_status_with r r.snr_pkt.0
lora_packet_status_c (Err x) = lora_packet_status_none (number_of x)

abbrev pub fsk_rx_stats_none : ℕ → HbFskRxStats
fsk_rx_stats_none why = record { refusal = why; status = 0; pkt_rx = 0; crc_error = 0; len_error = 0; pbl_det = 0; sync_ok = 0; sync_fail = 0; timeout = 0 }

abbrev pub fsk_rx_stats_c : Result FskRxStatsRsp Refusal → HbFskRxStats
fsk_rx_stats_c (Ok r) =
    record {
      refusal = 0;
      status = r.status.0;
      pkt_rx = r.pkt_rx;
      crc_error = r.crc_error;
      len_error = r.len_error;
      pbl_det = r.pbl_det;
      sync_ok = r.sync_ok;
      sync_fail = r.sync_fail;
      timeout = r.timeout;
    }
fsk_rx_stats_c (Err x) = fsk_rx_stats_none (number_of x)

abbrev pub fsk_packet_status_none : ℕ → HbFskPacketStatus
fsk_packet_status_none why = record { refusal = why; status = 0; pkt_len = 0; rssi_avg = 0; rssi_sync = 0; addr_match_bcast = false; addr_match_node = false; lqi = 0 }

abbrev pub fsk_packet_status_c : Result FskPacketStatusRsp Refusal → HbFskPacketStatus
fsk_packet_status_c (Ok r) =
    record {
      refusal = 0;
      status = r.status.0;
      pkt_len = r.pkt_len;
      rssi_avg = r.rssi_avg.0;
      rssi_sync = r.rssi_sync.0;
      addr_match_bcast = r.addr_match_bcast;
      addr_match_node = r.addr_match_node;
      lqi = r.lqi;
    }
fsk_packet_status_c (Err x) = fsk_packet_status_none (number_of x)

abbrev pub rssi_inst_none : ℕ → HbRssiInst
rssi_inst_none why = record { refusal = why; status = 0; rssi = 0 }

abbrev pub rssi_inst_c : Result RssiInstRsp Refusal → HbRssiInst
rssi_inst_c (Ok r) = record { refusal = 0; status = r.status.0; rssi = r.rssi.0 }
rssi_inst_c (Err x) = rssi_inst_none (number_of x)

abbrev pub timestamp_value_none : ℕ → HbTimestampValue
timestamp_value_none why = record { refusal = why; status = 0; timestamp = 0 }

abbrev pub timestamp_value_c : Result TimestampValueRsp Refusal → HbTimestampValue
timestamp_value_c (Ok r) = record { refusal = 0; status = r.status.0; timestamp = r.timestamp }
timestamp_value_c (Err x) = timestamp_value_none (number_of x)

abbrev pub cca_result_none : ℕ → HbCcaResult
cca_result_none why = record { refusal = why; status = 0; rssi_min = 0; rssi_max = 0; rssi_avg = 0 }

abbrev pub cca_result_c : Result CcaResultRsp Refusal → HbCcaResult
cca_result_c (Ok r) = record { refusal = 0; status = r.status.0; rssi_min = r.rssi_min.0; rssi_max = r.rssi_max.0; rssi_avg = r.rssi_avg.0 }
cca_result_c (Err x) = cca_result_none (number_of x)
