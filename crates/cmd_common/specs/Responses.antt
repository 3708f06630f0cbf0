-- The responses to the common commands: where each field stands behind the status (REFERENCE, "Responses"). Another length is refused.
-- Assumes nothing.
use Rattle.std.specs.Prelude.{ℕ, cond, List, Result, Ok, Err, eqb, length}
use Rattle.status.specs.Notation.{wide, half}
use Rattle.status.specs.Words.{status_of}
use Rattle.refusal.specs.declared.Refusal.{Refusal}
use Rattle.refusal.specs.declared.Refusal.TheVariants.{ResponseLength}
use Rattle.cmd_common.specs.declared.rsp.RssiInstRsp.{RssiInstRsp}
use Rattle.cmd_common.specs.declared.rsp.TimestampValueRsp.{TimestampValueRsp}
use Rattle.cmd_common.specs.declared.rsp.CcaResultRsp.{CcaResultRsp}

-- four bytes
unfoldable pub rssi_inst_rsp : List ℕ → RssiInstRsp
rssi_inst_rsp b =
    record {
      status = status_of b;
      rssi = record { 0 = half b 2 3 0 };
    }

abbrev pub rssi_inst_read : List ℕ → Result RssiInstRsp Refusal
rssi_inst_read b = cond (eqb (length b) 4) (Ok (rssi_inst_rsp b)) (Err ResponseLength)

-- six bytes
unfoldable pub timestamp_value_rsp : List ℕ → TimestampValueRsp
timestamp_value_rsp b =
    record {
      status = status_of b;
      timestamp = wide b 2 5;
    }

abbrev pub timestamp_value_read : List ℕ → Result TimestampValueRsp Refusal
timestamp_value_read b = cond (eqb (length b) 6) (Ok (timestamp_value_rsp b)) (Err ResponseLength)

-- six bytes; the last bits of the three levels are in byte 5
unfoldable pub cca_result_rsp : List ℕ → CcaResultRsp
cca_result_rsp b =
    record {
      status = status_of b;
      rssi_min = record { 0 = half b 2 5 2 };
      rssi_max = record { 0 = half b 3 5 1 };
      rssi_avg = record { 0 = half b 4 5 0 };
    }

abbrev pub cca_result_read : List ℕ → Result CcaResultRsp Refusal
cca_result_read b = cond (eqb (length b) 6) (Ok (cca_result_rsp b)) (Err ResponseLength)
