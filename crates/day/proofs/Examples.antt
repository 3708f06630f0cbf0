-- Two days computed from the specs (`stray-between`): a request with its answer, and with a command that does not decode between them.
-- Assumes nothing.
use mathlib.Core.Path.{◌≡◌, refl}
use mathlib.Core.List.{List, [], ◌∷◌}
use Prim.Native.Nat.{ℕ}
use Rattle.std.specs.Prelude.{Option, None, Some}
use Rattle.frame.specs.Field.{part, mask, read, read_to}
use Rattle.frame.specs.Layout.{tab, tab_from, byte_of, mask_of, reads}
use Rattle.table.specs.Number.{narrow_of, narrows_of}
use Rattle.table.specs.Codes.{lists, rx_bw_codes, is_in, takes}
use Rattle.table.specs.Laid.{find}
use Rattle.settings.specs.Settings.{slot_for, slot_of}
use Rattle.decoder.specs.Decoding.{stray, lacking, judged, known, sought, answered, decode}
use Rattle.book.specs.Plain.{put_on}
use Rattle.cmd_lora.specs.Responses.{lora_rx_stats_rsp}
use Rattle.cmd_lora.specs.declared.rsp.LoraRxStatsRsp.{LoraRxStatsRsp}
use Rattle.day.specs.declared.Day.{Day}
use Rattle.day.specs.Days.{accepted_one, bumped, fresh, missed, noted, on_received, plus, refused_one}
use Rattle.day.specs.Steps.{Record, day_on, morning, on_sent, received, sent}

-- what a day is shown by: the latest command, counts with the refusals by each number, and the last reading of request 9
record Seen : Type 0 where
  latest : ℕ
  counts : List ℕ
  reading : Option LoraRxStatsRsp

abbrev seen : Day → Seen
seen d = record { latest = d.latest; counts = d.records ∷ d.accepted ∷ d.skipped ∷ d.refused; reading = d.lora_rx_stats }

abbrev request : Record
request = sent (0x02 ∷ 0x29 ∷ [])

abbrev answer : List ℕ
answer = 0x04 ∷ 0x04 ∷ 0x00 ∷ 0x05 ∷ 0x00 ∷ 0x00 ∷ 0x00 ∷ 0x00 ∷ 0x00 ∷ 0x06 ∷ 0x00 ∷ 0x01 ∷ []

-- request 9 and its answer; and with a command of one byte between them, which is refused by 1 and is the latest: the answer is skipped
stray-between :
    (seen (day_on 169 (request ∷ received answer ∷ []) morning).day
    ≡ record { latest = 9; counts = 2 ∷ 0 ∷ 0 ∷ 0 ∷ 0 ∷ 0 ∷ 0 ∷ 0 ∷ 0 ∷ 0 ∷ 0 ∷ 0 ∷ []; reading = Some (lora_rx_stats_rsp answer) })
    × (seen (day_on 169 (request ∷ sent (0xFF ∷ []) ∷ received answer ∷ []) morning).day
    ≡ record { latest = 0; counts = 3 ∷ 0 ∷ 1 ∷ 0 ∷ 1 ∷ 0 ∷ 0 ∷ 0 ∷ 0 ∷ 0 ∷ 0 ∷ 0 ∷ []; reading = None })
unfolding day_on on_sent on_received noted accepted_one refused_one missed bumped plus fresh put_on slot_for slot_of part mask read read_to tab tab_from byte_of mask_of
    reads narrow_of narrows_of lists rx_bw_codes is_in takes find stray lacking judged known sought answered decode
stray-between = (refl, refl)
