-- Worked lists of frames, each with its answer. The first breaks every rule; from line to line the first broken rule is mended, so that every rule
-- is the first broken one once. Then symbols at the edge of 16 ms, and lists that lack a setting.
-- Assumes nothing.
use mathlib.Core.Path.{refl, ◌≡◌}
use mathlib.Core.List.{List, [], ◌∷◌}
use Prim.Native.Nat.{ℕ}
use Rattle.frame.specs.Field.{mask, part, read, read_to}
use Rattle.frame.specs.Layout.{byte_of, mask_of, reads, tab, tab_from}
use Rattle.table.specs.Codes.{is_in, lists, rx_bw_codes, takes}
use Rattle.table.specs.Laid.{find}
use Rattle.table.specs.Number.{narrow_of, narrows_of}
use Rattle.refusal.specs.declared.Refusal.TheVariants.{SettingMissing}
use Rattle.decoder.specs.Decoding.{answered, decode, judged, known, lacking, sought, stray}
use Rattle.settings.specs.Settings.{slot_for, slot_of}
use Rattle.contents.specs.Frames.{held}
use Rattle.book.specs.Plain.{frame_of}
use Rattle.locker_profile.specs.Profile.{Answer, Broken, Refused, Yes, lora_of, profile_of}
use Rattle.locker_profile.specs.Rules.{crc, due_for, first_broken, header, is_long, optimisation, rate, spreading_factor, syncword, width, width_in}

-- frames of kind 1, by spreading factor with width, and by rate with optimisation; of kind 2, by header, CRC and inversion; and of kind 4
abbrev modulation : ℕ → ℕ → List ℕ
modulation x y = 0x02 ∷ 0x20 ∷ x ∷ y ∷ []

abbrev packet : ℕ → List ℕ
packet x = 0x02 ∷ 0x21 ∷ 0x00 ∷ 0x08 ∷ 0x20 ∷ x ∷ []

abbrev sync : ℕ → List ℕ
sync x = 0x02 ∷ 0x23 ∷ x ∷ []

record Case : Type 0 where
  frames : List (List ℕ)
  answer : Answer

abbrev given : List (List ℕ) → Answer → Case
given fs a = record { frames = fs; answer = a }

abbrev answers : List Case → List Answer
answers [] = []
answers (c ∷ cs) = profile_of c.frames ∷ answers cs

abbrev expected : List Case → List Answer
expected [] = []
expected (c ∷ cs) = c.answer ∷ expected cs

abbrev cases : List Case
cases =
    -- Sf6, Bw500, no coding, implicit header, no CRC, syncword 0x34, optimisation on
    given (modulation 0x66 0x01 ∷ packet 0x04 ∷ sync 0x34 ∷ []) (Broken 1)
    -- Sf10
    ∷ given (modulation 0xA6 0x01 ∷ packet 0x04 ∷ sync 0x34 ∷ []) (Broken 2)
    -- Bw125
    ∷ given (modulation 0xA4 0x01 ∷ packet 0x04 ∷ sync 0x34 ∷ []) (Broken 3)
    -- Cr1Ham45Si
    ∷ given (modulation 0xA4 0x11 ∷ packet 0x04 ∷ sync 0x34 ∷ []) (Broken 4)
    -- explicit header
    ∷ given (modulation 0xA4 0x11 ∷ packet 0x00 ∷ sync 0x34 ∷ []) (Broken 5)
    -- CRC on
    ∷ given (modulation 0xA4 0x11 ∷ packet 0x02 ∷ sync 0x34 ∷ []) (Broken 6)
    -- syncword 0x12
    ∷ given (modulation 0xA4 0x11 ∷ packet 0x02 ∷ sync 0x12 ∷ []) (Broken 7)
    -- optimisation off
    ∷ given (modulation 0xA4 0x10 ∷ packet 0x02 ∷ sync 0x12 ∷ []) Yes
    -- 16.384 ms: Sf11 at 125 kHz and Sf12 at 250 kHz, with optimisation and without
    ∷ given (modulation 0xB4 0x11 ∷ packet 0x02 ∷ sync 0x12 ∷ []) Yes
    ∷ given (modulation 0xB4 0x10 ∷ packet 0x02 ∷ sync 0x12 ∷ []) (Broken 7)
    ∷ given (modulation 0xC5 0x41 ∷ packet 0x03 ∷ sync 0x12 ∷ []) Yes
    -- 8.192 ms: Sf11 at 250 kHz
    ∷ given (modulation 0xB5 0x11 ∷ packet 0x02 ∷ sync 0x12 ∷ []) (Broken 7)
    -- a setting that is missing comes before every rule
    ∷ given (modulation 0x66 0x01 ∷ packet 0x04 ∷ []) (Refused SettingMissing)
    ∷ given (packet 0x02 ∷ sync 0x12 ∷ []) (Refused SettingMissing)
    ∷ given [] (Refused SettingMissing)
    -- in another order, with a symbol timeout between
    ∷ given (sync 0x12 ∷ (0x02 ∷ 0x22 ∷ 0x08 ∷ 0x00 ∷ []) ∷ packet 0x02 ∷ modulation 0xA4 0x10 ∷ []) Yes
    ∷ []

examples : answers cases ≡ expected cases
unfolding profile_of lora_of first_broken spreading_factor width rate header crc syncword optimisation due_for is_long width_in frame_of held slot_of slot_for decode
    sought answered judged known stray lacking find takes is_in lists rx_bw_codes narrow_of narrows_of tab tab_from byte_of mask_of reads part mask read read_to
examples = refl
