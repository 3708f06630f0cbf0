-- The locker profile of a book (REFERENCE, "Locker profile"): whether it keeps the rules, by the frames of kinds 1, 2 and 4 that it holds.
-- Assumes nothing.
use Rattle.std.specs.Prelude.{ℕ, Bool, cond, ◌&&◌, List, [], get_or, Option, None, Some, Result, Ok, Err}
use Rattle.refusal.specs.declared.Refusal.{Refusal}
use Rattle.refusal.specs.declared.Refusal.TheVariants.{SettingMissing}
use Rattle.decoder.specs.Decoding.{Reading, decode, reading, refuses}
use Rattle.settings.specs.Settings.{slot_for}
use Rattle.contents.specs.Frames.{held}
use Rattle.contents.specs.Contents.{Contents, holds, refused}
use Rattle.book.specs.Plain.{frame_of}
use Rattle.book.specs.Book.{Read, opened_for}
use Rattle.locker_profile.specs.declared.Lora.{Lora}
use Rattle.locker_profile.specs.Rules.{first_broken, rules}

-- ---- what the three frames say

-- the seven arguments that count, in lists of the arguments of kinds 1, 2 and 4 (REFERENCE, "Commands")
abbrev pub lora_from : List ℕ → List ℕ → List ℕ → Lora
lora_from modulation packet sync =
    record {
      sf = get_or modulation 0 0;
      lora_bw = get_or modulation 1 0;
      lora_cr = get_or modulation 2 0;
      ldro = get_or modulation 3 0;
      header_type = get_or packet 2 0;
      crc_en = get_or packet 3 0;
      syncword = get_or sync 0 0;
    }

-- what a frame says, by the decoder's answer
abbrev pub arguments_of : Reading → List ℕ
arguments_of (reading k vs) = vs
arguments_of (refuses x) = []

-- and so in a frame of each of the three kinds
unfoldable pub lora_of : List ℕ → List ℕ → List ℕ → Lora
lora_of modulation packet sync =
    lora_from (arguments_of (decode modulation)) (arguments_of (decode packet)) (arguments_of (decode sync))

-- a kind's frame in a list
abbrev pub frame_for : ℕ → List (List ℕ) → List ℕ
frame_for k fs = frame_of (slot_for k) fs

-- and so in a list, where it holds all three
abbrev pub lora_in : List (List ℕ) → Lora
lora_in fs = lora_of (frame_for 1 fs) (frame_for 2 fs) (frame_for 4 fs)

-- ---- the answer

-- all rules are kept; or the first broken one, counted from 1; or why the book cannot be judged
abbrev pub Answer : Type 0
Answer = Result (Option ℕ) Refusal

pattern abbrev pub Yes : Answer
Yes = Ok None

pattern abbrev pub Broken : ℕ → Answer
Broken n = Ok (Some n)

pattern abbrev pub Refused : Refusal → Answer
Refused x = Err x

-- what the rules say of seven arguments: the first that is broken, or none
abbrev pub answered : Lora → Answer
answered x = Ok (first_broken 1 rules x)

-- all three kinds are held
abbrev pub holds_all : List (List ℕ) → Bool
holds_all fs = held (slot_for 1) fs && (held (slot_for 2) fs && held (slot_for 4) fs)

-- a missing setting is told before any rule
unfoldable pub profile_of : List (List ℕ) → Answer
profile_of fs = cond (holds_all fs) (answered (lora_in fs)) (Refused SettingMissing)

-- for a book as the calls find it: its own refusals come first
abbrev pub profiled : Contents → Answer
profiled (refused x) = Refused x
profiled (holds fs) = profile_of fs

-- The answer for the bytes of a book.
abbrev pub answer_for : List ℕ → Answer
answer_for b = profiled (opened_for Read b)
