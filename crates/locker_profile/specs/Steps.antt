-- What the source hands from step to step on its way to the answer of specs/Profile.antt: a setting's arguments as the decoder hands them over,
-- nine numbers of which those that the kind does not have are 0.
-- Assumes nothing.
use Rattle.std.specs.Prelude.{ℕ, ◌-◌, List, ◌++◌, cond, eqb, length, replicate, Result, Ok, Err}
use Rattle.refusal.specs.declared.Refusal.{Refusal}
use Rattle.refusal.specs.declared.Refusal.TheVariants.{SettingMissing}
use Rattle.refusal.specs.Numbers.{number_of}
use Rattle.decoder.specs.Decoding.{Reading, decode, reading, refuses}
use Rattle.settings.specs.Settings.{slot_for}
use Rattle.contents.specs.Frames.{held}
use Rattle.contents.specs.Contents.{Contents, holds, refused}
use Rattle.locker_profile.specs.Profile.{frame_for}

-- that a kind is not held is a missing setting here; the book's own refusals stay
abbrev pub missing_for : Refusal → Refusal
missing_for x = cond (eqb (number_of x) 9) SettingMissing x

-- a setting that cannot be had has no arguments
abbrev pub withheld : Refusal → Result (List ℕ) Refusal
withheld x = Err x

-- the nine numbers that the decoder hands over; none where it refuses
abbrev pub handed : Reading → List ℕ
handed (reading k vs) = vs ++ replicate (9 - length vs) 0
handed (refuses x) = replicate 9 0

-- one that is held has those of its frame
abbrev pub given : Reading → Result (List ℕ) Refusal
given r = Ok (handed r)

-- what a book, as the calls find it, says of a kind
abbrev pub asked_of : ℕ → Contents → Result (List ℕ) Refusal
asked_of k (refused x) = withheld x
asked_of k (holds fs) = cond (held (slot_for k) fs) (given (decode (frame_for k fs))) (withheld SettingMissing)
