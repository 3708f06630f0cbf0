-- The latest accepted frame of a setting, by nothing but the calls and what was heard of each: no book and no list (REFERENCE, "Book"). And the
-- profile by three of them (REFERENCE, "Locker profile").
-- Assumes nothing.
use Rattle.std.specs.Prelude.{ℕ, Bool, cond, false, true, ◌||◌, List, [], ◌∷◌, eqb, Ok, Err}
use Rattle.refusal.specs.declared.Refusal.TheVariants.{SettingMissing}
use Rattle.settings.specs.Settings.{slot_for, slot_of}
use Rattle.forms.specs.Forms.{other}
use Rattle.book.specs.Plain.{Answer}
use Rattle.book.specs.History.{Ask, Call, Clear, Heard, Make, Put, Remove, Replay}
use Rattle.locker_profile.specs.Profile as profile
use Rattle.locker_profile.specs.Profile.{answered, lora_of}

-- a setting's latest accepted frame; none where it was never put, or went since
pub data Latest : Type 0 where
  none : Latest
  latest : List ℕ → Latest

-- What a call that is done leaves of the slot s: a put of its frame is the latest; a put of its other form, its removal, a clear and a make leave
-- none; nothing else counts.
abbrev pub done_to : ℕ → Call → Latest → Latest
done_to s Make x = none
done_to s (Put f) x = cond (eqb (slot_of f) s) (latest f) (cond (eqb (other (slot_of f)) s) none x)
done_to s (Remove k) x = cond (eqb (slot_for k) s) none x
done_to s (Ask k o) x = x
done_to s Clear x = none
done_to s (Replay o) x = x

-- whether a call may change what is the latest of the slot s: a make, a clear, a put of either form, its removal
abbrev pub is_about : ℕ → Call → Bool
is_about s Make = true
is_about s (Put f) = eqb (slot_of f) s || eqb (other (slot_of f)) s
is_about s (Remove k) = eqb (slot_for k) s
is_about s (Ask k o) = false
is_about s Clear = true
is_about s (Replay o) = false

-- a refused call leaves what was
abbrev pub heard_to : ℕ → Call → Answer → Latest → Latest
heard_to s c (Ok n) x = done_to s c x
heard_to s c (Err why) x = x

-- after some calls, each with what was heard
unfoldable pub latest_after : ℕ → List Call → List Heard → Latest → Latest
latest_after s [] hs x = x
latest_after s (c ∷ cs) [] x = x
latest_after s (c ∷ cs) (h ∷ hs) x = latest_after s cs hs (heard_to s c h.answer x)

-- the profile by the latest frames of kinds 1, 2 and 4
abbrev pub answered_by : Latest → Latest → Latest → profile.Answer
answered_by (latest f) (latest g) (latest h) = answered (lora_of f g h)
answered_by none y z = profile.Refused SettingMissing
answered_by (latest f) none z = profile.Refused SettingMissing
answered_by (latest f) (latest g) none = profile.Refused SettingMissing
