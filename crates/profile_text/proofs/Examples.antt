-- Worked examples: every answer that a book can get, and what is printed of it, as one list of cases with one claim, proved by computing.
-- Assumes nothing.
use mathlib.Core.Path.{◌≡◌, refl}
use mathlib.Core.List.{List, [], ◌∷◌, map}
use Prim.Native.String.{String}
use Rattle.reading.specs.Decimal.{decimal, digits}
use Rattle.texts.specs.Words.{word, line, spaced}
use Rattle.refusal.specs.declared.Refusal.TheVariants.{BothForms, BufferSize, NotWellFormed, SettingMissing}
use Rattle.locker_profile.specs.Profile.{Answer, Broken, Refused, Yes}
use Rattle.profile_text.specs.Text.{answer_text, rule_word}

-- a case: an answer, and what is printed
pub record Case : Type 0 where
  pub answer : Answer
  pub prints : String

abbrev case : Answer → String → Case
case a p = record { answer = a; prints = p }

unfoldable pub cases : List Case
cases =
    case Yes "yes\n"
    ∷ case (Broken 1) "rule 1 spreading_factor\n"
    ∷ case (Broken 2) "rule 2 width\n"
    ∷ case (Broken 3) "rule 3 rate\n"
    ∷ case (Broken 4) "rule 4 header\n"
    ∷ case (Broken 5) "rule 5 crc\n"
    ∷ case (Broken 6) "rule 6 syncword\n"
    ∷ case (Broken 7) "rule 7 optimisation\n"
    ∷ case (Refused BufferSize) "refused 11\n"
    ∷ case (Refused NotWellFormed) "refused 10\n"
    ∷ case (Refused BothForms) "refused 16\n"
    ∷ case (Refused SettingMissing) "refused 22\n"
    ∷ []

pub examples : map (λ (c : Case). answer_text c.answer) cases ≡ map (λ (c : Case). word c.prints) cases
unfolding cases answer_text rule_word line spaced decimal digits
examples = refl
