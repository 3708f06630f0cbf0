-- What the program `profile` prints of a book behind its name, to the byte (REFERENCE, "Locker profile").
-- Assumes nothing.
use Rattle.std.specs.Prelude.{ℕ, List, [], ◌∷◌, get_or}
use Rattle.reading.specs.Decimal.{decimal}
use Rattle.texts.specs.Words.{word, line}
use Rattle.refusal.specs.Numbers.{number_of}
use Rattle.locker_profile.specs.Profile.{Answer, Broken, Refused, Yes}

-- no answer is longer, as proofs/Longest.antt shows
abbrev pub longest : ℕ
longest = 43

-- the rules' words, in the order in which the rules are told
abbrev pub rule_words : List (List ℕ)
rule_words =
    word "spreading_factor" ∷ word "width" ∷ word "rate" ∷ word "header" ∷ word "crc" ∷ word "syncword" ∷ word "optimisation" ∷ []

-- The word of a rule, counted from 1. A number that is no rule has the empty word; no book is answered by one, as proofs/Given.antt shows.
unfoldable pub rule_word : ℕ → List ℕ
rule_word n = get_or ([] ∷ rule_words) n []

-- yes; or the first broken rule, by its number and its word; or the number of the refusal, which has no place here
unfoldable pub answer_text : Answer → List ℕ
answer_text Yes = line (word "yes") []
answer_text (Broken n) = line (word "rule") (decimal n ∷ rule_word n ∷ [])
answer_text (Refused x) = line (word "refused") (decimal (number_of x) ∷ [])
