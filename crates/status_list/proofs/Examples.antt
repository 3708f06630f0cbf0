-- Worked examples: the words of texts (`texts`), what words say (`said`), and what is found from places on (`places`), each as one list of cases with one
-- claim, proved by computing.
-- Assumes nothing.
use mathlib.Core.Path.{◌≡◌, refl}
use mathlib.Core.Bool.{Bool, false, true}
use mathlib.Core.List.{List, [], ◌∷◌, ◌++◌, map}
use Prim.Native.Nat.{ℕ}
use Prim.Native.String.{String}
use Rattle.texts.specs.Words.{word}
use Rattle.std.specs.Prelude.{None, Ok, Option, Result}
use Rattle.status_list.specs.declared.Found.{Found}
use Rattle.status_list.specs.declared.Wrong.{Wrong}
use Rattle.status_list.specs.Words.{Word, all_digits, begins, between, digit_of, in_comment, is_blank, is_status, status_in, word_of, words_from, words_in}
use Rattle.status_list.specs.Found.{found_at, line_of, newlines_in, status_found, words_at, wrong_found}

-- ---- the words of texts

pub record Case : Type 0 where
  pub text : List ℕ
  pub words : List Word

abbrev case : List ℕ → List Word → Case
case t ws = record { text = t; words = ws }

-- a word by its line, its place and its bytes
abbrev at : ℕ → ℕ → String → Word
at line start w = record { line = line; start = start; bytes = word w }

-- two words with this byte between them
abbrev apart : ℕ → List ℕ
apart b = word "0404" ++ (b ∷ word "0405")

unfoldable pub cases : List Case
cases =
    case [] []
    ∷ case (word "0404 0405\n0600\n") (at 1 0 "0404" ∷ at 1 5 "0405" ∷ at 2 10 "0600" ∷ [])
    -- an empty line, and a word at the end without a newline
    ∷ case (word "\n\n0404") (at 3 2 "0404" ∷ [])
    -- white space is 9 to 13 and 32, and nothing beside them
    ∷ case (apart 8) (record { line = 1; start = 0; bytes = apart 8 } ∷ [])
    ∷ case (apart 9) (at 1 0 "0404" ∷ at 1 5 "0405" ∷ [])
    ∷ case (apart 10) (at 1 0 "0404" ∷ at 2 5 "0405" ∷ [])
    ∷ case (apart 11) (at 1 0 "0404" ∷ at 1 5 "0405" ∷ [])
    ∷ case (apart 12) (at 1 0 "0404" ∷ at 1 5 "0405" ∷ [])
    ∷ case (apart 13) (at 1 0 "0404" ∷ at 1 5 "0405" ∷ [])
    ∷ case (apart 14) (record { line = 1; start = 0; bytes = apart 14 } ∷ [])
    ∷ case (apart 32) (at 1 0 "0404" ∷ at 1 5 "0405" ∷ [])
    -- lines that end in a carriage return and a newline
    ∷ case (word "0404\r\n0405\r\n") (at 1 0 "0404" ∷ at 2 6 "0405" ∷ [])
    -- '#' skips its line where it is the first byte of it, and there alone
    ∷ case (word "# 0404\n0405 # 0406\n #0407\n") (at 2 7 "0405" ∷ at 2 12 "#" ∷ at 2 14 "0406" ∷ at 3 20 "#0407" ∷ [])
    ∷ case (word "0404 #") (at 1 0 "0404" ∷ at 1 5 "#" ∷ [])
    ∷ case (word " # x") (at 1 1 "#" ∷ at 1 3 "x" ∷ [])
    ∷ case (word "#0404\r#0405\n#\n\n0406") (at 4 15 "0406" ∷ [])
    ∷ case (word "0404\n# the end") (at 1 0 "0404" ∷ [])
    ∷ []

pub texts : map (λ (c : Case). words_in c.text) cases ≡ map (λ (c : Case). c.words) cases
unfolding cases words_in words_from begins in_comment is_blank between word_of
texts = refl

-- ---- what words say

pub record Saying : Type 0 where
  pub bytes : String
  pub status : Bool
  pub says : List ℕ

abbrev says : String → List ℕ → Saying
says w s = record { bytes = w; status = true; says = s }

unfoldable pub sayings : List Saying
sayings =
    says "0404" (4 ∷ 4 ∷ [])
    ∷ says "0123" (1 ∷ 35 ∷ [])
    ∷ says "4567" (69 ∷ 103 ∷ [])
    ∷ says "89ab" (137 ∷ 171 ∷ [])
    ∷ says "cdef" (205 ∷ 239 ∷ [])
    ∷ says "89AB" (137 ∷ 171 ∷ [])
    ∷ says "CDEF" (205 ∷ 239 ∷ [])
    ∷ says "fFfF" (255 ∷ 255 ∷ [])
    ∷ []

pub said : map (λ (s : Saying). record { bytes = s.bytes; status = is_status (word s.bytes); says = status_in (word s.bytes) }) sayings ≡ sayings
unfolding sayings all_digits digit_of between
said = refl

-- too short, too long, a sign, and the bytes beside the digits: '/' and ':', '@' and 'G', '`' and 'g'
unfoldable pub none : List String
none = "" ∷ "404" ∷ "04040" ∷ "0x04" ∷ "+404" ∷ "04/4" ∷ "04:4" ∷ "@404" ∷ "04G4" ∷ "040`" ∷ "g404" ∷ []

abbrev no : String → Bool
no w = false

pub none_said : map (λ (w : String). is_status (word w)) none ≡ map no none
unfolding none all_digits digit_of between
none_said = refl

-- ---- from places on

-- of the text that wants most: a comment, a status in either case, a sign in the midst of a line
abbrev sample : List ℕ
sample = word "#1\n040a 04G4\n# 2\n0A04 #\n"

unfoldable pub found : List (Result (Option Found) Wrong)
found =
    found_at sample 0 ∷ found_at sample 3 ∷ found_at sample 4 ∷ found_at sample 7 ∷ found_at sample 12 ∷ found_at sample 14 ∷ found_at sample 21
    ∷ found_at sample 23 ∷ found_at sample 24 ∷ found_at sample 99 ∷ []

-- in the midst of a comment none is open, and in the midst of a word no word begins
pub places : found ≡ (
    status_found 4 10 7 ∷ status_found 4 10 7 ∷ wrong_found 8 12 ∷ wrong_found 8 12 ∷ status_found 10 4 21 ∷ wrong_found 15 16 ∷ wrong_found 22 23
    ∷ Ok None ∷ Ok None ∷ Ok None ∷ [])
unfolding found found_at words_at newlines_in words_from begins in_comment is_blank between word_of all_digits digit_of
places = refl

-- the lines of these places
pub lines : (line_of sample 0 ∷ line_of sample 2 ∷ line_of sample 3 ∷ line_of sample 8 ∷ line_of sample 22 ∷ line_of sample 23 ∷ line_of sample 24 ∷ [])
    ≡ (1 ∷ 1 ∷ 2 ∷ 2 ∷ 4 ∷ 4 ∷ 0 ∷ [])
unfolding newlines_in
lines = refl
