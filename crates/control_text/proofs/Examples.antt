-- Worked examples: books of the frames `02 23 34` and `02 00 33 be 27 a0`, against statuses, as one list of cases with one claim, proved by computing.
-- Assumes nothing.
use mathlib.Core.Path.{◌≡◌, refl}
use mathlib.Core.List.{List, [], ◌∷◌, map}
use Prim.Native.String.{String}
use Rattle.reading.specs.Decimal.{decimal, digits}
use Rattle.texts.specs.Words.{line, spaced, word}
use Rattle.refusal.specs.declared.Refusal.TheVariants.{BothForms, BufferSize, NotWellFormed}
use Rattle.spans.specs.Spans.{written}
use Rattle.status_list.specs.Words.{all_digits, begins, between, digit_of, in_comment, is_blank, word_of, words_from, words_in}
use Rattle.contents.specs.Contents.{Contents, holds, refused}
use Rattle.controller.specs.Controller.{heard_on, sends_of}
use Rattle.control_text.specs.declared.Halt.{Halt}
use Rattle.control_text.specs.declared.Halt.TheVariants.{Ended, Waiting, Wrong}
use Rattle.control_text.specs.Text.{Play, closing, hex_of, judged_words, longest, played, played_from, played_in, status_name, step_line, turn_words}

abbrev two : Contents
two = holds ((2 ∷ 35 ∷ 52 ∷ []) ∷ (2 ∷ 0 ∷ 51 ∷ 190 ∷ 39 ∷ 160 ∷ []) ∷ [])

abbrev empty : Contents
empty = holds []

-- a case: a book, the text of the statuses, the lines of the steps, the last line, and what ended the run
pub record Case : Type 0 where
  pub book : Contents
  pub statuses : String
  pub lines : String
  pub last : String
  pub halt : Halt

abbrev case : Contents → String → String → String → Halt → Case
case b s l e h = record { book = b; statuses = s; lines = l; last = e; halt = h }

unfoldable pub cases : List Case
cases =
    case two "0404 0404 0404" "1 sent 02 23 34\n2 judged 1 Ok sent 02 00 33 be 27 a0\n3 judged 2 Ok read\n" "done\n" Ended
    -- the status of a step judges the frame before it: the first judges none, and the last comes back with the final read
    ∷ case two "0000 0604\n0600" "1 sent 02 23 34\n2 judged 1 Data sent 02 00 33 be 27 a0\n3 judged 2 Data read\n" "done\n" Ended
    ∷ case two "0404 0000" "1 sent 02 23 34\n2 judged 1 Fail sent 02 00 33 be 27 a0\n" "stopped 1 Fail\n" Ended
    ∷ case two "0404 0404 0204" "1 sent 02 23 34\n2 judged 1 Ok sent 02 00 33 be 27 a0\n3 judged 2 PErr read\n" "stopped 2 PErr\n" Ended
    ∷ case two "0404 0F04" "1 sent 02 23 34\n2 judged 1 Unknown sent 02 00 33 be 27 a0\n" "stopped 1 Unknown\n" Ended
    -- the statuses end first
    ∷ case two "" "" "waiting 0\n" Waiting
    ∷ case two "# none\n0404\n" "1 sent 02 23 34\n" "waiting 1\n" Waiting
    ∷ case two "0404 0404" "1 sent 02 23 34\n2 judged 1 Ok sent 02 00 33 be 27 a0\n" "waiting 2\n" Waiting
    -- a word that is no status ends what is played, without a last line; behind the end no word is looked at
    ∷ case two "0404\n04x4 0404" "1 sent 02 23 34\n" "" (Wrong 5 9)
    ∷ case two "x" "" "" (Wrong 0 1)
    ∷ case two "0404 0404 0404 04x4" "1 sent 02 23 34\n2 judged 1 Ok sent 02 00 33 be 27 a0\n3 judged 2 Ok read\n" "done\n" Ended
    ∷ case two "0404 0004 04x4" "1 sent 02 23 34\n2 judged 1 Fail sent 02 00 33 be 27 a0\n" "stopped 1 Fail\n" Ended
    -- books without a step
    ∷ case empty "" "" "done\n" Ended
    ∷ case empty "04x4" "" "done\n" Ended
    ∷ case (refused NotWellFormed) "0404" "" "refused 10\n" Ended
    ∷ case (refused BufferSize) "04x4" "" "refused 11\n" Ended
    ∷ case (refused BothForms) "" "" "refused 16\n" Ended
    ∷ []

-- what is played of a case, and what is to be
abbrev runs : Case → Play
runs c = played c.book (words_in (word c.statuses))

abbrev prints : Case → Play
prints c = record { lines = word c.lines; last = word c.last; halt = c.halt }

pub examples : map runs cases ≡ map prints cases
unfolding cases played played_from step_line judged_words turn_words status_name hex_of closing line spaced decimal digits written heard_on sends_of
    words_in words_from begins in_comment is_blank between word_of all_digits digit_of
examples = refl

-- every digit of a byte
pub digits-printed : map hex_of (1 ∷ 35 ∷ 69 ∷ 103 ∷ 137 ∷ 171 ∷ 205 ∷ 239 ∷ [])
    ≡ map word ("01" ∷ "23" ∷ "45" ∷ "67" ∷ "89" ∷ "ab" ∷ "cd" ∷ "ef" ∷ [])
unfolding hex_of
digits-printed = refl

-- ---- the output: what it must have room for, and what is told where it has less

pub room : longest ≡ 3584
room = refl

pub no_room : played_in (record { lines = []; last = word "done\n"; halt = Ended }) [] ≡ record { steps = 0; len = 0; halt = Waiting }
no_room = refl
