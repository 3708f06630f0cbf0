-- What is found from a place of a text on: the first word that begins there (REFERENCE, "Controller").
-- Assumes nothing.
use Rattle.std.specs.Prelude.{ℕ, suc, ◌+◌, ◌-◌, Bool, cond, false, List, [], ◌∷◌, eqb, ltb, drop, get_or, length, take, Option, Some, None, Result, Ok, Err}
use Rattle.status_list.specs.declared.Found.{Found}
use Rattle.status_list.specs.declared.Wrong.{Wrong}
use Rattle.status_list.specs.Words.{Word, begins, in_comment, is_blank, is_status, status_in, words_from}

-- ---- lines

unfoldable pub newlines_in : List ℕ → ℕ
newlines_in [] = 0
newlines_in (b ∷ s) = cond (eqb b 10) 1 0 + newlines_in s

-- the line that the byte at a place is in, counted from 1; 0 where there is no byte
abbrev pub line_of : List ℕ → ℕ → ℕ
line_of text at = cond (ltb at (length text)) (newlines_in (take at text) + 1) 0

-- ---- words

-- the byte before a place; before the first there is, as it were, a newline
abbrev pub byte_before : List ℕ → ℕ → ℕ
byte_before text at = cond (eqb at 0) 10 (get_or text (at - 1) 0)

-- The words that begin from a place on. The byte before it tells whether a line or a word begins there; no comment reaches there.
unfoldable pub words_at : List ℕ → ℕ → List Word
words_at text at = words_from false (byte_before text at) (newlines_in (take at text) + 1) at (drop at text)

-- a status, with the place where the next is sought
abbrev pub status_found : ℕ → ℕ → ℕ → Result (Option Found) Wrong
status_found high low next = Ok (Some (record { high = high; low = low; next = next }))

-- where a word lies that is none
abbrev pub wrong_found : ℕ → ℕ → Result (Option Found) Wrong
wrong_found start end = Err (record { start = start; end = end })

-- what a word is that starts at a place and ends before another
abbrev pub said_by : List ℕ → ℕ → ℕ → Result (Option Found) Wrong
said_by w start end = cond (is_status w) (status_found (get_or (status_in w) 0 0) (get_or (status_in w) 1 0) end) (wrong_found start end)

abbrev pub first_of : List Word → Result (Option Found) Wrong
first_of [] = Ok None
first_of (w ∷ ws) = said_by w.bytes w.start (w.start + length w.bytes)

-- the first of them, if there is one
unfoldable pub found_at : List ℕ → ℕ → Result (Option Found) Wrong
found_at text at = first_of (words_at text at)

-- ---- for the contracts of single steps

-- how many bytes stand before the first word
unfoldable pub skipped_from : Bool → ℕ → List ℕ → ℕ
skipped_from c before [] = 0
skipped_from c before (b ∷ s) = cond (begins c before b) 0 (suc (skipped_from (in_comment c before b) b s))

-- how long the word is that bytes begin with
unfoldable pub word_length : List ℕ → ℕ
word_length [] = 0
word_length (b ∷ s) = cond (is_blank b) 0 (suc (word_length s))
