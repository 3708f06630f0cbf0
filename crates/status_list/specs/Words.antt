-- The words of a list of statuses, and what a word says (REFERENCE, "Controller").
-- Assumes nothing.
use Rattle.std.specs.Prelude.{ℕ, suc, ◌+◌, ◌*◌, ◌-◌, Bool, cond, false, not, true, ◌&&◌, ◌||◌, List, [], ◌∷◌, eqb, leb, ltb, get_or, length}

-- ---- words

unfoldable pub between : ℕ → ℕ → ℕ → Bool
between low high b = leb low b && leb b high

-- White space: the bytes 9 to 13, of which 10 is the newline, and the blank, 32.
unfoldable pub is_blank : ℕ → Bool
is_blank b = eqb b 32 || between 9 13 b

-- Whether a byte stands in a comment, by whether the byte before it does: a line whose first byte is '#', 35, is one, up to its newline.
unfoldable pub in_comment : Bool → ℕ → ℕ → Bool
in_comment c before b = not (eqb b 10) && (c || (eqb before 10 && eqb b 35))

-- A word begins behind white space, at a byte that is none and stands in no comment.
unfoldable pub begins : Bool → ℕ → ℕ → Bool
begins c before b = is_blank before && (not (is_blank b) && not (in_comment c before b))

-- It goes on to the next white space, or to the end.
unfoldable pub word_of : List ℕ → List ℕ
word_of [] = []
word_of (b ∷ s) = cond (is_blank b) [] (b ∷ word_of s)

-- A word's line, counted from 1, the place of its first byte, counted from 0, and its bytes.
pub record Word : Type 0 where
  pub line : ℕ
  pub start : ℕ
  pub bytes : List ℕ

abbrev pub add_if : Bool → Word → List Word → List Word
add_if true w ws = w ∷ ws
add_if false w ws = ws

-- a newline ends its line
abbrev pub line_behind : ℕ → ℕ → ℕ
line_behind b line = cond (eqb b 10) (suc line) line

-- the words that begin from a place on, by what stands before it: whether that is in a comment, and which byte it is
unfoldable pub words_from : Bool → ℕ → ℕ → ℕ → List ℕ → List Word
words_from c before line at [] = []
words_from c before line at (b ∷ s) =
    add_if (begins c before b) (record { line = line; start = at; bytes = word_of (b ∷ s) })
    (words_from (in_comment c before b) b (line_behind b line) (suc at) s)

-- The words of a text: its first byte is the first of line 1, as behind a newline.
unfoldable pub words_in : List ℕ → List Word
words_in text = words_from false 10 1 0 text

-- ---- statuses

-- what a hex digit says, in either case, and 16 for any other byte: '0' is 48, 'A' 65, 'a' 97
unfoldable pub digit_of : ℕ → ℕ
digit_of b =
    cond (between 48 57 b) (b - 48) (cond (between 65 70 b) (b - 65 + 10) (cond (between 97 102 b) (b - 97 + 10) 16))

unfoldable pub all_digits : List ℕ → Bool
all_digits [] = true
all_digits (b ∷ w) = cond (ltb (digit_of b) 16) (all_digits w) false

-- A status is four hex digits.
abbrev pub is_status : List ℕ → Bool
is_status w = eqb (length w) 4 && all_digits w

-- two digits say a byte
abbrev pub pair_of : ℕ → ℕ → ℕ
pair_of a b = 16 * digit_of a + digit_of b

-- the two bytes that a status says, the high one first
abbrev pub status_in : List ℕ → List ℕ
status_in w = pair_of (get_or w 0 0) (get_or w 1 0) ∷ pair_of (get_or w 2 0) (get_or w 3 0) ∷ []
