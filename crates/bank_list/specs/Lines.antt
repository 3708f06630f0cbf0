-- What a line of a list of banks is, and what it says (REFERENCE, "Widths for banks").
-- Assumes nothing.
use Rattle.std.specs.Prelude.{ℕ, suc, ◌+◌, ◌*◌, ◌-◌, ◌^◌, Bool, cond, not, ◌&&◌, ◌||◌, List, [], ◌∷◌, eqb, leb, ltb, length, get_or, take, drop}
use Rattle.std.specs.Prelude.{Option, Some, None, Result, Ok, Err}
use Rattle.bank_list.specs.declared.Fault.{Fault}
use Rattle.bank_list.specs.declared.Fault.TheVariants.{NotABank, NeedPast, CodePast}
use Rattle.bank_list.specs.declared.Bank.{Bank}

-- ---- lines

-- a byte more at the start of the first line
abbrev pub onto : ℕ → List (List ℕ) → List (List ℕ)
onto b [] = (b ∷ []) ∷ []
onto b (l ∷ ls) = (b ∷ l) ∷ ls

-- A newline, 10, ends a line; the last line may lack it.
unfoldable pub lines_of : List ℕ → List (List ℕ)
lines_of [] = []
lines_of (b ∷ s) = cond (eqb b 10) ([] ∷ lines_of s) (onto b (lines_of s))

-- a line's length without the carriage return, 13, that it may end in
abbrev pub body_length : List ℕ → ℕ
body_length l = cond (eqb (get_or l (length l - 1) 0) 13) (length l - 1) (length l)

-- A carriage return at a line's end is ignored.
abbrev pub body_of : List ℕ → List ℕ
body_of l = take (body_length l) l

-- ---- bytes

-- digits, 48 to 57
abbrev pub is_digit : ℕ → Bool
is_digit b = leb 48 b && leb b 57

-- a blank, 32, or a tab, 9
abbrev pub is_blank : ℕ → Bool
is_blank b = eqb b 32 || eqb b 9

-- what may stand between two numbers: one of these, or a comma, 44
abbrev pub is_separator : ℕ → Bool
is_separator b = eqb b 32 || (eqb b 9 || eqb b 44)

-- all but a newline
abbrev pub is_inside : ℕ → Bool
is_inside b = not (eqb b 10)

-- how many bytes that pass a test bytes begin with
unfoldable pub leading_of : (ℕ → Bool) → List ℕ → ℕ
leading_of p [] = 0
leading_of p (b ∷ s) = cond (p b) (suc (leading_of p s)) 0

-- ---- numbers

-- a number is a digit or more, and nothing else
abbrev pub is_number : List ℕ → Bool
is_number s = not (eqb (leading_of is_digit s) 0) && eqb (leading_of is_digit s) (length s)

-- v, with digits behind it
unfoldable pub number_from : ℕ → List ℕ → ℕ
number_from v [] = v
number_from v (b ∷ s) = number_from (10 * v + (b - 48)) s

-- what digits say in decimal
abbrev pub number_of : List ℕ → ℕ
number_of s = number_from 0 s

-- a number of 64 bits, or one past them
abbrev pub numbered : ℕ → Option ℕ
numbered n = cond (ltb n (2 ^ 64)) (Some n) None

-- ---- what a line says

-- a need alone
abbrev pub need_said : Option ℕ → Result Bank Fault
need_said (Some n) = Ok (record { need = n; code = None })
need_said None = Err NeedPast

-- a need and a code, which is a byte: the need is judged first
abbrev pub proposal_said : Option ℕ → Option ℕ → Result Bank Fault
proposal_said None c = Err NeedPast
proposal_said (Some n) None = Err CodePast
proposal_said (Some n) (Some c) = cond (ltb c 256) (Ok (record { need = n; code = Some c })) (Err CodePast)

-- behind the need stands nothing, or one separator and the code
abbrev pub behind_need : Option ℕ → List ℕ → Result Bank Fault
behind_need n [] = need_said n
behind_need n (b ∷ s) = cond (is_separator b && is_number s) (proposal_said n (numbered (number_of s))) (Err NotABank)

-- A bank's line begins with the digits of its need.
unfoldable pub bank_of : List ℕ → Result Bank Fault
bank_of l =
    cond (eqb (leading_of is_digit l) 0) (Err NotABank)
    (behind_need (numbered (number_of (take (leading_of is_digit l) l))) (drop (leading_of is_digit l) l))

-- A line of blanks alone, or of nothing, is skipped, and one that begins with '#', 35.
unfoldable pub skips : List ℕ → Bool
skips l = eqb (leading_of is_blank l) (length l) || eqb (get_or l 0 0) 35

-- a line that is not skipped
abbrev pub not_skipped : Result Bank Fault → Result (Option Bank) Fault
not_skipped (Ok b) = Ok (Some b)
not_skipped (Err f) = Err f

-- what a line says, without its carriage return
unfoldable pub line_of : List ℕ → Result (Option Bank) Fault
line_of l = cond (skips l) (Ok None) (not_skipped (bank_of l))
