-- The answer of the program `widths` as text, to the byte (REFERENCE, "Widths for banks").
-- Assumes nothing.
use Rattle.std.specs.Prelude.{ℕ, suc, ◌*◌, ◌-◌, ◌/◌, ◌≤◌, ◌≡◌, true, cond, List, [], ◌∷◌, ◌++◌, eqb, ltb, length, get_or, take, Result, Ok, Err}
use Rattle.reading.specs.Decimal.{digit, decimal}
use Rattle.reading.specs.Level.{tenths}
use Rattle.texts.specs.Words.{word, line}
use Rattle.refusal.specs.declared.Refusal.{Refusal}
use Rattle.refusal.specs.Numbers.{number_of, place_of}
use Rattle.rx_bw.specs.Width.{divisor, name_of}
use Rattle.width_rule.specs.Rule.{is_served}
use Rattle.bank_widths.specs.Lists.{judged, right_codes, found}
use Rattle.bank_list.specs.declared.Found.{Found}
use Rattle.bank_list.specs.declared.Found.TheVariants.{Needs, Proposals}
use Rattle.bank_list.specs.declared.Listed.{Listed}
use Rattle.bank_list.specs.declared.WrongLine.{WrongLine}
use Rattle.bank_list.specs.Banks.{Parsed, banks, faulty}

-- no answer is longer, as proofs/Longest.antt shows
abbrev pub longest : ℕ
longest = 4096

-- ---- a bank's line

-- the last six digits of a number
abbrev pub last_six : ℕ → List ℕ
last_six v = digit (v / 100000) ∷ digit (v / 10000) ∷ digit (v / 1000) ∷ digit (v / 100) ∷ digit (v / 10) ∷ digit v ∷ []

-- v millionths with six decimals: every digit is there, so nothing is rounded; 46 is '.'
unfoldable pub millionths : ℕ → List ℕ
millionths v = decimal (v / 1000000) ++ (46 ∷ last_six v)

-- a code's width in millionths of Hz, what is below a millionth cut off: 40 MHz by its divisor
abbrev pub width_in : ℕ → ℕ
width_in c = 40000000 * 1000000 / divisor c

-- a code's width in Hz
abbrev pub width_text : ℕ → List ℕ
width_text c = millionths (width_in c)

-- bank k has its number, its need, a code, the code's name in kHz and its width in Hz
unfoldable pub bank_line : ℕ → ℕ → ℕ → List ℕ
bank_line k need c = line (decimal k) (decimal need ∷ decimal c ∷ tenths (name_of c) ∷ width_text c ∷ [])

-- the line of bank k, counted from 1, of needs and their codes
unfoldable pub line_at : List ℕ → List ℕ → ℕ → List ℕ
line_at ns cs k = bank_line k (get_or ns (k - 1) 0) (get_or cs (k - 1) 0)

-- the lines of the banks behind the first k
unfoldable pub bank_lines : ℕ → List ℕ → List ℕ → List ℕ
bank_lines k [] cs = []
bank_lines k (n ∷ ns) [] = []
bank_lines k (n ∷ ns) (c ∷ cs) = bank_line (suc k) n c ++ bank_lines (suc k) ns cs

-- ---- refusals

-- a refusal has its number, and its bank where it has one
unfoldable pub refused_text : Refusal → List ℕ
refused_text x =
    cond (ltb 0 (place_of x)) (line (word "refused") (decimal (number_of x) ∷ word "at" ∷ word "bank" ∷ decimal (place_of x) ∷ []))
    (line (word "refused") (decimal (number_of x) ∷ []))

-- ---- answers

-- by what the search answers: a line for each bank with its right code, or the refusal and nothing else
abbrev pub found_text : List ℕ → Result ℕ Refusal → List ℕ
found_text ns (Ok n) = bank_lines 0 ns (right_codes ns)
found_text ns (Err x) = refused_text x

-- the answer to needs alone
unfoldable pub needs_text : List ℕ → List ℕ
needs_text ns = found_text ns (found ns (length ns))

-- by what the judgement is: ok, or the refusal, and behind it the bank's line with its right code where the one proposed is not the narrowest, 20
abbrev pub judged_text : List ℕ → List ℕ → Result ℕ Refusal → List ℕ
judged_text ns right (Ok n) = word "ok\n"
judged_text ns right (Err x) = refused_text x ++ cond (eqb (number_of x) 20) (line_at ns right (place_of x)) []

-- the answer to needs with proposed codes
unfoldable pub proposals_text : List ℕ → List ℕ → List ℕ
proposals_text ns cs = judged_text ns (right_codes ns) (judged ns cs)

-- the answer to a list of banks; a wrong line has none
abbrev pub parsed_text : Parsed → List ℕ
parsed_text (banks ns []) = needs_text ns
parsed_text (banks ns (c ∷ cs)) = proposals_text ns (c ∷ cs)
parsed_text (faulty k f) = []

-- ---- as the source is handed it

-- the answer to the first n banks of those kept
abbrev pub kept_text : Found → List ℕ → List ℕ → List ℕ
kept_text (Needs n) ns cs = needs_text (take n ns)
kept_text (Proposals n) ns cs = proposals_text (take n ns) (take n cs)

-- the answer to what was read of a list
unfoldable pub answer_text : Listed → List ℕ
answer_text l = kept_text l.found l.needs l.codes

-- the answer to what a text is read as; a wrong line has none
abbrev pub read_text : Result Listed WrongLine → List ℕ
read_text (Ok l) = answer_text l
read_text (Err w) = []

-- bank k, counted from 1, is one of these needs, and can be served
pub record ServedAt (ns : List ℕ) (k : ℕ) : Type 0 where
  pub from_one : 1 ≤ k
  pub to_last : k ≤ length ns
  pub served : is_served (get_or ns (k - 1) 0) ≡ true
