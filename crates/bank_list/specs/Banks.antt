-- What the lines of a list of banks give together (REFERENCE, "Widths for banks"), and how it is handed over.
-- Assumes nothing.
use Rattle.std.specs.Prelude.{ℕ, suc, min, ◌≡◌, cond, List, [], ◌∷◌, ◌++◌, ltb, length, take, set, replicate, Option, Some, None, Result, Ok, Err}
use Rattle.bank_list.specs.declared.Fault.{Fault}
use Rattle.bank_list.specs.declared.Fault.TheVariants.{CodeLacking, CodeSurplus}
use Rattle.bank_list.specs.declared.Found.{Found}
use Rattle.bank_list.specs.declared.Found.TheVariants as found
use Rattle.bank_list.specs.declared.Bank.{Bank}
use Rattle.bank_list.specs.declared.Listed.{Listed}
use Rattle.bank_list.specs.declared.WrongLine.{WrongLine}
use Rattle.bank_list.specs.Lines.{lines_of, body_of, line_of}

-- The needs and the codes so far, no codes where no bank has one; or the first wrong line.
pub data Parsed : Type 0 where
  banks : List ℕ → List ℕ → Parsed
  faulty : ℕ → Fault → Parsed

-- ---- line by line

-- a bank without a code: no earlier one has a code
abbrev pub with_need : List ℕ → List ℕ → ℕ → ℕ → Parsed
with_need ns [] k n = banks (ns ++ n ∷ []) []
with_need ns (c ∷ cs) k n = faulty k CodeLacking

-- a bank with a code: it is the first, or every earlier one has a code
abbrev pub with_proposal : List ℕ → List ℕ → ℕ → ℕ → ℕ → Parsed
with_proposal [] cs k n c = banks (n ∷ []) (c ∷ [])
with_proposal (m ∷ ns) [] k n c = faulty k CodeSurplus
with_proposal (m ∷ ns) (d ∷ cs) k n c = banks ((m ∷ ns) ++ n ∷ []) ((d ∷ cs) ++ c ∷ [])

abbrev pub with_bank : List ℕ → List ℕ → ℕ → ℕ → Option ℕ → Parsed
with_bank ns cs k n None = with_need ns cs k n
with_bank ns cs k n (Some c) = with_proposal ns cs k n c

-- line k; behind a wrong line nothing counts
abbrev pub after_line : Parsed → ℕ → Result (Option Bank) Fault → Parsed
after_line (faulty j f) k l = faulty j f
after_line (banks ns cs) k (Ok None) = banks ns cs
after_line (banks ns cs) k (Ok (Some b)) = with_bank ns cs k b.need b.code
after_line (banks ns cs) k (Err f) = faulty k f

-- k lines, and then these
unfoldable pub parsed_from : Parsed → ℕ → List (List ℕ) → Parsed
parsed_from p k [] = p
parsed_from p k (l ∷ ls) = parsed_from (after_line p (suc k) (line_of (body_of l))) (suc k) ls

-- Every line counts, from 1 on.
unfoldable pub parsed : List ℕ → Parsed
parsed text = parsed_from (banks [] []) 0 (lines_of text)

-- ---- as the source hands it over

-- the number of banks that are kept
abbrev pub most_kept : ℕ
most_kept = 33

-- the first of them, with zeros behind
unfoldable pub kept : List ℕ → List ℕ
kept xs = take most_kept (xs ++ replicate most_kept 0)

-- needs alone where there are no codes
abbrev pub found_of : List ℕ → List ℕ → Found
found_of ns [] = found.Needs (min (length ns) most_kept)
found_of ns (c ∷ cs) = found.Proposals (min (length ns) most_kept)

abbrev pub handed : List ℕ → List ℕ → Listed
handed ns cs = record { found = found_of ns cs; needs = kept ns; codes = kept cs }

-- line k is wrong
abbrev pub wrong_at : ℕ → Fault → WrongLine
wrong_at k f = record { line = k; fault = f }

-- Where a line is wrong no bank is handed over.
unfoldable pub listed : Parsed → Result Listed WrongLine
listed (banks ns cs) = Ok (handed ns cs)
listed (faulty k f) = Err (wrong_at k f)

-- ---- for the contracts of single steps

-- a line that says a bank
abbrev pub with_code : ℕ → Option ℕ → Result (Option Bank) Fault
with_code n c = Ok (Some (record { need = n; code = c }))

-- x at its place; where it has none it is left out
abbrev pub stored_at : ℕ → ℕ → List ℕ → List ℕ
stored_at at x xs = cond (ltb at most_kept) (set xs at x) xs

-- a bank at its place
abbrev pub put_at : Found → ℕ → ℕ → ℕ → Listed → Listed
put_at f at n c l = record { found = f; needs = stored_at at n l.needs; codes = stored_at at c l.codes }

-- as many codes as needs, or none
abbrev pub Paired : Parsed → Type 0
Paired (banks ns []) = Unit {0}
Paired (banks ns (c ∷ cs)) = length (c ∷ cs) ≡ length ns
Paired (faulty k f) = Unit {0}
