-- Worked examples: one list of cases with one claim, proved by computing.
-- Assumes nothing.
use mathlib.Core.Path.{◌≡◌, refl}
use mathlib.Core.List.{List, [], ◌∷◌, map}
use Prim.Native.String.{String}
use Rattle.texts.specs.Words.{word}
use Rattle.bank_list.specs.declared.Fault.TheVariants.{NotABank, NeedPast, CodePast, CodeLacking, CodeSurplus}
use Rattle.bank_list.specs.Lines.{bank_of, leading_of, line_of, lines_of, number_from, skips}
use Rattle.bank_list.specs.Banks.{Parsed, banks, faulty, parsed, parsed_from}

-- a case: a text, and what it gives
pub record Case : Type 0 where
  pub text : String
  pub gives : Parsed

abbrev case : String → Parsed → Case
case t p = record { text = t; gives = p }

unfoldable pub cases : List Case
cases =
    case "16030 165\n" (banks (16030 ∷ []) (165 ∷ []))
    ∷ case "16030 165\r\n3473\t167\r\n" (banks (16030 ∷ 3473 ∷ []) (165 ∷ 167 ∷ []))
    ∷ case "16030,165" (banks (16030 ∷ []) (165 ∷ []))
    ∷ case "007 0" (banks (7 ∷ []) (0 ∷ []))
    -- what is skipped counts as a line
    ∷ case "# banks\n\n \t\n\r\n12\n" (banks (12 ∷ []) [])
    ∷ case "# banks\n\nx\n" (faulty 3 NotABank)
    ∷ case "" (banks [] [])
    -- the ends of the ranges
    ∷ case "12 255" (banks (12 ∷ []) (255 ∷ []))
    ∷ case "12 256" (faulty 1 CodePast)
    ∷ case "12 18446744073709551616" (faulty 1 CodePast)
    ∷ case "18446744073709551615" (banks (18446744073709551615 ∷ []) [])
    ∷ case "18446744073709551616" (faulty 1 NeedPast)
    ∷ case "18446744073709551616 256" (faulty 1 NeedPast)
    -- codes on all lines or on none
    ∷ case "1\n2 3\n" (faulty 2 CodeSurplus)
    ∷ case "1 2\n3\n" (faulty 2 CodeLacking)
    ∷ case "1 2\n3\n4 256\n" (faulty 2 CodeLacking)
    ∷ case "1\n2 256\n" (faulty 2 CodePast)
    -- nothing else is a bank
    ∷ case " 1" (faulty 1 NotABank)
    ∷ case "1 " (faulty 1 NotABank)
    ∷ case "1  2" (faulty 1 NotABank)
    ∷ case "1," (faulty 1 NotABank)
    ∷ case "a" (faulty 1 NotABank)
    ∷ case "-1" (faulty 1 NotABank)
    ∷ case "1 2 3" (faulty 1 NotABank)
    ∷ case "1\r\r\n" (faulty 1 NotABank)
    ∷ case " # banks" (faulty 1 NotABank)
    ∷ []

pub examples : map (λ (c : Case). parsed (word c.text)) cases ≡ map (λ (c : Case). c.gives) cases
unfolding cases parsed parsed_from lines_of line_of skips bank_of leading_of number_from
examples = refl
