-- Worked examples: lists of banks as they are typed, and what is printed of each, as one list of cases with one claim, proved by computing.
-- Assumes nothing.
use mathlib.Core.Path.{◌≡◌, refl}
use mathlib.Core.List.{List, [], ◌∷◌, map}
use Prim.Native.String.{String}
use Rattle.reading.specs.Decimal.{decimal, digits}
use Rattle.reading.specs.Level.{tenths}
use Rattle.texts.specs.Words.{word, spaced, line}
use Rattle.table.specs.Codes.{rx_bw_codes, is_in}
use Rattle.rx_bw.specs.Width.{is_named, name_of}
use Rattle.width_rule.specs.Rule.{suffices, any_suffices, is_served, none_narrower, is_right, right_in, right_for}
use Rattle.bank_widths.specs.Lists.{lengths_right, judged_from, judged, right_codes, found}
use Rattle.bank_list.specs.Lines.{bank_of, leading_of, line_of, lines_of, number_from, skips}
use Rattle.bank_list.specs.Banks.{parsed, parsed_from}
use Rattle.widths_text.specs.Text.{millionths, bank_line, line_at, bank_lines, refused_text, needs_text, proposals_text, parsed_text}

-- a case: a list, and what is printed
pub record Case : Type 0 where
  pub typed : String
  pub prints : String

abbrev case : String → String → Case
case t p = record { typed = t; prints = p }

unfoldable pub cases : List Case
cases =
    case "16030\n" "1 16030 165 16.0 16666.666666\n"
    -- the widest width, a need of 0, and a width whose seventh decimal is 9, which is not rounded up
    ∷ case "3076923\n0\n14880\n" "1 3076923 0 3076.0 3076923.076923\n2 0 231 3.5 3472.222222\n3 14880 86 14.0 14880.952380\n"
    ∷ case "16030\n3076924\n" "refused 19 at bank 2\n"
    ∷ case "" "refused 21\n"
    ∷ case "1\n1\n1\n1\n1\n1\n1\n1\n1\n1\n1\n1\n1\n1\n1\n1\n1\n1\n1\n1\n1\n1\n1\n1\n1\n1\n1\n1\n1\n1\n1\n1\n1" "refused 21\n"
    ∷ case "16030 165\n16667,101\n" "ok\n"
    -- a code that is wider than it has to be, one that is too narrow, `BwAuto`, and a need that no width serves
    ∷ case "16030 165\n16667 101\n16030 101\n" "refused 20 at bank 3\n3 16030 165 16.0 16666.666666\n"
    ∷ case "16667 165\n3076924 0\n" "refused 20 at bank 1\n1 16667 101 17.0 17857.142857\n"
    ∷ case "0 255\n" "refused 20 at bank 1\n1 0 231 3.5 3472.222222\n"
    ∷ case "18446744073709551615 0\n" "refused 19 at bank 1\n"
    ∷ case "16030 165\nx\n" ""
    ∷ []

pub examples : map (λ (c : Case). parsed_text (parsed (word c.typed))) cases ≡ map (λ (c : Case). word c.prints) cases
unfolding cases parsed parsed_from lines_of line_of skips bank_of leading_of number_from needs_text proposals_text found judged lengths_right judged_from right_codes
    right_for right_in is_right none_narrower is_served any_suffices suffices is_named name_of is_in rx_bw_codes refused_text line_at bank_lines bank_line line
    spaced tenths millionths decimal digits
examples = refl
