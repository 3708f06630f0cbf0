-- No answer is longer than 4,096 bytes (`answer-most`): a line of a bank has 114 at the most, and a list that is found has 32 banks.
-- Assumes nothing.
use mathlib.Core.Path.{◌≡◌, refl}
use mathlib.Core.Bool.{Bool, true, false, cond}
use mathlib.Core.List.{List, [], ◌∷◌}
use Prim.Native.Nat.{ℕ, suc, ◌*◌, ◌/◌, ◌≤◌}
use native.Mathlib.Omega.{arith}
use lib.Dec.{eqb, ltb}
use lib.ListN.{length, take, length-append}
use Rattle.reading.specs.Decimal.{decimal}
use Rattle.reading.specs.Level.{tenths}
use Rattle.texts.specs.Words.{word, line}
use Rattle.texts.proofs.Longest.{decimal-most, spaced-length, spaced-none}
use Rattle.refusal.specs.declared.Refusal.{Refusal}
use Rattle.refusal.specs.Numbers.{number_of, place_of}
use Rattle.rx_bw.specs.Width.{name_of}
use Rattle.std.specs.Prelude.{Result, Ok, Err}
use Rattle.bank_widths.specs.Lists.{judged, right_codes, found}
use Rattle.bank_list.specs.declared.Found.{Found}
use Rattle.bank_list.specs.declared.Found.TheVariants.{Needs, Proposals}
use Rattle.bank_list.specs.declared.Listed.{Listed}
use Rattle.bank_list.specs.declared.WrongLine.{WrongLine}
use Rattle.widths_text.specs.Text.{longest, millionths, width_in, bank_line, line_at, bank_lines, refused_text, found_text, needs_text}
use Rattle.widths_text.specs.Text.{judged_text, proposals_text, kept_text, answer_text, read_text}
use Rattle.widths_text.proofs.Answers.{found-few}

bank-most : (k need c : ℕ) → length (bank_line k need c) ≤ 114
unfolding bank_line line tenths millionths
bank-most k need c =
    simp (length-append, spaced-length, spaced-none)
    (omega (arith, decimal-most k, decimal-most need, decimal-most c, decimal-most (name_of c / 10), decimal-most (width_in c / 1000000)))

banks-most : (k : ℕ) (ns cs : List ℕ) → length (bank_lines k ns cs) ≤ 114 * length ns
unfolding bank_lines
banks-most k [] cs = omega arith
banks-most k (n ∷ ns) [] = omega arith
banks-most k (n ∷ ns) (c ∷ cs) =
    let h : length (bank_lines (suc k) ns cs) ≤ 114 * length ns = banks-most (suc k) ns cs in
    simp length-append (omega (arith, bank-most (suc k) n c))

refused-most : (x : Refusal) → length (refused_text x) ≤ 58
unfolding refused_text line
refused-most x = by (ltb 0 (place_of x))
  where
    by : (b : Bool) → length
        (cond b (line (word "refused") (decimal (number_of x) ∷ word "at" ∷ word "bank" ∷ decimal (place_of x) ∷ []))
        (line (word "refused") (decimal (number_of x) ∷ [])))
        ≤ 58
    by true = simp (spaced-length, spaced-none) (omega (arith, decimal-most (number_of x), decimal-most (place_of x)))
    by false = simp (spaced-length, spaced-none) (omega (arith, decimal-most (number_of x)))

needs-most : (ns : List ℕ) → length (needs_text ns) ≤ longest
unfolding needs_text
needs-most ns = by (found ns (length ns)) refl
  where
    by : (a : Result ℕ Refusal) → found ns (length ns) ≡ a → length (found_text ns a) ≤ longest
    by (Ok k) e = omega (arith, banks-most 0 ns (right_codes ns), found-few ns (length ns) k e)
    by (Err x) e = omega (arith, refused-most x)

proposals-most : (ns cs : List ℕ) → length (proposals_text ns cs) ≤ longest
unfolding proposals_text line_at
proposals-most ns cs = by (judged ns cs)
  where
    right : (x : Refusal) (b : Bool) → length (cond b (line_at ns (right_codes ns) (place_of x)) []) ≤ 114
    right x true = bank-most _ _ _
    right x false = omega arith

    by : (a : Result ℕ Refusal) → length (judged_text ns (right_codes ns) a) ≤ longest
    by (Ok k) = omega arith
    by (Err x) = simp length-append (omega (arith, refused-most x, right x (eqb (number_of x) 20)))

pub answer-most : (l : Listed) → length (answer_text l) ≤ longest
unfolding answer_text
answer-most l = by l.found
  where
    by : (f : Found) → length (kept_text f l.needs l.codes) ≤ longest
    by (Needs n) = needs-most (take n l.needs)
    by (Proposals n) = proposals-most (take n l.needs) (take n l.codes)

pub read-most : (r : Result Listed WrongLine) → length (read_text r) ≤ longest
read-most (Ok l) = answer-most l
read-most (Err w) = omega arith
