-- What makes no difference to a line or a text: a carriage return at a line's end (`body-return`), a newline at the text's (`lines-last`); and that a
-- number is read as it is printed (`decimal-reads`).
-- Assumes nothing.
use mathlib.Core.Path.{◌≡◌, refl, ap, ◌∙◌}
use mathlib.Core.Bool.{cond}
use mathlib.Core.List.{List, [], ◌∷◌, ◌++◌}
use Prim.Native.Nat.{ℕ, ◌+◌, ◌*◌, ◌-◌, ◌^◌, ◌<◌}
use native.Mathlib.Omega.{arith}
use borrow.Author.Tests.{eq-eqb, ne_eqb}
use lib.Dec.{eqb}
use lib.ListN.{get_or, length, length-append, take}
use lib.Seq.{get_or-append_seam, take-append_seam}
use Rattle.reading.specs.Decimal.{decimal}
use Rattle.reading.proofs.Decimals.{decimal-value, value_from}
use Rattle.bank_list.specs.Lines.{body_length, body_of, lines_of, number_from, number_of, onto}

pub body-return : (l : List ℕ) → body_of (l ++ 13 ∷ []) ≡ l
body-return l =
    let n : length (l ++ 13 ∷ []) - 1 ≡ length l = omega (arith, length-append l (13 ∷ [])) in
    let last : get_or (l ++ 13 ∷ []) (length (l ++ 13 ∷ []) - 1) 0 ≡ 13 = ap (λ (i : ℕ). get_or (l ++ 13 ∷ []) i 0) n ∙ get_or-append_seam l 13 [] 0 in
    let short : body_length (l ++ 13 ∷ []) ≡ length l = rw (eq-eqb (get_or (l ++ 13 ∷ []) (length (l ++ 13 ∷ []) - 1) 0) 13 last) n in
    ap (λ (i : ℕ). take i (l ++ 13 ∷ [])) short ∙ take-append_seam l (13 ∷ [])

-- a text that ends in no newline has the same lines with one behind it
pub lines-last : (text : List ℕ) (b : ℕ) → (b ≡ 10 → ⊥) → lines_of ((text ++ b ∷ []) ++ 10 ∷ []) ≡ lines_of (text ++ b ∷ [])
unfolding lines_of
lines-last [] b n = rw (ne_eqb b 10 n)
lines-last (x ∷ text) b n = ap (λ (ls : List (List ℕ)). cond (eqb x 10) ([] ∷ ls) (onto x ls)) (lines-last text b n)

number-value : (v : ℕ) (s : List ℕ) → number_from v s ≡ value_from v s
unfolding number_from
number-value v [] = refl
number-value v (b ∷ s) = number-value (10 * v + (b - 48)) s

pub decimal-reads : (n : ℕ) → n < 2 ^ 64 → number_of (decimal n) ≡ n
decimal-reads n h = number-value 0 (decimal n) ∙ decimal-value n (omega arith)
