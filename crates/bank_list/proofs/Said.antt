-- What a line says, by the tests of the code: a body's length (`body-..`), which lines are skipped (`skips-..`), and banks (`bank-..`).
-- Assumes nothing.
use mathlib.Core.Path.{◌≡◌, refl, ap, sym, ◌∙◌}
use mathlib.Core.Bool.{Bool, false, true, ◌&&◌, false≢true}
use mathlib.Core.List.{List, [], ◌∷◌}
use Prim.Native.Nat.{ℕ, suc, ◌-◌, ◌<◌}
use native.Mathlib.Omega.{arith}
use borrow.Author.Tests.{eq-eqb, ne_eqb}
use lib.Dec.{eqb}
use lib.ListN.{drop, get_or, length, length-drop, take}
use lib.Pointwise.{pointwise}
use lib.Seq.{take_all}
use Rattle.bank_list.specs.declared.Fault.TheVariants.{NotABank}
use Rattle.std.specs.Prelude.{Err, None, Ok, Option}
use Rattle.std.specs.List.{list_all}
use Rattle.bank_list.specs.Lines.{body_of, is_number, is_digit, is_blank, is_separator, leading_of, number_of, numbered}
use Rattle.bank_list.specs.Lines.{bank_of, behind_need, line_of, need_said, not_skipped, proposal_said, skips}
use Rattle.bank_list.proofs.Scans.{all-leading}

-- ---- parts of a slice

pub front : (n : ℕ) (l : List ℕ) → take (n - 0) l ≡ take n l
front n l = let same : n - 0 ≡ n = omega arith in rw same

pub tail : (n : ℕ) (l : List ℕ) → take (length l - n) (drop n l) ≡ drop n l
tail n l = take_all (length l - n) (drop n l) (omega (arith, length-drop n l))

-- ---- bodies

-- the last byte is the carriage return
ends : (l : List ℕ) → pointwise eqb (drop (length l - 1) l) (13 ∷ []) ≡ eqb (get_or l (length l - 1) 0) 13
ends [] = refl
ends (b ∷ []) = alone (eqb b 13)
  where
    alone : (t : Bool) → t && true ≡ t
    alone true = refl
    alone false = refl
ends (b ∷ c ∷ l) =
    let n : length (b ∷ c ∷ l) - 1 ≡ suc (length (c ∷ l) - 1) = omega arith in
    rw n (ends (c ∷ l))

pub body-cut : (l : List ℕ) → pointwise eqb (drop (length l - 1) l) (13 ∷ []) ≡ true → take (length l - 1) l ≡ body_of l
body-cut l e = rw (sym (ends l) ∙ e)

pub body-whole : (l : List ℕ) → pointwise eqb (drop (length l - 1) l) (13 ∷ []) ≡ false → l ≡ body_of l
body-whole l e = rw (sym (ends l) ∙ e, take_all (length l) l (omega arith))

-- ---- skipped lines

module _ (l : List ℕ) where
  pub skips-blank : list_all is_blank l ≡ true → skips l ≡ true
  unfolding skips
  skips-blank e = rw (sym (all-leading is_blank l) ∙ e)

  pub skips-rest : list_all is_blank l ≡ false → skips l ≡ eqb (get_or l 0 0) 35
  unfolding skips
  skips-rest n = rw (sym (all-leading is_blank l) ∙ n)

-- a line that is not blank has a first byte
pub blank-nil : (l : List ℕ) → list_all is_blank l ≡ false → 0 < length l
blank-nil [] e = absurd (false≢true (sym e))
blank-nil (b ∷ l) e = omega arith

-- ---- whole lines

module _ (line s : List ℕ) (e : s ≡ body_of line) where
  pub said-skipped : skips s ≡ true → line_of (body_of line) ≡ Ok None
  unfolding line_of
  said-skipped t = rw (← e, t)

  pub said-bank : skips s ≡ false → line_of (body_of line) ≡ not_skipped (bank_of s)
  unfolding line_of
  said-bank t = rw (← e, t)

-- ---- banks

module _ (l : List ℕ) (d : ℕ) (e : d ≡ leading_of is_digit l) where
  pub bank-none : d ≡ 0 → bank_of l ≡ Err NotABank
  unfolding bank_of
  bank-none z = rw (eq-eqb (leading_of is_digit l) 0 (sym e ∙ z))

  module _ (some : d ≡ 0 → ⊥) (n : Option ℕ) (q : n ≡ numbered (number_of (take d l))) where
    bank-behind : bank_of l ≡ behind_need n (drop d l)
    unfolding bank_of
    bank-behind =
        rw (ne_eqb (leading_of is_digit l) 0 (λ z. some (e ∙ z)))
        (ap (λ (k : ℕ). behind_need (numbered (number_of (take k l))) (drop k l)) (sym e) ∙ ap (λ (m : Option ℕ). behind_need m (drop d l)) (sym q))

    pub bank-need : length (drop d l) ≡ 0 → bank_of l ≡ need_said n
    bank-need h = bank-behind ∙ go (drop d l) h
      where
        go : (s : List ℕ) → length s ≡ 0 → behind_need n s ≡ need_said n
        go [] h = refl
        go (b ∷ s) h = absurd (omega arith)

    module _ (b : ℕ) (s : List ℕ) (h : drop d l ≡ b ∷ s) where
      bank-more : bank_of l ≡ behind_need n (b ∷ s)
      bank-more = bank-behind ∙ ap (behind_need n) h

      pub bank-apart : is_separator b && is_number s ≡ false → bank_of l ≡ Err NotABank
      bank-apart t = bank-more ∙ rw t

      pub bank-code : is_separator b && is_number s ≡ true → bank_of l ≡ proposal_said n (numbered (number_of s))
      bank-code t = bank-more ∙ rw t
