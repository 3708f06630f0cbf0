-- How reading a text goes on: what the lines done give and what is left make up what the text gives (`Going`). A line keeps that, with
-- its newline and without (`going-newline`, `going-last`), and at the text's end it is all (`going_end`).
-- Assumes nothing.
use mathlib.Core.Path.{◌≡◌, refl, ap, ap₂, sym, ◌∙◌}
use mathlib.Core.Bool.{Bool, cond, false, not, true, false≢true}
use mathlib.Core.List.{List, [], ◌∷◌}
use Prim.Native.Nat.{ℕ, suc, ◌+◌, ◌<◌, ◌≤◌}
use native.Mathlib.Numerals.{add-one}
use native.Mathlib.Omega.{arith}
use lib.Dec.{eqb}
use lib.ListN.{drop, drop_of_length-le, length, length-drop, take}
use lib.Seq.{drop-drop}
use Rattle.std.specs.Prelude.{Option, Result, Ok, Err, is_ok}
use Rattle.bank_list.specs.declared.Fault.{Fault}
use Rattle.bank_list.specs.declared.WrongLine.{WrongLine}
use Rattle.bank_list.specs.declared.Bank.{Bank}
use Rattle.bank_list.specs.declared.Listed.{Listed}
use Rattle.bank_list.specs.Lines.{body_of, is_inside, leading_of, line_of, lines_of, onto}
use Rattle.bank_list.specs.Banks.{Paired, Parsed, after_line, banks, faulty, listed, parsed, parsed_from}
use Rattle.bank_list.proofs.States.{paired-after}

-- the first line is what stands before the first newline
lines-first : (b : ℕ) (s : List ℕ)
    → lines_of (b ∷ s) ≡ take (leading_of is_inside (b ∷ s)) (b ∷ s) ∷ lines_of (drop (suc (leading_of is_inside (b ∷ s))) (b ∷ s))
unfolding lines_of leading_of
lines-first b [] = go (eqb b 10)
  where
    go : (t : Bool) → cond t ([] ∷ []) ((b ∷ []) ∷ [])
        ≡ take (cond (not t) 1 0) (b ∷ []) ∷ lines_of (drop (suc (cond (not t) 1 0)) (b ∷ []))
    go true = refl
    go false = refl
lines-first b (d ∷ s) = go (eqb b 10) (lines-first d s)
  where
    n : ℕ
    n = leading_of is_inside (d ∷ s)

    go : (t : Bool) → lines_of (d ∷ s) ≡ take n (d ∷ s) ∷ lines_of (drop (suc n) (d ∷ s))
        → cond t ([] ∷ lines_of (d ∷ s)) (onto b (lines_of (d ∷ s)))
        ≡ take (cond (not t) (suc n) 0) (b ∷ d ∷ s) ∷ lines_of (drop (suc (cond (not t) (suc n) 0)) (b ∷ d ∷ s))
    go true e = refl
    go false e = ap (onto b) e

pub faulty-stays : (j : ℕ) (f : Fault) (k : ℕ) (ls : List (List ℕ)) → parsed_from (faulty j f) k ls ≡ faulty j f
unfolding parsed_from
faulty-stays j f k [] = refl
faulty-stays j f k (l ∷ ls) = faulty-stays j f (suc k) ls

pub record Going (text : List ℕ) (l : Listed) (done at : ℕ) : Type 0 where
  pub inside : at ≤ length text
  pub few : done ≤ at
  pub state : Parsed
  pub paired : Paired state
  pub shown : Ok l ≡ listed state
  pub left : parsed text ≡ parsed_from state done (lines_of (drop at text))

pub going_start : (text : List ℕ) (l : Listed) → Ok l ≡ listed (banks [] []) → Going text l 0 0
unfolding parsed
going_start text l e = record { inside = omega arith; few = omega arith; state = banks [] []; paired = tt; shown = e; left = refl }

module _ (text : List ℕ) (l : Listed) (done at : ℕ) (g : Going text l done at) where
  pub going_end : length text ≤ at → Ok l ≡ listed (parsed text)
  unfolding parsed_from lines_of
  going_end h = g.shown ∙ ap listed (sym (g.left ∙ rw (drop_of_length-le text {i = at} h)))

  module _ (n : ℕ) (e : n ≡ leading_of is_inside (drop at text)) (h : at < length text) where
    first : lines_of (drop at text) ≡ take n (drop at text) ∷ lines_of (drop (at + n + 1) text)
    first = go (drop at text) refl
      where
        go : (s : List ℕ) → drop at text ≡ s → lines_of (drop at text) ≡ take n (drop at text) ∷ lines_of (drop (at + n + 1) text)
        go [] q = absurd (omega (arith, length-drop at text, ap length q))
        go (b ∷ s) q =
            let m : n ≡ leading_of is_inside (b ∷ s) = e ∙ ap (leading_of is_inside) q in
            let far : at + suc n ≡ at + n + 1 = omega arith in
            ap lines_of q
            ∙ lines-first b s
            ∙ ap₂ (λ (k : ℕ) (r : List ℕ). take k r ∷ lines_of (drop (suc k) r)) (sym m) (sym q)
            ∙ ap (λ (r : List ℕ). take n (drop at text) ∷ lines_of r) (drop-drop (suc n) at text ∙ ap (λ (k : ℕ). drop k text) far)

    module _ (r : Result Listed WrongLine) (said : Result (Option Bank) Fault) (q : said ≡ line_of (body_of (take n (drop at text))))
        (f : (p : Parsed) → Paired p → Ok l ≡ listed p → r ≡ listed (after_line p (done + 1) said)) where
      abbrev next : Parsed
      next = after_line g.state (done + 1) said

      on : parsed text ≡ parsed_from next (done + 1) (lines_of (drop (at + n + 1) text))
      unfolding parsed_from
      on =
          g.left
          ∙ ap (parsed_from g.state done) first
          ∙ ap₂ (λ (k : ℕ) (s : Result (Option Bank) Fault). parsed_from (after_line g.state k s) k (lines_of (drop (at + n + 1) text))) (sym (add-one done)) (sym q)

      -- a wrong line ends it
      pub going-wrong : (w : WrongLine) → Err w ≡ r → Err w ≡ listed (parsed text)
      unfolding listed
      going-wrong w e = go next (e ∙ f g.state g.paired g.shown) on
        where
          go : (p : Parsed) → Err w ≡ listed p → parsed text ≡ parsed_from p (done + 1) (lines_of (drop (at + n + 1) text)) → Err w ≡ listed (parsed text)
          go (banks ns cs) q o = absurd (false≢true (ap is_ok q))
          go (faulty j x) q o = q ∙ ap listed (sym (o ∙ faulty-stays j x (done + 1) (lines_of (drop (at + n + 1) text))))

      going-line : (m : Listed) → Ok m ≡ r → (place : ℕ) → place ≤ length text → at < place → drop place text ≡ drop (at + n + 1) text
          → Going text m (done + 1) place
      going-line m e place a b d = record {
        inside = a;
        few = omega (arith, g.few);
        state = next;
        paired = paired-after g.state (done + 1) said g.paired;
        shown = e ∙ f g.state g.paired g.shown;
        left = on ∙ ap (λ (s : List ℕ). parsed_from next (done + 1) (lines_of s)) (sym d);
      }

      pub going-newline : (m : Listed) → Ok m ≡ r → at + n < length text → Going text m (done + 1) (at + n + 1)
      going-newline m e a = going-line m e (at + n + 1) (omega arith) (omega arith) refl

      -- a last line that lacks its newline
      pub going-last : (m : Listed) → Ok m ≡ r → length text ≤ at + n → at + n ≤ length text → Going text m (done + 1) (at + n)
      going-last m e a b =
          going-line m e (at + n) b (omega arith)
          (drop_of_length-le text {i = at + n} a ∙ sym (drop_of_length-le text {i = at + n + 1} (omega arith)))
