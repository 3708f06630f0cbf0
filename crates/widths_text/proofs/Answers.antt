-- What the answers of bank_widths mean for the texts: a list that is found is short (`found-few`), and its codes stand in the output that was
-- lent (`needs-lines`); a bank that is refused by 20 can be served (`refused-served`), and a search for it alone finds its code (`right-line`).
-- Assumes nothing.
use mathlib.Core.Path.{◌≡◌, refl, sym, ap, ◌∙◌}
use mathlib.Core.Bool.{Bool, true, false, cond}
use mathlib.Core.Logic.{⊎_elim}
use mathlib.Core.List.{List, [], ◌∷◌, ◌++◌, append-nil}
use Prim.Native.Nat.{ℕ, ◌+◌, ◌-◌, ◌≤◌}
use native.Mathlib.Omega.{arith}
use borrow.Author.Tests.{eq-eqb, ne_eqb}
use lib.ListN.{length, get_or, take, length-append}
use lib.Seq.{take_at}
use Rattle.refusal.specs.declared.Refusal.{Refusal}
use Rattle.refusal.specs.declared.Refusal.TheVariants.{ListLength}
use Rattle.refusal.specs.Numbers.{number_of, place_of}
use Rattle.std.specs.Prelude.{Result, Ok, Err}
use Rattle.width_rule.specs.Rule.{is_served, right_for}
use Rattle.bank_widths.specs.Lists.{lengths_right, judged_from, judged, right_codes, found, found_in}
use Rattle.bank_widths.proofs.Banks.{right-itself, codes-length, codes_at, lengths-say}
use Rattle.bank_widths.proofs.Laws.{Stopped, refused-means, found-accepted}
use Rattle.widths_text.specs.Text.{bank_line, line_at, bank_lines, refused_text, ServedAt, found_text, needs_text, judged_text, proposals_text}

-- ---- needs alone

pub found-few : (ns : List ℕ) (m k : ℕ) → found ns m ≡ Ok k → length ns ≤ 32
unfolding found
found-few ns m k = by (lengths_right (length ns) m) refl
  where
    by : (b : Bool) → lengths_right (length ns) m ≡ b → cond b (judged_from 0 ns (right_codes ns)) (Err ListLength) ≡ Ok k → length ns ≤ 32
    by true e f = (lengths-say (length ns) m e).1
    by false e f = absurd (let z : ◌≡◌ {A = ℕ} 0 1 = cc in omega arith)

pub needs-told : (ns : List ℕ) {m : ℕ} {r : Result ℕ Refusal} → r ≡ found ns m → m ≡ length ns → needs_text ns ≡ found_text ns r
unfolding needs_text
needs-told ns e n = ap (found_text ns) (ap (found ns) (sym n) ∙ sym e)

-- what a search into a part of an output left there, and how the front of the output is read again
module _ (ns part : List ℕ) {r : Result ℕ Refusal} {after : List ℕ} {k : ℕ} (e : r ≡ found ns (length part)) (n : length part ≡ length ns)
    (f : after ≡ found_in ns part) (d : r ≡ Ok k) (rest : List ℕ) where
  codes-stand : after ≡ right_codes ns
  codes-stand = f ∙ (found-accepted ns part k (sym e ∙ d)).0

  codes-count : length after ≡ length ns
  codes-count = ap length codes-stand ∙ codes-length ns

  pub codes-room : length ns ≤ length (after ++ rest)
  codes-room = omega (arith, codes-count, length-append after rest)

  codes-front : take (length ns) (after ++ rest) ≡ right_codes ns
  codes-front =
      take_at after rest (length ns) codes-count ∙ codes-stand

  pub codes-fit : length ns ≡ length (take (length ns) (after ++ rest))
  codes-fit = sym (ap length codes-front ∙ codes-length ns)

  pub needs-lines : needs_text ns ≡ bank_lines 0 ns (take (length ns) (after ++ rest))
  needs-lines = needs-told ns e n ∙ ap (found_text ns) d ∙ ap (bank_lines 0 ns) (sym codes-front)

-- ---- proposed codes

pub refused-served : (ns cs : List ℕ) (x : Refusal) → judged ns cs ≡ Err x → number_of x ≡ 20 → ServedAt ns (place_of x)
refused-served ns cs x e n = ⊎_elim (λ w. other 21 (ap number_of w.1) (omega arith)) (λ w. stopped w.1) (refused-means ns cs x e)
  where
    other : (m : ℕ) → number_of x ≡ m → (m ≡ 20 → ⊥) → ServedAt ns (place_of x)
    other m p q = absurd (q (sym p ∙ n))

    stopped : Stopped 0 ns cs x → ServedAt ns (place_of x)
    stopped t = ⊎_elim (λ w. other 19 (ap number_of w.1) (omega arith)) (λ w. at w.0 (ap place_of w.2)) t.why
      where
        at : is_served (get_or ns t.bank 0) ≡ true → place_of x ≡ 0 + t.bank + 1 → ServedAt ns (place_of x)
        at u p =
            let i : place_of x - 1 ≡ t.bank = omega arith in
            record {
              from_one = omega arith;
              to_last = omega (arith, t.stops.within);
              served = ap (λ (j : ℕ). is_served (get_or ns j 0)) i ∙ u;
            }

served-code : (n : ℕ) → is_served n ≡ true → found_in (n ∷ []) (0 ∷ []) ≡ right_for n ∷ []
unfolding found_in found lengths_right judged_from right_codes
served-code n s = rw (s, right-itself n s) refl

-- the line with the code that a search for the one need leaves
pub right-line : (ns : List ℕ) (k : ℕ) → ServedAt ns k → {code : List ℕ} → code ≡ found_in (get_or ns (k - 1) 0 ∷ []) (0 ∷ [])
    → line_at ns (right_codes ns) k ≡ bank_line k (get_or ns (k - 1) 0) (get_or code 0 0)
unfolding line_at
right-line ns k s e =
    let one = e ∙ served-code (get_or ns (k - 1) 0) s.served in
    ap (bank_line k (get_or ns (k - 1) 0)) (codes_at ns (k - 1) (omega (arith, s.from_one, s.to_last)) ∙ sym (ap (λ (l : List ℕ). get_or l 0 0) one))

module _ (ns cs : List ℕ) (x : Refusal) (e : judged ns cs ≡ Err x) where
  pub proposals-right : number_of x ≡ 20 → proposals_text ns cs ≡ refused_text x ++ line_at ns (right_codes ns) (place_of x)
  unfolding proposals_text
  proposals-right n = ap (judged_text ns (right_codes ns)) e ∙ rw (eq-eqb (number_of x) 20 n) refl

  pub proposals-other : (number_of x ≡ 20 → ⊥) → proposals_text ns cs ≡ refused_text x
  unfolding proposals_text
  proposals-other n = ap (judged_text ns (right_codes ns)) e ∙ rw (ne_eqb (number_of x) 20 n) (append-nil (refused_text x))
