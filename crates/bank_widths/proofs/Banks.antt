-- A list bank by bank, in the source's own terms: the judgement goes on (`judge-pass`), stops (`judge-unserved`, `judge-other`) or ends
-- (`judge-end`); the list of the right codes has each bank's at its place (`codes_at`), and is judged as its needs can be served (`found-pass`,
-- `found-stop`). Lengths are right exactly if there are 1 to 32 banks and as many codes (`lengths-say`, `say-lengths`).
-- Assumes nothing.
use mathlib.Core.Path.{◌≡◌, refl, sym, ap, ◌∙◌}
use mathlib.Core.Bool.{Bool, true, false, cond, ◌&&◌, false≢true}
use mathlib.Core.List.{List, [], ◌∷◌, ◌++◌, append-nil}
use Prim.Native.Nat.{ℕ, zero, suc, ◌+◌, ◌≤◌, ◌<◌}
use native.Mathlib.Numerals.{add-one}
use native.Mathlib.Omega.{arith}
use borrow.Author.Tests.{eq-eqb, eqb-true, le-leb, leb-true}
use lib.Dec.{eqb, leb}
use lib.ListN.{drop, drop_of_length-le, get_or, length, set, take}
use lib.Seq.{drop-cons, drop-length, paste, take-length, take-suc, take-suc-set}
use Rattle.refusal.specs.declared.Refusal.{Refusal}
use Rattle.refusal.specs.declared.Refusal.TheVariants.{NoWidth, NotNarrowest, ListLength}
use Rattle.spans.specs.Spans.{written}
use Rattle.rx_bw.proofs.Names.{both}
use Rattle.std.specs.Prelude.{Option, Some, None, Result, Ok, Err, is_ok, is_some, unwrap_or}
use Rattle.width_rule.specs.Rule.{is_right, is_served, right_for}
use Rattle.bank_widths.specs.Lists.{found, found_in, if_done, judged, judged_from, lengths_right, right_codes}
use Rattle.bank_widths.specs.Keys.{choice_for}
use Rattle.width_rule.proofs.Rules.{means-right, right-means, right-once}
use Rattle.bank_widths.proofs.Search.{served-right}

-- ---- what a choice says of its bank

module _ (need : ℕ) where
  pub choice-served : (c : ℕ) → choice_for need ≡ Some c → is_served need ≡ true
  unfolding choice_for
  choice-served c e = by (is_served need) refl e
    where
      by : (s : Bool) → is_served need ≡ s → cond s (Some (right_for need)) None ≡ Some c → is_served need ≡ true
      by true p q = p
      by false p q = absurd (false≢true (ap is_some q))

  pub choice-right : (c : ℕ) → choice_for need ≡ Some c → right_for need ≡ c
  unfolding choice_for
  choice-right c e = ap (λ (s : Bool). unwrap_or (cond s (Some (right_for need)) None) 0) (sym (choice-served c e)) ∙ ap (λ (o : Option ℕ). unwrap_or o 0) e

  pub choice-none : choice_for need ≡ None → is_served need ≡ false
  unfolding choice_for
  choice-none e = by (is_served need) refl e
    where
      by : (s : Bool) → is_served need ≡ s → cond s (Some (right_for need)) None ≡ None → is_served need ≡ false
      by true p q = absurd (false≢true (sym (ap is_some q)))
      by false p q = p

  -- the right code is right, and no other
  pub right-itself : is_served need ≡ true → is_right need (right_for need) ≡ true
  right-itself s = means-right need (right_for need) (served-right need s)

  pub right-other : is_served need ≡ true → (d : ℕ) → (d ≡ right_for need → ⊥) → is_right need d ≡ false
  right-other s d n = by (is_right need d) refl
    where
      by : (b : Bool) → is_right need d ≡ b → b ≡ false
      by true e = absurd (n (right-once need d (right_for need) (right-means need d e) (served-right need s)))
      by false e = refl

-- ---- the judgement

module _ (ns cs : List ℕ) (i : ℕ) (h : i < length ns) (k : i < length cs) where
  need : drop i ns ≡ get_or ns i 0 ∷ drop (i + 1) ns
  need = rw (add-one i, drop-cons ns i 0 h)

  code : drop i cs ≡ get_or cs i 0 ∷ drop (i + 1) cs
  code = rw (add-one i, drop-cons cs i 0 k)

  pub judge-pass : is_served (get_or ns i 0) ≡ true → is_right (get_or ns i 0) (get_or cs i 0) ≡ true
      → judged_from i (drop i ns) (drop i cs) ≡ judged_from (i + 1) (drop (i + 1) ns) (drop (i + 1) cs)
  unfolding judged_from
  judge-pass s r = rw (need, code, s, r, add-one i)

  pub judge-unserved : is_served (get_or ns i 0) ≡ false → judged_from i (drop i ns) (drop i cs) ≡ Err (NoWidth (i + 1))
  unfolding judged_from
  judge-unserved s = rw (need, code, s, add-one i)

  pub judge-other : is_served (get_or ns i 0) ≡ true → is_right (get_or ns i 0) (get_or cs i 0) ≡ false
      → judged_from i (drop i ns) (drop i cs) ≡ Err (NotNarrowest (i + 1))
  unfolding judged_from
  judge-other s r = rw (need, code, s, r, add-one i)

pub judge-end : (ns cs : List ℕ) (i : ℕ) → length ns ≤ i → judged_from i (drop i ns) cs ≡ Ok i
unfolding judged_from
judge-end ns cs i h = rw (drop_of_length-le ns h)

-- ---- the right codes

pub codes-length : (ns : List ℕ) → length (right_codes ns) ≡ length ns
unfolding right_codes
codes-length [] = refl
codes-length (n ∷ ns) = ap suc (codes-length ns)

pub codes_at : (ns : List ℕ) (i : ℕ) → i < length ns → get_or (right_codes ns) i 0 ≡ right_for (get_or ns i 0)
unfolding right_codes
codes_at [] i h = absurd (omega (arith, h))
codes_at (n ∷ ns) zero h = refl
codes_at (n ∷ ns) (suc i) h = codes_at ns i (omega (arith, h))

-- one code more of them
pub codes-next : (ns cs : List ℕ) (i c : ℕ) → i < length ns → i < length cs → right_for (get_or ns i 0) ≡ c → take i cs ≡ take i (right_codes ns)
    → take (i + 1) (set cs i c) ≡ take (i + 1) (right_codes ns)
codes-next ns cs i c h k e t =
    ap (λ (m : ℕ). take m (set cs i c)) (add-one i)
    ∙ take-suc-set cs i c k
    ∙ ap (λ (l : List ℕ). l ++ (c ∷ [])) t
    ∙ ap (λ (x : ℕ). take i (right_codes ns) ++ (x ∷ [])) (sym (codes_at ns i h ∙ e))
    ∙ sym (ap (λ (m : ℕ). take m (right_codes ns)) (add-one i) ∙ take-suc (right_codes ns) i 0 (omega (arith, h, codes-length ns)))

module _ (ns : List ℕ) (i : ℕ) (h : i < length ns) where
  within : i < length (right_codes ns)
  within = omega (arith, h, codes-length ns)

  pub found-pass : is_served (get_or ns i 0) ≡ true
      → judged_from i (drop i ns) (drop i (right_codes ns)) ≡ judged_from (i + 1) (drop (i + 1) ns) (drop (i + 1) (right_codes ns))
  found-pass s = judge-pass ns (right_codes ns) i h within s (ap (is_right (get_or ns i 0)) (codes_at ns i h) ∙ right-itself (get_or ns i 0) s)

  pub found-stop : is_served (get_or ns i 0) ≡ false → judged_from i (drop i ns) (drop i (right_codes ns)) ≡ Err (NoWidth (i + 1))
  found-stop s = judge-unserved ns (right_codes ns) i h within s

-- ---- whole lists

module _ (n m : ℕ) where
  pub lengths-say : lengths_right n m ≡ true → (1 ≤ n) × (n ≤ 32) × (n ≡ m)
  unfolding lengths_right
  lengths-say h =
      let p = both (leb 1 n) (leb n 32 && eqb n m) h in
      let q = both (leb n 32) (eqb n m) p.1 in
      (leb-true 1 n p.0, leb-true n 32 q.0, eqb-true n m q.1)

  pub say-lengths : 1 ≤ n → n ≤ 32 → n ≡ m → lengths_right n m ≡ true
  unfolding lengths_right
  say-lengths l h e = rw (le-leb 1 n l, le-leb n 32 h, eq-eqb n m e)

module _ (ns cs : List ℕ) where
  pub judged-in : lengths_right (length ns) (length cs) ≡ true → judged_from 0 ns cs ≡ judged ns cs
  unfolding judged
  judged-in h = rw h

  pub judged-out : lengths_right (length ns) (length cs) ≡ false → Err ListLength ≡ judged ns cs
  unfolding judged
  judged-out h = rw h

count_of : Result ℕ Refusal → ℕ
count_of (Ok n) = n
count_of (Err x) = 0

-- a list that is judged right to its end has been counted to its end
pub judged-count : (k m : ℕ) (ns cs : List ℕ) → length cs ≡ length ns → judged_from k ns cs ≡ Ok m → m ≡ k + length ns
unfolding judged_from count_of
judged-count k m [] cs e d = sym (ap count_of d) ∙ omega arith
judged-count k m (n ∷ ns) [] e d = absurd (omega (arith, e))
judged-count k m (n ∷ ns) (c ∷ cs) e d = by (is_served n) (is_right n c) d (judged-count (suc k) m ns cs (omega (arith, e)))
  where
    by : (s r : Bool) → cond s (cond r (judged_from (suc k) ns cs) (Err (NotNarrowest (suc k)))) (Err (NoWidth (suc k))) ≡ Ok m
        → (judged_from (suc k) ns cs ≡ Ok m → m ≡ suc k + length ns) → m ≡ k + length (n ∷ ns)
    by true true p f = omega (arith, f p)
    by true false p f = absurd (false≢true (ap is_ok p))
    by false r p f = absurd (false≢true (ap is_ok p))

module _ (ns out : List ℕ) where
  module _ (h : lengths_right (length ns) (length out) ≡ true) where
    pub found-judged : judged_from 0 ns (right_codes ns) ≡ found ns (length out)
    unfolding found
    found-judged = rw h

    pub found-kept : (x : Refusal) → judged_from 0 ns (right_codes ns) ≡ Err x → out ≡ found_in ns out
    unfolding found_in
    found-kept x e = sym (ap (λ (a : Result ℕ Refusal). if_done a (right_codes ns) out) (sym found-judged ∙ e))

    -- the codes found stand in the whole output
    pub found-written : (m : ℕ) (cs : List ℕ) → judged_from 0 ns (right_codes ns) ≡ Ok m → take (length ns) cs ≡ right_codes ns
        → written out 0 (take (length ns) cs) ≡ found_in ns out
    unfolding found_in written
    found-written m cs e t =
        let n : length (right_codes ns) ≡ length out = codes-length ns ∙ (lengths-say (length ns) (length out) h).2 in
        let all : leb (0 + length (right_codes ns)) (length out) ≡ true = le-leb (0 + length (right_codes ns)) (length out) (omega (arith, n)) in
        let z : 0 + length (right_codes ns) ≡ length out = omega (arith, n) in
        ap (written out 0) t
        ∙ ap (λ (b : Bool). cond b (paste out 0 (right_codes ns) (length (right_codes ns))) out) all
        ∙ ap (λ (l : List ℕ). take (length (right_codes ns)) (right_codes ns) ++ l) (ap (λ (k : ℕ). drop k out) z ∙ drop-length out)
        ∙ append-nil (take (length (right_codes ns)) (right_codes ns))
        ∙ take-length (right_codes ns)
        ∙ sym (ap (λ (a : Result ℕ Refusal). if_done a (right_codes ns) out) (sym found-judged ∙ e))

  module _ (h : lengths_right (length ns) (length out) ≡ false) where
    pub found-out : Err ListLength ≡ found ns (length out)
    unfolding found
    found-out = rw h

    pub found_left : out ≡ found_in ns out
    unfolding found_in
    found_left = sym (ap (λ (a : Result ℕ Refusal). if_done a (right_codes ns) out) (sym found-out))
