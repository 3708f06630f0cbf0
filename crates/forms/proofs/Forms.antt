-- The pairs, from tests computed over the table: the other form of a setting is one too, and its other form is the first (`other-low`,
-- `other-other`); a pair's rows (`all-matched`). `single` as a statement about every slot (`single-forms`, `forms-single`), and found in a
-- header (`both-agree`).
-- Assumes nothing.
use mathlib.Core.Path.{ap, ap₂, refl, subst, sym, ◌∙◌, ◌≡◌}
use mathlib.Core.Bool.{Bool, cond, false, false≢true, not, true, ◌&&◌}
use mathlib.Core.List.{List, [], ◌∷◌}
use Prim.Native.Nat.{suc, ℕ, ◌<◌, ◌≤◌}
use native.Mathlib.Omega.{arith}
use borrow.Author.Tests.{eqb-true, ltb-false, ltb-true, ne_eqb}
use lib.Dec.{T, T_not, eqb, eqb_refl, eqb→eq, ltb, ltb→lt}
use lib.ListN.{get_or, length}
use Rattle.frame.proofs.Fields.{both_left, both_right}
use Rattle.table.specs.Table.{forms, len_of, op_of, row_of, settings}
use Rattle.table.proofs.Below.{below, below_at}
use Rattle.settings.specs.Settings.{slot_for}
use Rattle.contents.specs.Frames.{held}
use Rattle.forms.specs.Forms.{both_in, in_both, long_of, other, other_in, short_of, single}

-- ---- the tests

abbrev returning : ℕ → Bool
returning s = ltb (other s) settings && eqb (other (other s)) s

all-return : T (below returning settings)
unfolding below other other_in slot_for
all-return = tt

-- The slots of a pair are settings', and not the same
abbrev paired : List ℕ → Bool
paired p = (ltb (short_of p) settings && ltb (long_of p) settings) && (eqb (other (short_of p)) (long_of p) && not (eqb (long_of p) (short_of p)))

all-paired : T (below (λ i. paired (get_or forms i [])) (length forms))
unfolding below other other_in slot_for
all-paired = tt

-- and its rows have one opcode, the shorter form first.
abbrev matched : List ℕ → Bool
matched p = eqb (op_of (row_of (get_or p 0 0))) (op_of (row_of (get_or p 1 0))) && ltb (len_of (row_of (get_or p 0 0))) (len_of (row_of (get_or p 1 0)))

pub all-matched : T (below (λ i. matched (get_or forms i [])) (length forms))
unfolding below
all-matched = tt

-- Kinds 14 and 15 have one opcode too, and are two settings of one form each.
pub two-settings : (other (slot_for 14) ≡ slot_for 14) × (other (slot_for 15) ≡ slot_for 15)
unfolding other other_in slot_for
two-settings = (refl, refl)

-- ---- the other form

module _ (s : ℕ) (a : s < settings) where
  returns : T (returning s)
  returns = below_at returning settings s all-return a

  pub other-low : other s < settings
  other-low = ltb→lt _ _ (both_left (ltb (other s) settings) (eqb (other (other s)) s) returns)

  returned : other (other s) ≡ s
  returned = eqb→eq _ _ (both_right (ltb (other s) settings) (eqb (other (other s)) s) returns)

-- ---- both forms

-- no setting is held in both its forms
abbrev pub OneForm : List (List ℕ) → Type 0
OneForm fs = (s : ℕ) → held s fs ≡ true → held (other s) fs ≡ true → other s ≡ s

module _ (q : ℕ → Bool) where
  -- where no pair passes twice, a slot whose other form passes too is its own
  apart : (ps : List (List ℕ)) → both_in ps q ≡ false → (s : ℕ) → q s ≡ true → q (other_in ps s) ≡ true → other_in ps s ≡ s
  unfolding both_in other_in
  apart [] n s h o = refl
  apart (p ∷ ps) n s h o = go (λ z. apart ps z s h) (eqb s (short_of p)) refl (eqb s (long_of p)) refl n o
    where
      two : q (short_of p) ≡ true → q (long_of p) ≡ true → cond (q (short_of p) && q (long_of p)) true (both_in ps q) ≡ false → ⊥
      two x y z = false≢true (sym z ∙ ap₂ (λ (u v : Bool). cond (u && v) true (both_in ps q)) x y)

      rest : (t : Bool) → cond t true (both_in ps q) ≡ false → both_in ps q ≡ false
      rest true z = absurd (false≢true (sym z))
      rest false z = z

      go : (both_in ps q ≡ false → q (other_in ps s) ≡ true → other_in ps s ≡ s) → (t : Bool) → eqb s (short_of p) ≡ t → (u : Bool) → eqb s (long_of p) ≡ u
          → cond (q (short_of p) && q (long_of p)) true (both_in ps q) ≡ false
          → q (cond t (long_of p) (cond u (short_of p) (other_in ps s))) ≡ true → cond t (long_of p) (cond u (short_of p) (other_in ps s)) ≡ s
      go ih true e u w z y = absurd (two (ap q (sym (eqb-true _ _ e)) ∙ h) y z)
      go ih false e true w z y = absurd (two y (ap q (sym (eqb-true _ _ w)) ∙ h) z)
      go ih false e false w z y = ih (rest (q (short_of p) && q (long_of p)) z) y

  -- pairs of which none passes twice
  none : (ps : List (List ℕ)) → ((i : ℕ) → i < length ps → q (short_of (get_or ps i [])) ≡ true → q (long_of (get_or ps i [])) ≡ true → ⊥) → both_in ps q ≡ false
  unfolding both_in
  none [] h = refl
  none (p ∷ ps) h = go (none ps (λ i a. h (suc i) (omega arith))) (q (short_of p)) refl (q (long_of p)) refl
    where
      go : both_in ps q ≡ false → (x : Bool) → q (short_of p) ≡ x → (y : Bool) → q (long_of p) ≡ y → cond (x && y) true (both_in ps q) ≡ false
      go rest true e true w = absurd (h 0 (omega arith) e w)
      go rest true e false w = rest
      go rest false e y w = rest

  same : (r : ℕ → Bool) (ps : List (List ℕ)) → ((i : ℕ) → i < length ps → (q (short_of (get_or ps i [])) ≡ r (short_of (get_or ps i [])))
      × (q (long_of (get_or ps i [])) ≡ r (long_of (get_or ps i [])))) → both_in ps q ≡ both_in ps r
  unfolding both_in
  same r [] h = refl
  same r (p ∷ ps) h =
      let z = h 0 (omega arith) in
      ap₂ (λ (t u : Bool). cond t true u) (ap₂ (λ (x y : Bool). x && y) z.0 z.1) (same r ps (λ i a. h (suc i) (omega arith)))

-- what each pair of the table is
record Pair (p : List ℕ) : Type 0 where
  short : short_of p < settings
  long : long_of p < settings
  others : other (short_of p) ≡ long_of p
  two : long_of p ≡ short_of p → ⊥

pair : (i : ℕ) → i < length forms → Pair (get_or forms i [])
pair i a =
    let p : List ℕ = get_or forms i [] in
    let t = below_at (λ j. paired (get_or forms j [])) (length forms) i all-paired a in
    let lows : Bool = ltb (short_of p) settings && ltb (long_of p) settings in
    let rest : Bool = eqb (other (short_of p)) (long_of p) && not (eqb (long_of p) (short_of p)) in
    let l = both_left lows rest t in
    let r = both_right lows rest t in
    record {
      short = ltb→lt _ _ (both_left (ltb (short_of p) settings) (ltb (long_of p) settings) l);
      long = ltb→lt _ _ (both_right (ltb (short_of p) settings) (ltb (long_of p) settings) l);
      others = eqb→eq _ _ (both_left (eqb (other (short_of p)) (long_of p)) (not (eqb (long_of p) (short_of p))) r);
      two = λ e. T_not (eqb (long_of p) (short_of p)) (both_right (eqb (other (short_of p)) (long_of p)) (not (eqb (long_of p) (short_of p))) r)
          (subst (λ (x : ℕ). T (eqb (long_of p) x)) e (eqb_refl (long_of p)));
    }

alone : (s : ℕ) (ps : List (List ℕ)) → ((i : ℕ) → i < length ps → (s ≡ short_of (get_or ps i []) → ⊥) × (s ≡ long_of (get_or ps i []) → ⊥)) → other_in ps s ≡ s
unfolding other_in
alone s [] h = refl
alone s (p ∷ ps) h = let z = h 0 (omega arith) in rw (ne_eqb _ _ z.0, ne_eqb _ _ z.1) (alone s ps (λ i a. h (suc i) (omega arith)))

other-past : (s : ℕ) → settings ≤ s → other s ≡ s
unfolding other
other-past s h = alone s forms (λ i a. ((λ e. absurd (omega (arith, (pair i a).short))), λ e. absurd (omega (arith, (pair i a).long))))

pub other-other : (s : ℕ) → other (other s) ≡ s
other-other s = go (ltb s settings) refl
  where
    go : (t : Bool) → ltb s settings ≡ t → other (other s) ≡ s
    go true e = returned s (ltb-true s settings e)
    go false e = let h : other s ≡ s = other-past s (ltb-false s settings e) in ap other h ∙ h

module _ (fs : List (List ℕ)) where
  pub single-forms : single fs ≡ true → OneForm fs
  unfolding single in_both other
  single-forms h s p q = apart (λ j. held j fs) forms (not-true (both_in forms (λ j. held j fs)) h) s p q
    where
      not-true : (t : Bool) → not t ≡ true → t ≡ false
      not-true true e = absurd (false≢true e)
      not-true false e = refl

  pub forms-single : OneForm fs → single fs ≡ true
  unfolding single in_both
  forms-single S = ap not (none (λ j. held j fs) forms (λ i a p q.
      let z = pair i a in z.two (sym z.others ∙ S (short_of (get_or forms i [])) p (ap (λ (s : ℕ). held s fs) z.others ∙ q))))

-- tests that agree on every setting's slot find the same
pub both-agree : (q r : ℕ → Bool) → ((s : ℕ) → s < settings → q s ≡ r s) → in_both q ≡ in_both r
unfolding in_both
both-agree q r h = same q r forms (λ i a. (h _ (pair i a).short, h _ (pair i a).long))
