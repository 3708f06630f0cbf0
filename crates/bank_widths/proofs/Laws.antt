-- What the request asks of lists, bank by bank (REFERENCE, "Widths for banks"); width_rule, proofs/Rules.antt, has what a right code is, and that
-- there is at most one.
--     served-most                 a need can be served exactly if it is at most 3,076,923 Hz
--     accepts-all, all-accepts    a list of codes is accepted exactly if the lengths are right and every code is
--     auto-never                  `BwAuto` is never right
--     found-accepted              a list that is found is accepted
--     accepted-only               and is the only one that is
--     accepted-found              where a list is accepted, that one is found
--     served-found, found-served  a list is found exactly if the lengths are right and every need can be served
--     refused-means               21 is given only where a length is wrong; 19 and 20 with a bank only where the lengths and all banks before it are right
--                                 and that bank cannot be served, or can be and has another code than the right one
--     nineteen, twenty, twenty-one   and wherever that is so
--     found-means                 find is refused by 21 only for a length, and else only by 19, at the first bank that cannot be served
--     found-nineteen, found-twenty-one   and wherever that is so
--     twenty-right                a bank that is refused by 20 has a right code
--     found-keeps                 where find is refused, its output is as it was
--     judged-place, found-place   no place is past 32
-- Assumes nothing.
use mathlib.Core.Path.{◌≡◌, refl, sym, ap, ap₂, subst, ◌∙◌}
use mathlib.Core.Bool.{Bool, true, false, cond, false≢true}
use mathlib.Core.List.{List, [], ◌∷◌}
use mathlib.Core.Logic.{◌⊎◌, inl, inr}
use Prim.Native.Nat.{ℕ, zero, suc, ◌+◌, ◌*◌, ◌-◌, ◌≤◌, ◌<◌}
use native.Mathlib.Nat.{mul-le-mul_left}
use native.Mathlib.Omega.{arith}
use borrow.Author.Tests.{leb-false, leb-true}
use lib.Dec.{leb}
use lib.ListN.{drop, get_or, length, take}
use Rattle.table.specs.Codes.{rx_bw_codes}
use Rattle.rx_bw.specs.Width.{divisor}
use Rattle.rx_bw.proofs.Names.{named_in}
use Rattle.refusal.specs.declared.Refusal.{Refusal}
use Rattle.refusal.specs.declared.Refusal.TheVariants.{NoWidth, NotNarrowest, ListLength}
use Rattle.refusal.specs.Numbers.{number_of, place_of}
use Rattle.std.specs.Prelude.{Result, Ok, Err, is_ok}
use Rattle.width_rule.specs.Rule.{is_right, is_served}
use Rattle.bank_widths.specs.Lists.{found, found_in, if_done, judged, judged_from, lengths_right, right_codes}
use Rattle.width_rule.proofs.Listed.{listed-bounds, widest}
use Rattle.width_rule.proofs.Rules.{Right, any-no, any-yes, means-right, right-found, right-means, right-served, suffices-is, suffices-says}
use Rattle.bank_widths.proofs.Search.{served-right}
use Rattle.bank_widths.proofs.Banks.{codes_at, codes-length, found-out, judge-other, judge-unserved, judged-count, judged-in, judged-out, lengths-say, right-itself}

-- every code is right for its bank, and there are as many codes as banks
abbrev pub AllRight : List ℕ → List ℕ → Type 0
AllRight [] [] = Unit {0}
AllRight [] (c ∷ cs) = ⊥
AllRight (n ∷ ns) [] = ⊥
AllRight (n ∷ ns) (c ∷ cs) = Right n c × AllRight ns cs

-- `BwAuto` is never right
pub auto-never : (need : ℕ) → Right need 255 → ⊥
auto-never need r = omega (arith, (listed-bounds 255 r.listed).byte)

-- ---- which needs can be served

-- 13 times 3,076,923 is 39,999,999
pub served-most : (need : ℕ) → is_served need ≡ leb need 3076923
unfolding is_served
served-most need = by (leb need 3076923) refl
  where
    by : (b : Bool) → leb need 3076923 ≡ b → is_served need ≡ b
    by true e =
        let h : need ≤ 3076923 = leb-true need 3076923 e in
        let q : need * divisor 0 ≡ need * 13 = ap (λ (k : ℕ). need * k) widest.1 in
        any-yes need 0 rx_bw_codes (suffices-is need 0 widest.0 (omega (arith, h, q))) (named_in 0 widest.0)
    by false e =
        any-no need rx_bw_codes
        (λ c s.
        let p = suffices-says need c s in
        let m : need * 13 ≤ need * divisor c = mul-le-mul_left need (listed-bounds c p.0).least in
        omega (arith, leb-false need 3076923 e, p.1, m))

-- ---- lists that are accepted

all-length : (ns cs : List ℕ) → AllRight ns cs → length ns ≡ length cs
all-length [] [] a = refl
all-length [] (c ∷ cs) a = absurd a
all-length (n ∷ ns) [] a = absurd a
all-length (n ∷ ns) (c ∷ cs) a = ap suc (all-length ns cs a.1)

judged-all : (k : ℕ) (ns cs : List ℕ) → AllRight ns cs → judged_from k ns cs ≡ Ok (k + length ns)
unfolding judged_from
judged-all k [] [] a = ap Ok (omega arith)
judged-all k [] (c ∷ cs) a = absurd a
judged-all k (n ∷ ns) [] a = absurd a
judged-all k (n ∷ ns) (c ∷ cs) a =
    let m : suc k + length ns ≡ k + suc (length ns) = omega arith in
    rw (right-served n c a.0, means-right n c a.0) (judged-all (suc k) ns cs a.1 ∙ ap Ok m)

all-judged : (k m : ℕ) (ns cs : List ℕ) → length ns ≡ length cs → judged_from k ns cs ≡ Ok m → AllRight ns cs
unfolding judged_from
all-judged k m [] [] e d = tt
all-judged k m [] (c ∷ cs) e d = absurd (omega (arith, e))
all-judged k m (n ∷ ns) [] e d = absurd (omega (arith, e))
all-judged k m (n ∷ ns) (c ∷ cs) e d = by (is_served n) (is_right n c) refl d (all-judged (suc k) m ns cs (omega (arith, e)))
  where
    by : (s r : Bool) → is_right n c ≡ r → cond s (cond r (judged_from (suc k) ns cs) (Err (NotNarrowest (suc k)))) (Err (NoWidth (suc k))) ≡ Ok m
        → (judged_from (suc k) ns cs ≡ Ok m → AllRight ns cs) → Right n c × AllRight ns cs
    by true true q p f = (right-means n c q, f p)
    by true false q p f = absurd (false≢true (ap is_ok p))
    by false r q p f = absurd (false≢true (ap is_ok p))

module _ (ns cs : List ℕ) where
  pub all-accepts : lengths_right (length ns) (length cs) ≡ true → AllRight ns cs → judged ns cs ≡ Ok (length ns)
  all-accepts h a = sym (judged-in ns cs h) ∙ judged-all 0 ns cs a ∙ ap Ok (omega arith)

  pub accepts-all : (m : ℕ) → judged ns cs ≡ Ok m → (lengths_right (length ns) (length cs) ≡ true) × AllRight ns cs × (m ≡ length ns)
  accepts-all m d = by (lengths_right (length ns) (length cs)) refl
    where
      by : (b : Bool) → lengths_right (length ns) (length cs) ≡ b → (lengths_right (length ns) (length cs) ≡ true) × AllRight ns cs × (m ≡ length ns)
      by true h =
          let e = (lengths-say (length ns) (length cs) h).2 in
          let j : judged_from 0 ns cs ≡ Ok m = judged-in ns cs h ∙ d in
          (h, all-judged 0 m ns cs e j, judged-count 0 m ns cs (sym e) j ∙ omega arith)
      by false h = absurd (false≢true (ap is_ok (judged-out ns cs h ∙ d)))

all-only : (ns cs : List ℕ) → AllRight ns cs → right_codes ns ≡ cs
unfolding right_codes
all-only [] [] a = refl
all-only [] (c ∷ cs) a = absurd a
all-only (n ∷ ns) [] a = absurd a
all-only (n ∷ ns) (c ∷ cs) a = ap₂ ◌∷◌ (right-found n c a.0) (all-only ns cs a.1)

-- an accepted list is that of the right codes
pub accepted-only : (ns cs : List ℕ) (m : ℕ) → judged ns cs ≡ Ok m → cs ≡ right_codes ns
accepted-only ns cs m d = sym (all-only ns cs (accepts-all ns cs m d).1)

-- ---- lists that are found

-- what is found is judged, where the output has the list's length
found-is : (ns : List ℕ) (m : ℕ) → length ns ≡ m → found ns m ≡ judged ns (right_codes ns)
unfolding found judged
found-is ns m e = ap (λ (k : ℕ). cond (lengths_right (length ns) k) (judged_from 0 ns (right_codes ns)) (Err ListLength)) (sym e ∙ sym (codes-length ns))

module _ (ns out : List ℕ) where
  pub found-accepted : (m : ℕ) → found ns (length out) ≡ Ok m → (found_in ns out ≡ right_codes ns) × (judged ns (found_in ns out) ≡ Ok m)
  unfolding found_in
  found-accepted m d = by (lengths_right (length ns) (length out)) refl
    where
      there : found_in ns out ≡ right_codes ns
      there = ap (λ (a : Result ℕ Refusal). if_done a (right_codes ns) out) d

      by : (b : Bool) → lengths_right (length ns) (length out) ≡ b → (found_in ns out ≡ right_codes ns) × (judged ns (found_in ns out) ≡ Ok m)
      by true h = (there, ap (judged ns) there ∙ sym (found-is ns (length out) (lengths-say (length ns) (length out) h).2) ∙ d)
      by false h = absurd (false≢true (ap is_ok (found-out ns out h ∙ d)))

  pub found-keeps : (x : Refusal) → found ns (length out) ≡ Err x → found_in ns out ≡ out
  unfolding found_in
  found-keeps x e = ap (λ (a : Result ℕ Refusal). if_done a (right_codes ns) out) e

-- where any list is accepted, that list is found
pub accepted-found : (ns cs : List ℕ) (m : ℕ) → judged ns cs ≡ Ok m → (found ns (length cs) ≡ Ok m) × (found_in ns cs ≡ cs)
unfolding found_in
accepted-found ns cs m d =
    let own : cs ≡ right_codes ns = accepted-only ns cs m d in
    let same : length ns ≡ length cs = (lengths-say (length ns) (length cs) (accepts-all ns cs m d).0).2 in
    let done : found ns (length cs) ≡ Ok m = found-is ns (length cs) same ∙ ap (judged ns) (sym own) ∙ d in
    (done, ap (λ (a : Result ℕ Refusal). if_done a (right_codes ns) cs) done ∙ sym own)

-- every need can be served
abbrev pub AllServed : List ℕ → Type 0
AllServed [] = Unit {0}
AllServed (n ∷ ns) = (is_served n ≡ true) × AllServed ns

served-all : (ns : List ℕ) → AllServed ns → AllRight ns (right_codes ns)
unfolding right_codes
served-all [] a = tt
served-all (n ∷ ns) a = (served-right n a.0, served-all ns a.1)

all-served : (ns cs : List ℕ) → AllRight ns cs → AllServed ns
all-served [] cs a = tt
all-served (n ∷ ns) [] a = absurd a
all-served (n ∷ ns) (c ∷ cs) a = (right-served n c a.0, all-served ns cs a.1)

module _ (ns : List ℕ) (m : ℕ) where
  pub served-found : lengths_right (length ns) m ≡ true → AllServed ns → found ns m ≡ Ok (length ns)
  unfolding found
  served-found h a = rw h (judged-all 0 ns (right_codes ns) (served-all ns a) ∙ ap Ok (omega arith))

  pub found-served : (k : ℕ) → found ns m ≡ Ok k → (lengths_right (length ns) m ≡ true) × AllServed ns
  unfolding found
  found-served k d = by (lengths_right (length ns) m) refl d
    where
      by : (b : Bool) → lengths_right (length ns) m ≡ b → cond b (judged_from 0 ns (right_codes ns)) (Err ListLength) ≡ Ok k
          → (lengths_right (length ns) m ≡ true) × AllServed ns
      by true h e = (h, all-served ns (right_codes ns) (all-judged 0 k ns (right_codes ns) (sym (codes-length ns)) e))
      by false h e = absurd (false≢true (ap is_ok e))

-- ---- where a list is refused

-- k banks are right, and there is one behind them
pub record Stops (ns cs : List ℕ) (k : ℕ) : Type 0 where
  pub within : k < length ns
  pub before : AllRight (take k ns) (take k cs)

stops-judged : (j k : ℕ) (ns cs : List ℕ) → length ns ≡ length cs → Stops ns cs k → judged_from j ns cs ≡ judged_from (j + k) (drop k ns) (drop k cs)
unfolding judged_from
stops-judged j zero ns cs e s = ap (λ (i : ℕ). judged_from i ns cs) (omega arith)
stops-judged j (suc k) [] cs e s = absurd (omega (arith, s.within))
stops-judged j (suc k) (n ∷ ns) [] e s = absurd (omega (arith, e))
stops-judged j (suc k) (n ∷ ns) (c ∷ cs) e s =
    let a = s.before.0 in
    let m : suc j + k ≡ j + suc k = omega arith in
    rw (right-served n c a, means-right n c a)
    (stops-judged (suc j) k ns cs (omega (arith, e)) (record { within = omega (arith, s.within); before = s.before.1 })
    ∙ ap (λ (i : ℕ). judged_from i (drop k ns) (drop k cs)) m)

module _ (ns cs : List ℕ) (k : ℕ) (h : lengths_right (length ns) (length cs) ≡ true) (s : Stops ns cs k) where
  same : length ns ≡ length cs
  same = (lengths-say (length ns) (length cs) h).2

  reached : judged ns cs ≡ judged_from k (drop k ns) (drop k cs)
  reached = sym (judged-in ns cs h) ∙ stops-judged 0 k ns cs same s ∙ ap (λ (i : ℕ). judged_from i (drop k ns) (drop k cs)) (omega arith)

  pub nineteen : is_served (get_or ns k 0) ≡ false → judged ns cs ≡ Err (NoWidth (k + 1))
  nineteen u = reached ∙ judge-unserved ns cs k s.within (omega (arith, same, s.within)) u

  pub twenty : is_served (get_or ns k 0) ≡ true → is_right (get_or ns k 0) (get_or cs k 0) ≡ false → judged ns cs ≡ Err (NotNarrowest (k + 1))
  twenty u r = reached ∙ judge-other ns cs k s.within (omega (arith, same, s.within)) u r

pub twenty-one : (ns cs : List ℕ) → lengths_right (length ns) (length cs) ≡ false → judged ns cs ≡ Err ListLength
twenty-one ns cs h = sym (judged-out ns cs h)

-- why bank b is refused, with need n and code c
abbrev pub Why : ℕ → ℕ → ℕ → Refusal → Type 0
Why b n c x = ((is_served n ≡ false) × (x ≡ NoWidth b)) ⊎ ((is_served n ≡ true) × (is_right n c ≡ false) × (x ≡ NotNarrowest b))

-- the first bank that is refused, behind j others, and why
pub record Stopped (j : ℕ) (ns cs : List ℕ) (x : Refusal) : Type 0 where
  pub bank : ℕ
  pub stops : Stops ns cs bank
  pub why : Why (j + bank + 1) (get_or ns bank 0) (get_or cs bank 0) x

refusal_in : Result ℕ Refusal → Refusal
refusal_in (Ok n) = ListLength
refusal_in (Err x) = x

refused-stopped : (j : ℕ) (ns cs : List ℕ) (x : Refusal) → length ns ≡ length cs → judged_from j ns cs ≡ Err x → Stopped j ns cs x
unfolding judged_from refusal_in
refused-stopped j [] cs x e d = absurd (false≢true (sym (ap is_ok d)))
refused-stopped j (n ∷ ns) [] x e d = absurd (omega (arith, e))
refused-stopped j (n ∷ ns) (c ∷ cs) x e d = by (is_served n) refl (is_right n c) refl d (refused-stopped (suc j) ns cs x (omega (arith, e)))
  where
    here : (r : ℕ) → r ≡ suc j → Why r n c x → Stopped j (n ∷ ns) (c ∷ cs) x
    here r m w = record { bank = 0; stops = record { within = omega arith; before = tt }; why = subst (λ (b : ℕ). Why b n c x) (m ∙ omega arith) w }

    later : Right n c → Stopped (suc j) ns cs x → Stopped j (n ∷ ns) (c ∷ cs) x
    later r t =
        let m : suc j + t.bank + 1 ≡ j + suc t.bank + 1 = omega arith in
        record {
          bank = suc t.bank;
          stops = record { within = omega (arith, t.stops.within); before = (r, t.stops.before) };
          why = subst (λ (b : ℕ). Why b (get_or ns t.bank 0) (get_or cs t.bank 0) x) m t.why;
        }

    by : (s : Bool) → is_served n ≡ s → (r : Bool) → is_right n c ≡ r
        → cond s (cond r (judged_from (suc j) ns cs) (Err (NotNarrowest (suc j)))) (Err (NoWidth (suc j))) ≡ Err x
        → (judged_from (suc j) ns cs ≡ Err x → Stopped (suc j) ns cs x) → Stopped j (n ∷ ns) (c ∷ cs) x
    by false p r q d f = here (suc j) refl (inl (p, sym (ap refusal_in d)))
    by true p false q d f = here (suc j) refl (inr (p, q, sym (ap refusal_in d)))
    by true p true q d f = later (right-means n c q) (f d)

pub refused-means : (ns cs : List ℕ) (x : Refusal) → judged ns cs ≡ Err x
    → ((lengths_right (length ns) (length cs) ≡ false) × (x ≡ ListLength)) ⊎ ((lengths_right (length ns) (length cs) ≡ true) × Stopped 0 ns cs x)
unfolding refusal_in
refused-means ns cs x d = by (lengths_right (length ns) (length cs)) refl
  where
    by : (b : Bool) → lengths_right (length ns) (length cs) ≡ b
        → ((lengths_right (length ns) (length cs) ≡ false) × (x ≡ ListLength)) ⊎ ((lengths_right (length ns) (length cs) ≡ true) × Stopped 0 ns cs x)
    by true h = inr (h, refused-stopped 0 ns cs x (lengths-say (length ns) (length cs) h).2 (judged-in ns cs h ∙ d))
    by false h = inl (h, sym (ap refusal_in (judged-out ns cs h ∙ d)))

-- a bank that is refused by 20 has a right code, which find has for it
pub twenty-right : (ns cs : List ℕ) (b : ℕ) → judged ns cs ≡ Err (NotNarrowest b) → (1 ≤ b) × (b ≤ length ns) × Right (get_or ns (b - 1) 0) (get_or (right_codes ns) (b - 1) 0)
twenty-right ns cs b d = by (refused-means ns cs (NotNarrowest b) d)
  where
    own : Stopped 0 ns cs (NotNarrowest b) → (1 ≤ b) × (b ≤ length ns) × Right (get_or ns (b - 1) 0) (get_or (right_codes ns) (b - 1) 0)
    own t = at t.why
      where
        at : Why (0 + t.bank + 1) (get_or ns t.bank 0) (get_or cs t.bank 0) (NotNarrowest b)
            → (1 ≤ b) × (b ≤ length ns) × Right (get_or ns (b - 1) 0) (get_or (right_codes ns) (b - 1) 0)
        at (inl (u, v)) = let n : ◌≡◌ {A = ℕ} 20 19 = ap number_of v in absurd (omega (arith, n))
        at (inr (u, v, w)) =
            let p : b ≡ 0 + t.bank + 1 = ap place_of w in
            let q : t.bank ≡ b - 1 = omega (arith, p) in
            let r : Right (get_or ns t.bank 0) (get_or (right_codes ns) t.bank 0) = subst (Right (get_or ns t.bank 0)) (sym (codes_at ns t.bank t.stops.within)) (served-right (get_or ns t.bank 0) u) in
            (omega (arith, p), omega (arith, p, t.stops.within), subst (λ (i : ℕ). Right (get_or ns i 0) (get_or (right_codes ns) i 0)) q r)

    by : ((lengths_right (length ns) (length cs) ≡ false) × (NotNarrowest b ≡ ListLength)) ⊎ ((lengths_right (length ns) (length cs) ≡ true) × Stopped 0 ns cs (NotNarrowest b))
        → (1 ≤ b) × (b ≤ length ns) × Right (get_or ns (b - 1) 0) (get_or (right_codes ns) (b - 1) 0)
    by (inl (h, e)) = let n : ◌≡◌ {A = ℕ} 20 21 = ap number_of e in absurd (omega (arith, n))
    by (inr (h, t)) = own t

-- what find refuses by, wherever it is so
module _ (ns : List ℕ) (m : ℕ) where
  pub found-nineteen : (k : ℕ) → lengths_right (length ns) m ≡ true → Stops ns (right_codes ns) k → is_served (get_or ns k 0) ≡ false → found ns m ≡ Err (NoWidth (k + 1))
  found-nineteen k h s u =
      let e : length ns ≡ m = (lengths-say (length ns) m h).2 in
      let f : lengths_right (length ns) (length (right_codes ns)) ≡ true = ap (lengths_right (length ns)) (codes-length ns ∙ e) ∙ h in
      found-is ns m e ∙ nineteen ns (right_codes ns) k f s u

  pub found-twenty-one : lengths_right (length ns) m ≡ false → found ns m ≡ Err ListLength
  unfolding found
  found-twenty-one h = rw h

-- and only there; of the right codes none is refused by 20
module _ (ns : List ℕ) (m : ℕ) where
  pub found-means : (x : Refusal) → found ns m ≡ Err x
      → ((lengths_right (length ns) m ≡ false) × (x ≡ ListLength))
      ⊎ ((lengths_right (length ns) m ≡ true) × Stopped 0 ns (right_codes ns) x × (number_of x ≡ 19))
  unfolding found refusal_in
  found-means x d = by (lengths_right (length ns) m) refl d
    where
      by : (b : Bool) → lengths_right (length ns) m ≡ b → cond b (judged_from 0 ns (right_codes ns)) (Err ListLength) ≡ Err x
          → ((lengths_right (length ns) m ≡ false) × (x ≡ ListLength))
          ⊎ ((lengths_right (length ns) m ≡ true) × Stopped 0 ns (right_codes ns) x × (number_of x ≡ 19))
      by true h e = inr (h, t, number t.why)
        where
          t : Stopped 0 ns (right_codes ns) x
          t = refused-stopped 0 ns (right_codes ns) x (sym (codes-length ns)) e

          number : Why (0 + t.bank + 1) (get_or ns t.bank 0) (get_or (right_codes ns) t.bank 0) x → number_of x ≡ 19
          number (inl (u, v)) = ap number_of v
          number (inr (u, v, w)) =
              let own = ap (is_right (get_or ns t.bank 0)) (codes_at ns t.bank t.stops.within) ∙ right-itself (get_or ns t.bank 0) u in
              absurd (false≢true (sym v ∙ own))
      by false h e = inl (h, sym (ap refusal_in e))

-- ---- places

why-place : (b n c : ℕ) (x : Refusal) → Why b n c x → place_of x ≡ b
why-place b n c x (inl (u, v)) = ap place_of v
why-place b n c x (inr (u, v, w)) = ap place_of w

stopped-place : (ns cs : List ℕ) (x : Refusal) → length ns ≤ 32 → Stopped 0 ns cs x → place_of x ≤ 32
stopped-place ns cs x h t = omega (arith, why-place (0 + t.bank + 1) (get_or ns t.bank 0) (get_or cs t.bank 0) x t.why, t.stops.within, h)

pub judged-place : (ns cs : List ℕ) (x : Refusal) → judged ns cs ≡ Err x → place_of x ≤ 32
judged-place ns cs x d = by (refused-means ns cs x d)
  where
    by : ((lengths_right (length ns) (length cs) ≡ false) × (x ≡ ListLength)) ⊎ ((lengths_right (length ns) (length cs) ≡ true) × Stopped 0 ns cs x) → place_of x ≤ 32
    by (inl (h, e)) = omega (arith, ap place_of e)
    by (inr (h, t)) = stopped-place ns cs x (lengths-say (length ns) (length cs) h).1 t

pub found-place : (ns : List ℕ) (m : ℕ) (x : Refusal) → found ns m ≡ Err x → place_of x ≤ 32
found-place ns m x d = by (found-means ns m x d)
  where
    by : ((lengths_right (length ns) m ≡ false) × (x ≡ ListLength)) ⊎ ((lengths_right (length ns) m ≡ true) × Stopped 0 ns (right_codes ns) x × (number_of x ≡ 19)) → place_of x ≤ 32
    by (inl (h, e)) = omega (arith, ap place_of e)
    by (inr (h, t, e)) = stopped-place ns (right_codes ns) x (lengths-say (length ns) m h).1 t
