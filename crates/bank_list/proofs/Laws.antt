-- What holds of every text that is read: codes for all banks or for none (`codes_all`), needs of 64 bits and codes of a byte (`numbers-bounded`),
-- and that the first wrong line is told (`parsed-wrong`), and no other is (`wrong-parsed`).
-- Assumes nothing.
use mathlib.Core.Path.{◌≡◌, refl, ap, subst, sym, ◌∙◌}
use mathlib.Core.Bool.{Bool, cond, false, true, ◌&&◌}
use mathlib.Core.List.{List, [], ◌∷◌, ◌++◌}
use mathlib.Core.Logic.{inl, inr, ◌⊎◌}
use Prim.Native.Nat.{ℕ, zero, suc, ◌+◌, ◌^◌, ◌<◌}
use native.Mathlib.Omega.{arith}
use borrow.Author.Tests.{ltb-true}
use lib.Dec.{eqb, ltb}
use lib.ListN.{drop, get_or, length, take}
use Rattle.bank_list.specs.declared.Fault.{Fault}
use Rattle.bank_list.specs.declared.Fault.TheVariants.{CodePast, NotABank}
use Rattle.bank_list.specs.declared.Bank.{Bank}
use Rattle.std.specs.Prelude.{Option, Some, None, Result, Ok, Err}
use Rattle.bank_list.specs.Lines.{body_of, is_number, is_digit, is_separator, leading_of, lines_of, number_of, numbered}
use Rattle.bank_list.specs.Lines.{bank_of, behind_need, line_of, need_said, not_skipped, proposal_said, skips}
use Rattle.bank_list.specs.Banks.{Paired, Parsed, after_line, banks, faulty, parsed, parsed_from, with_bank}
use Rattle.bank_list.proofs.States.{apart, paired-after}
use Rattle.bank_list.proofs.Turns.{faulty-stays}

-- ---- codes for all or for none

paired-from : (p : Parsed) (k : ℕ) (ls : List (List ℕ)) → Paired p → Paired (parsed_from p k ls)
unfolding parsed_from
paired-from p k [] w = w
paired-from p k (l ∷ ls) w = paired-from (after_line p (suc k) (line_of (body_of l))) (suc k) ls (paired-after p (suc k) (line_of (body_of l)) w)

pub codes_all : (text ns cs : List ℕ) → parsed text ≡ banks ns cs → (cs ≡ []) ⊎ (length cs ≡ length ns)
unfolding parsed
codes_all text ns cs e = go cs (subst Paired e (paired-from (banks [] []) 0 (lines_of text) tt))
  where
    go : (cs : List ℕ) → Paired (banks ns cs) → (cs ≡ []) ⊎ (length cs ≡ length ns)
    go [] w = inl refl
    go (c ∷ cs) w = inr w

-- ---- numbers in their bounds

-- every number is below a limit; past the list's end stands 0
abbrev pub Below : ℕ → List ℕ → Type 0
Below m xs = (i : ℕ) → get_or xs i 0 < m

below_more : (m : ℕ) (xs : List ℕ) (x : ℕ) → 0 < m → Below m xs → x < m → Below m (xs ++ x ∷ [])
below_more m [] x z h b zero = b
below_more m [] x z h b (suc i) = z
below_more m (y ∷ xs) x z h b zero = h zero
below_more m (y ∷ xs) x z h b (suc i) = below_more m xs x z (λ j. h (suc j)) b i

pub record Bounded (ns cs : List ℕ) : Type 0 where
  pub needs : Below (2 ^ 64) ns
  pub codes : Below 256 cs

abbrev NumberBounded : Option ℕ → Type 0
NumberBounded (Some n) = n < 2 ^ 64
NumberBounded None = Unit {0}

abbrev CodeBounded : Option ℕ → Type 0
CodeBounded (Some c) = c < 256
CodeBounded None = Unit {0}

abbrev BankBounded : Result Bank Fault → Type 0
BankBounded (Ok b) = (b.need < 2 ^ 64) × CodeBounded b.code
BankBounded (Err f) = Unit {0}

abbrev LineBounded : Result (Option Bank) Fault → Type 0
LineBounded (Ok (Some b)) = BankBounded (Ok b)
LineBounded (Ok None) = Unit {0}
LineBounded (Err f) = Unit {0}

abbrev ParsedBounded : Parsed → Type 0
ParsedBounded (banks ns cs) = Bounded ns cs
ParsedBounded (faulty k f) = Unit {0}

picked : (t : Bool) (a b : Result Bank Fault) → BankBounded a → BankBounded b → BankBounded (cond t a b)
picked true a b x y = x
picked false a b x y = y

numbered-bounded : (n : ℕ) → NumberBounded (numbered n)
numbered-bounded n = go (ltb n (2 ^ 64)) refl
  where
    go : (t : Bool) → ltb n (2 ^ 64) ≡ t → NumberBounded (cond t (Some n) None)
    go true e = ltb-true n (2 ^ 64) e
    go false e = tt

need-bounded : (n : Option ℕ) → NumberBounded n → BankBounded (need_said n)
need-bounded (Some n) h = (h, tt)
need-bounded None h = tt

proposal-bounded : (n c : Option ℕ) → NumberBounded n → BankBounded (proposal_said n c)
proposal-bounded None c h = tt
proposal-bounded (Some n) None h = tt
proposal-bounded (Some n) (Some c) h = go (ltb c 256) refl
  where
    go : (t : Bool) → ltb c 256 ≡ t → BankBounded (cond t (Ok (record { need = n; code = Some c })) (Err CodePast))
    go true e = (h, ltb-true c 256 e)
    go false e = tt

behind-bounded : (n : Option ℕ) (s : List ℕ) → NumberBounded n → BankBounded (behind_need n s)
behind-bounded n [] h = need-bounded n h
behind-bounded n (b ∷ s) h =
    picked (is_separator b && is_number s) (proposal_said n (numbered (number_of s))) (Err NotABank) (proposal-bounded n (numbered (number_of s)) h) tt

bank-bounded : (l : List ℕ) → BankBounded (bank_of l)
unfolding bank_of
bank-bounded l =
    let d : ℕ = leading_of is_digit l in
    let n : Option ℕ = numbered (number_of (take d l)) in
    picked (eqb d 0) (Err NotABank) (behind_need n (drop d l)) tt (behind-bounded n (drop d l) (numbered-bounded (number_of (take d l))))

line-bounded : (l : List ℕ) → LineBounded (line_of l)
unfolding line_of
line-bounded l = go (skips l) (bank_of l) (bank-bounded l)
  where
    go : (t : Bool) (r : Result Bank Fault) → BankBounded r → LineBounded (cond t (Ok None) (not_skipped r))
    go true r h = tt
    go false (Ok b) h = h
    go false (Err f) h = tt

with-bounded : (ns cs : List ℕ) (k n : ℕ) (c : Option ℕ) → Bounded ns cs → n < 2 ^ 64 → CodeBounded c → ParsedBounded (with_bank ns cs k n c)
with-bounded ns [] k n None h b a = record { needs = below_more (2 ^ 64) ns n (omega arith) h.needs b; codes = h.codes }
with-bounded ns (d ∷ cs) k n None h b a = tt
with-bounded [] cs k n (Some c) h b a = record {
  needs = below_more (2 ^ 64) [] n (omega arith) h.needs b;
  codes = below_more 256 [] c (omega arith) (λ i. omega arith) a;
}
with-bounded (m ∷ ns) [] k n (Some c) h b a = tt
with-bounded (m ∷ ns) (d ∷ cs) k n (Some c) h b a = record {
  needs = below_more (2 ^ 64) (m ∷ ns) n (omega arith) h.needs b;
  codes = below_more 256 (d ∷ cs) c (omega arith) h.codes a;
}

after-bounded : (p : Parsed) (k : ℕ) (s : Result (Option Bank) Fault) → ParsedBounded p → LineBounded s → ParsedBounded (after_line p k s)
after-bounded (faulty j f) k s h b = tt
after-bounded (banks ns cs) k (Ok None) h b = h
after-bounded (banks ns cs) k (Ok (Some x)) h b = with-bounded ns cs k x.need x.code h b.0 b.1
after-bounded (banks ns cs) k (Err f) h b = tt

bounded-from : (p : Parsed) (k : ℕ) (ls : List (List ℕ)) → ParsedBounded p → ParsedBounded (parsed_from p k ls)
unfolding parsed_from
bounded-from p k [] h = h
bounded-from p k (l ∷ ls) h =
    bounded-from (after_line p (suc k) (line_of (body_of l))) (suc k) ls (after-bounded p (suc k) (line_of (body_of l)) h (line-bounded (body_of l)))

pub numbers-bounded : (text ns cs : List ℕ) → parsed text ≡ banks ns cs → Bounded ns cs
unfolding parsed
numbers-bounded text ns cs e =
    subst ParsedBounded e (bounded-from (banks [] []) 0 (lines_of text) (record { needs = λ i. omega arith; codes = λ i. omega arith }))

-- ---- the first wrong line

-- Of lines behind k others, line j is the first that is wrong: those before it give banks, and it does not go with them.
pub record FirstWrong (p : Parsed) (k : ℕ) (ls : List (List ℕ)) (j : ℕ) (f : Fault) : Type 0 where
  pub before : List (List ℕ)
  pub line : List ℕ
  pub after : List (List ℕ)
  pub needs : List ℕ
  pub codes : List ℕ
  pub split : ls ≡ before ++ line ∷ after
  pub sound : parsed_from p k before ≡ banks needs codes
  pub place : j ≡ suc (k + length before)
  pub wrong : after_line (banks needs codes) j (line_of (body_of line)) ≡ faulty j f

parsed-append : (p : Parsed) (k : ℕ) (xs bs : List (List ℕ)) → parsed_from p k (xs ++ bs) ≡ parsed_from (parsed_from p k xs) (k + length xs) bs
unfolding parsed_from
parsed-append p k [] bs = let z : k ≡ k + 0 = omega arith in ap (λ (n : ℕ). parsed_from p n bs) z
parsed-append p k (l ∷ xs) bs =
    let q : Parsed = after_line p (suc k) (line_of (body_of l)) in
    let z : suc k + length xs ≡ k + suc (length xs) = omega arith in
    parsed-append q (suc k) xs bs ∙ ap (λ (n : ℕ). parsed_from (parsed_from q (suc k) xs) n bs) z

wrong-fold : (p : Parsed) (k : ℕ) (ls : List (List ℕ)) (j : ℕ) (f : Fault) → FirstWrong p k ls j f → parsed_from p k ls ≡ faulty j f
unfolding parsed_from
wrong-fold p k ls j f w =
    ap (parsed_from p k) w.split
    ∙ parsed-append p k w.before (w.line ∷ w.after)
    ∙ ap (λ (q : Parsed). parsed_from (after_line q (suc n) (line_of (body_of w.line))) (suc n) w.after) w.sound
    ∙ ap (λ (m : ℕ). parsed_from (after_line (banks w.needs w.codes) m (line_of (body_of w.line))) (suc n) w.after) (sym w.place)
    ∙ ap (λ (q : Parsed). parsed_from q (suc n) w.after) w.wrong
    ∙ faulty-stays j f (suc n) w.after
  where
    n : ℕ
    n = k + length w.before

-- a line that is wrong is told by its own number
with-place : (ns cs : List ℕ) (k n : ℕ) (c : Option ℕ) (j : ℕ) (f : Fault) → with_bank ns cs k n c ≡ faulty j f → j ≡ k
with-place ns [] k n None j f e = absurd (apart (cc))
with-place ns (d ∷ cs) k n None j f e = cc
with-place [] cs k n (Some c) j f e = absurd (apart (cc))
with-place (m ∷ ns) [] k n (Some c) j f e = cc
with-place (m ∷ ns) (d ∷ cs) k n (Some c) j f e = absurd (apart (cc))

own-place : (ns cs : List ℕ) (k : ℕ) (s : Result (Option Bank) Fault) (j : ℕ) (f : Fault) → after_line (banks ns cs) k s ≡ faulty j f → j ≡ k
own-place ns cs k (Ok None) j f e = absurd (apart (cc))
own-place ns cs k (Ok (Some b)) j f e = with-place ns cs k b.need b.code j f e
own-place ns cs k (Err g) j f e = cc

fold-wrong : (ns cs : List ℕ) (k : ℕ) (ls : List (List ℕ)) (j : ℕ) (f : Fault) → parsed_from (banks ns cs) k ls ≡ faulty j f
    → FirstWrong (banks ns cs) k ls j f
unfolding parsed_from
fold-wrong ns cs k [] j f e = absurd (apart (cc))
fold-wrong ns cs k (l ∷ ls) j f e = go (after_line (banks ns cs) (suc k) (line_of (body_of l))) refl e (λ ms ds. fold-wrong ms ds (suc k) ls j f)
  where
    go : (q : Parsed) → after_line (banks ns cs) (suc k) (line_of (body_of l)) ≡ q → parsed_from q (suc k) ls ≡ faulty j f
        → ((ms ds : List ℕ) → parsed_from (banks ms ds) (suc k) ls ≡ faulty j f → FirstWrong (banks ms ds) (suc k) ls j f)
        → FirstWrong (banks ns cs) k (l ∷ ls) j f
    go (banks ms ds) q r ih =
        let w : FirstWrong (banks ms ds) (suc k) ls j f = ih ms ds r in
        record {
          before = l ∷ w.before;
          line = w.line;
          after = w.after;
          needs = w.needs;
          codes = w.codes;
          split = ap (λ (x : List (List ℕ)). l ∷ x) w.split;
          sound = ap (λ (p : Parsed). parsed_from p (suc k) w.before) q ∙ w.sound;
          place = omega (arith, w.place);
          wrong = w.wrong;
        }
    go (faulty i g) q r ih =
        let told : faulty i g ≡ faulty j f = sym (faulty-stays i g (suc k) ls) ∙ r in
        let here : j ≡ suc k = own-place ns cs (suc k) (line_of (body_of l)) j f (q ∙ told) in
        record {
          before = [];
          line = l;
          after = ls;
          needs = ns;
          codes = cs;
          split = refl;
          sound = refl;
          place = omega arith;
          wrong = ap (λ (m : ℕ). after_line (banks ns cs) m (line_of (body_of l))) here ∙ q ∙ told;
        }

pub parsed-wrong : (text : List ℕ) (k : ℕ) (f : Fault) → FirstWrong (banks [] []) 0 (lines_of text) k f → parsed text ≡ faulty k f
unfolding parsed
parsed-wrong text k f w = wrong-fold (banks [] []) 0 (lines_of text) k f w

pub wrong-parsed : (text : List ℕ) (k : ℕ) (f : Fault) → parsed text ≡ faulty k f → FirstWrong (banks [] []) 0 (lines_of text) k f
unfolding parsed
wrong-parsed text k f e = fold-wrong [] [] 0 (lines_of text) k f e
