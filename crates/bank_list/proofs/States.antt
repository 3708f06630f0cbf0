-- What a line more makes of what is found, by the tests of the code: a need (`need-..`), a proposal (`proposal-..`), a fault (`fault-..`). Codes stay paired with needs (`paired-after`).
-- Assumes nothing.
use mathlib.Core.Path.{◌≡◌, refl, ap, sym, ◌∙◌}
use mathlib.Core.Bool.{false≢true}
use mathlib.Core.List.{List, [], ◌∷◌, ◌++◌}
use Prim.Native.Nat.{ℕ, ◌+◌, min}
use native.Mathlib.Omega.{arith}
use lib.ListN.{length, length-append}
use Rattle.bank_list.specs.declared.Fault.{Fault}
use Rattle.bank_list.specs.declared.Fault.TheVariants.{CodeLacking, CodeSurplus}
use Rattle.bank_list.specs.declared.Found.TheVariants as found
use Rattle.bank_list.specs.declared.Bank.{Bank}
use Rattle.bank_list.specs.declared.Listed.{Listed}
use Rattle.bank_list.specs.declared.WrongLine.{WrongLine}
use Rattle.std.specs.Prelude.{Option, Some, None, Result, Ok, Err, is_ok}
use Rattle.std.specs.Result.{result_unwrap_or}
use Rattle.bank_list.specs.Banks.{Paired, Parsed, after_line, banks, faulty, handed, kept, listed, most_kept, put_at, with_bank, with_code, wrong_at}
use Rattle.bank_list.proofs.Kept.{kept_more, kept-zero}

-- what two cases would be, were they one
pub apart : ◌≡◌ {A = ℕ} 0 1 → ⊥
apart e = omega arith

handed-as : (l m : Listed) → ◌≡◌ {A = Result Listed WrongLine} (Ok l) (Ok m) → l ≡ m
handed-as l m e = ap (λ (r : Result Listed WrongLine). result_unwrap_or r l) e

unheld : (l : Listed) (w : WrongLine) → Ok l ≡ Err w → ⊥
unheld l w e = false≢true (sym (ap is_ok e))

count-more : (xs : List ℕ) (x at : ℕ) → at ≡ min (length xs) most_kept → min (at + 1) most_kept ≡ min (length (xs ++ x ∷ [])) most_kept
count-more xs x at e = omega (arith, length-append xs (x ∷ []))

pub skipped-stays : (p : Parsed) (k : ℕ) → listed p ≡ listed (after_line p k (Ok None))
skipped-stays (banks ns cs) k = refl
skipped-stays (faulty j f) k = refl

-- what a line says, as another name for it
pub said-as : (p : Parsed) (k : ℕ) (s t : Result (Option Bank) Fault) → s ≡ t → listed (after_line p k t) ≡ listed (after_line p k s)
said-as p k s t e = ap (λ (x : Result (Option Bank) Fault). listed (after_line p k x)) (sym e)

-- ---- faults

pub fault-told : (p : Parsed) (l : Listed) → Ok l ≡ listed p → (k : ℕ) (f : Fault) → Err (wrong_at k f) ≡ listed (after_line p k (Err f))
unfolding listed
fault-told (banks ns cs) l e k f = refl
fault-told (faulty j g) l e k f = absurd (unheld l (wrong_at j g) e)

-- ---- needs

module _ (k n count : ℕ) (l : Listed) where
  pub need-needs : (p : Parsed) → Ok l ≡ listed p → l.found ≡ found.Needs count
      → Ok (put_at (found.Needs (min (count + 1) most_kept)) count n 0 l) ≡ listed (after_line p k (with_code n None))
  unfolding listed
  need-needs (banks ns []) e q =
      let own : l ≡ handed ns [] = handed-as l (handed ns []) e in
      let same : found.Needs (min (length ns) most_kept) ≡ found.Needs count = sym (ap (λ (x : Listed). x.found) own) ∙ q in
      let here : count ≡ min (length ns) most_kept = cc in
      ap (λ (x : Listed). Ok (put_at (found.Needs (min (count + 1) most_kept)) count n 0 x)) own
      ∙ rw (kept_more ns n count here, kept-zero count, count-more ns n count here)
  need-needs (banks ns (c ∷ cs)) e q =
      let same : found.Proposals (min (length ns) most_kept) ≡ found.Needs count = sym (ap (λ (x : Listed). x.found) (handed-as l (handed ns (c ∷ cs)) e)) ∙ q in
      absurd (apart (cc))
  need-needs (faulty j f) e q = absurd (unheld l (wrong_at j f) e)

  pub need-proposals : (p : Parsed) → Ok l ≡ listed p → l.found ≡ found.Proposals count → Err (wrong_at k CodeLacking) ≡ listed (after_line p k (with_code n None))
  unfolding listed
  need-proposals (banks ns []) e q =
      let same : found.Needs (min (length ns) most_kept) ≡ found.Proposals count = sym (ap (λ (x : Listed). x.found) (handed-as l (handed ns []) e)) ∙ q in
      absurd (apart (cc))
  need-proposals (banks ns (c ∷ cs)) e q = refl
  need-proposals (faulty j f) e q = absurd (unheld l (wrong_at j f) e)

-- ---- proposals

module _ (k n c count : ℕ) (l : Listed) where
  pub proposal-first : (p : Parsed) → Ok l ≡ listed p → l.found ≡ found.Needs count → count ≡ 0
      → Ok (put_at (found.Proposals 1) 0 n c l) ≡ listed (after_line p k (with_code n (Some c)))
  unfolding listed kept
  proposal-first (banks [] []) e q z = ap (λ (x : Listed). Ok (put_at (found.Proposals 1) 0 n c x)) (handed-as l (handed [] []) e)
  proposal-first (banks (m ∷ ns) []) e q z =
      let same : found.Needs (min (length (m ∷ ns)) most_kept) ≡ found.Needs count = sym (ap (λ (x : Listed). x.found) (handed-as l (handed (m ∷ ns) []) e)) ∙ q in
      let here : count ≡ min (length (m ∷ ns)) most_kept = cc in
      absurd (omega arith)
  proposal-first (banks ns (d ∷ cs)) e q z =
      let same : found.Proposals (min (length ns) most_kept) ≡ found.Needs count = sym (ap (λ (x : Listed). x.found) (handed-as l (handed ns (d ∷ cs)) e)) ∙ q in
      absurd (apart (cc))
  proposal-first (faulty j f) e q z = absurd (unheld l (wrong_at j f) e)

  pub proposal-surplus : (p : Parsed) → Ok l ≡ listed p → l.found ≡ found.Needs count → (count ≡ 0 → ⊥)
      → Err (wrong_at k CodeSurplus) ≡ listed (after_line p k (with_code n (Some c)))
  unfolding listed
  proposal-surplus (banks [] []) e q z =
      let same : found.Needs (min 0 most_kept) ≡ found.Needs count = sym (ap (λ (x : Listed). x.found) (handed-as l (handed [] []) e)) ∙ q in
      let here : count ≡ min 0 most_kept = cc in
      absurd (z (omega arith))
  proposal-surplus (banks (m ∷ ns) []) e q z = refl
  proposal-surplus (banks ns (d ∷ cs)) e q z =
      let same : found.Proposals (min (length ns) most_kept) ≡ found.Needs count = sym (ap (λ (x : Listed). x.found) (handed-as l (handed ns (d ∷ cs)) e)) ∙ q in
      absurd (apart (cc))
  proposal-surplus (faulty j f) e q z = absurd (unheld l (wrong_at j f) e)

  pub proposal-proposals : (p : Parsed) → Paired p → Ok l ≡ listed p → l.found ≡ found.Proposals count
      → Ok (put_at (found.Proposals (min (count + 1) most_kept)) count n c l) ≡ listed (after_line p k (with_code n (Some c)))
  unfolding listed
  proposal-proposals (banks ns []) w e q =
      let same : found.Needs (min (length ns) most_kept) ≡ found.Proposals count = sym (ap (λ (x : Listed). x.found) (handed-as l (handed ns []) e)) ∙ q in
      absurd (apart (cc))
  proposal-proposals (banks [] (d ∷ cs)) w e q = absurd (omega arith)
  proposal-proposals (banks (m ∷ ns) (d ∷ cs)) w e q =
      let own : l ≡ handed (m ∷ ns) (d ∷ cs) = handed-as l (handed (m ∷ ns) (d ∷ cs)) e in
      let same : found.Proposals (min (length (m ∷ ns)) most_kept) ≡ found.Proposals count = sym (ap (λ (x : Listed). x.found) own) ∙ q in
      let here : count ≡ min (length (m ∷ ns)) most_kept = cc in
      let there : count ≡ min (length (d ∷ cs)) most_kept = omega arith in
      ap (λ (x : Listed). Ok (put_at (found.Proposals (min (count + 1) most_kept)) count n c x)) own
      ∙ rw (kept_more (m ∷ ns) n count here, kept_more (d ∷ cs) c count there, count-more (m ∷ ns) n count here)
  proposal-proposals (faulty j f) w e q = absurd (unheld l (wrong_at j f) e)

-- ---- pairs

paired-with : (ns cs : List ℕ) (k n : ℕ) (c : Option ℕ) → Paired (banks ns cs) → Paired (with_bank ns cs k n c)
paired-with ns [] k n None w = tt
paired-with ns (d ∷ cs) k n None w = tt
paired-with [] cs k n (Some c) w = refl
paired-with (m ∷ ns) [] k n (Some c) w = tt
paired-with (m ∷ ns) (d ∷ cs) k n (Some c) w = omega (arith, length-append (m ∷ ns) (n ∷ []), length-append (d ∷ cs) (c ∷ []))

pub paired-after : (p : Parsed) (k : ℕ) (s : Result (Option Bank) Fault) → Paired p → Paired (after_line p k s)
paired-after (faulty j f) k s w = tt
paired-after (banks ns cs) k (Ok None) w = w
paired-after (banks ns cs) k (Ok (Some b)) w = paired-with ns cs k b.need b.code w
paired-after (banks ns cs) k (Err f) w = tt
