-- The answer to the banks that are kept is the answer to all (`answer-kept`), so for every text that is read (`answer-all`): 33 tell as much as any
-- longer list.
-- Assumes nothing.
use mathlib.Core.Path.{◌≡◌, refl, sym, ap, ap₂, ◌∙◌}
use mathlib.Core.Bool.{Bool, true, false}
use mathlib.Core.Logic.{⊎_elim}
use mathlib.Core.List.{List, [], ◌∷◌, ◌++◌, append-nil}
use Prim.Native.Nat.{ℕ, min, ◌≤◌, ◌<◌}
use native.Mathlib.Omega.{arith}
use borrow.Author.Tests.{le-leb, lt-leb, leb-true, leb-false}
use lib.Dec.{leb}
use lib.ListN.{length, take, replicate}
use lib.Seq.{take_all, take-take, take-append-le, length-take-le}
use Rattle.refusal.specs.declared.Refusal.TheVariants.{ListLength}
use Rattle.bank_widths.specs.Lists.{lengths_right, judged, found}
use Rattle.bank_list.specs.Banks.{Parsed, banks, faulty, parsed, most_kept, kept, listed, Paired}
use Rattle.bank_list.proofs.Laws.{codes_all}
use Rattle.widths_text.specs.Text.{refused_text, needs_text, proposals_text, parsed_text, answer_text, read_text}

-- ---- lists past 32 banks, all of them refused by 21

long : (n m : ℕ) → 32 < n → lengths_right n m ≡ false
unfolding lengths_right
long n m h = simp (le-leb 1 n (omega arith), lt-leb n 32 h)

needs-long : (ns : List ℕ) → 32 < length ns → needs_text ns ≡ refused_text ListLength
unfolding needs_text found
needs-long ns h = rw (long (length ns) (length ns) h) refl

proposals-long : (ns cs : List ℕ) → 32 < length ns → proposals_text ns cs ≡ refused_text ListLength
unfolding proposals_text judged
proposals-long ns cs h = rw (long (length ns) (length cs) h) (append-nil (refused_text ListLength))

-- ---- lists kept

-- the banks that are kept are the first of all
kept-front : (xs : List ℕ) (n : ℕ) → n ≤ length xs → n ≤ most_kept → take n (kept xs) ≡ take n xs
unfolding kept
kept-front xs n h k = take-take n most_kept (xs ++ replicate most_kept 0) k ∙ take-append-le n xs (replicate most_kept 0) h

-- an answer that is one for all lists past 32 banks
module _ (text : List ℕ → List ℕ → List ℕ) {one : List ℕ} (past : (ns cs : List ℕ) → 32 < length ns → text ns cs ≡ one) where
  text-kept : (ns cs : List ℕ) → length cs ≡ length ns → text (take (min (length ns) most_kept) ns) (take (min (length ns) most_kept) cs) ≡ text ns cs
  text-kept ns cs l = by (leb (length ns) most_kept) refl
    where
      m : ℕ
      m = min (length ns) most_kept

      by : (b : Bool) → leb (length ns) most_kept ≡ b → text (take m ns) (take m cs) ≡ text ns cs
      by true e = let h = leb-true (length ns) most_kept e in ap₂ text (take_all m ns (omega arith)) (take_all m cs (omega arith))
      by false e =
          let h = leb-false (length ns) most_kept e in
          let n : length (take m ns) ≡ m = length-take-le m ns (omega arith) in
          past (take m ns) (take m cs) (omega arith) ∙ sym (past ns cs (omega arith))

pub answer-kept : (p : Parsed) → Paired p → read_text (listed p) ≡ parsed_text p
unfolding answer_text listed
answer-kept (banks ns []) e =
    ap needs_text (kept-front ns (min (length ns) most_kept) (omega arith) (omega arith))
    ∙ text-kept (λ (ns cs : List ℕ). needs_text ns) (λ ns cs. needs-long ns) ns ns refl
answer-kept (banks ns (c ∷ cs)) e =
    let k : ℕ = min (length ns) most_kept in
    ap₂ proposals_text (kept-front ns k (omega arith) (omega arith)) (kept-front (c ∷ cs) k (omega arith) (omega arith))
    ∙ text-kept proposals_text proposals-long ns (c ∷ cs) e
answer-kept (faulty k f) e = refl

-- what is read off a text has codes for all banks or for none
paired : (text : List ℕ) (p : Parsed) → parsed text ≡ p → Paired p
paired text (banks ns []) e = tt
paired text (banks ns (c ∷ cs)) e =
    ⊎_elim (λ w. absurd (let z : ◌≡◌ {A = ℕ} 0 1 = cc in omega arith)) (λ w. w) (codes_all text ns (c ∷ cs) e)
paired text (faulty k f) e = tt

pub answer-all : (text : List ℕ) → read_text (listed (parsed text)) ≡ parsed_text (parsed text)
answer-all text = answer-kept (parsed text) (paired text (parsed text) refl)
