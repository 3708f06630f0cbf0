-- The banks that are asked for, of those kept: where more are said to be kept than there are, all of them are asked for.
-- Assumes nothing.
use mathlib.Core.Path.{◌≡◌, refl, sym, ap, ap₂, ◌∙◌}
use mathlib.Core.Bool.{Bool, true, false}
use mathlib.Core.List.{List}
use Prim.Native.Nat.{ℕ, min, ◌-◌}
use native.Mathlib.Omega.{arith}
use borrow.Author.Tests.{leb-true, leb-false}
use lib.Dec.{leb}
use lib.ListN.{length, take}
use lib.Seq.{take_all}
use Rattle.bank_list.specs.declared.Found.{Found}
use Rattle.bank_list.specs.declared.Found.TheVariants.{Needs, Proposals}
use Rattle.bank_list.specs.declared.Listed.{Listed}
use Rattle.bank_list.specs.Banks.{most_kept}
use Rattle.widths_text.specs.Text.{needs_text, proposals_text, kept_text, answer_text}

-- as the part of an array from 0 on is handed on
front : (xs : List ℕ) (n m : ℕ) → length xs ≡ most_kept → m ≡ min n most_kept → take n xs ≡ take (m - 0) xs
front xs n m l e = by (leb n most_kept) refl
  where
    by : (b : Bool) → leb n most_kept ≡ b → take n xs ≡ take (m - 0) xs
    by true t =
        let h = leb-true n most_kept t in
        let i : n ≡ m - 0 = omega arith in
        ap (λ (j : ℕ). take j xs) i
    by false t =
        let h = leb-false n most_kept t in
        take_all n xs (omega arith) ∙ sym (take_all (m - 0) xs (omega arith))

module _ (l : Listed) where
  abbrev by-found : {f : Found} → l.found ≡ f → answer_text l ≡ kept_text f l.needs l.codes
  unfolding answer_text
  by-found e = ap (λ (f : Found). kept_text f l.needs l.codes) e

  pub asked-needs : {n m : ℕ} → l.found ≡ Needs n → length l.needs ≡ most_kept → m ≡ min n most_kept → answer_text l ≡ needs_text (take (m - 0) l.needs)
  asked-needs {n} {m} e ln k = by-found e ∙ ap needs_text (front l.needs n m ln k)

  pub asked-proposals : {n m : ℕ} → l.found ≡ Proposals n → length l.needs ≡ most_kept → length l.codes ≡ most_kept → m ≡ min n most_kept
      → answer_text l ≡ proposals_text (take (m - 0) l.needs) (take (m - 0) l.codes)
  asked-proposals {n} {m} e ln lc k = by-found e ∙ ap₂ proposals_text (front l.needs n m ln k) (front l.codes n m lc k)
