-- The arguments one by one: those that are put, and the first that does not fit. Assumes nothing.
use mathlib.Core.Path.{◌≡◌, refl, sym, ap, ap₂, ◌∙◌}
use mathlib.Core.Bool.{Bool, true, false, cond}
use mathlib.Core.List.{List, [], ◌∷◌}
use Prim.Native.Nat.{ℕ, suc, ◌+◌, ◌≤◌, ◌<◌}
use native.Mathlib.Numerals.{add-one}
use native.Mathlib.Omega.{arith}
use lib.Bits.{bit_or}
use lib.ListN.{length, get_or, drop, drop_of_length-le}
use lib.Seq.{drop-cons}
use Rattle.frame.specs.declared.Field.{Field}
use Rattle.frame.specs.Field.{part, sound}
use Rattle.frame.specs.Layout.{bytes, tab, put, puts}
use Rattle.frame.proofs.Fields.{length-tab}
use Rattle.table.specs.Table.{count_of, numbers_of}
use Rattle.table.proofs.Cells.{numbers_more, numbers-past}
use Rattle.std.specs.Prelude.{Some, None}
use Rattle.builder.specs.Building.{first_misfit}
use Rattle.builder.specs.Ways.{fields_by}
use Rattle.builder.proofs.Apart.{at_none}

pub length-put : (s : List ℕ) (f : Field) (v : ℕ) → length (put s f v) ≡ length s
unfolding put
length-put s f v = go (sound 16 f)
  where
    go : (b : Bool) → length (cond b (tab (length s) (λ i. bit_or (bytes s i) (part f v i))) s) ≡ length s
    go true = length-tab (length s) (λ i. bit_or (bytes s i) (part f v i))
    go false = refl

module _ (row : List ℕ) (whole : length row ≡ 13) (few : count_of row ≤ 9) where
  -- ---- packed

  pub packs-more : (field : ℕ → Field) (args out next : List ℕ) (f : Field) (j : ℕ) → j < count_of row → length args ≡ count_of row → f ≡ field (get_or row (4 + j) 0)
      → next ≡ put out f (get_or args j 0)
      → puts out (fields_by field (drop j (numbers_of row))) (drop j args) ≡ puts next (fields_by field (drop (j + 1) (numbers_of row))) (drop (j + 1) args)
  unfolding fields_by
  packs-more field args out next f j h e ef en =
      ap₂ (λ (cs vs : List ℕ). puts out (fields_by field cs) vs) (numbers_more row whole few j h) (drop-cons args j 0 (omega arith))
      ∙ ap₂ (λ (o : List ℕ) (k : ℕ). puts o (fields_by field (drop k (numbers_of row))) (drop k args))
      (ap (λ (g : Field). put out g (get_or args j 0)) (sym ef) ∙ sym en) (sym (add-one j))

  pub packs-end : (field : ℕ → Field) (args out : List ℕ) (j : ℕ) → count_of row ≤ j → puts out (fields_by field (drop j (numbers_of row))) (drop j args) ≡ out
  unfolding fields_by
  packs-end field args out j h = ap (λ (cs : List ℕ). puts out (fields_by field cs) (drop j args)) (numbers-past row whole few j h)

  -- ---- first_misfit

  module _ (ok : ℕ → ℕ → Bool) (vs : List ℕ) (j : ℕ) where
    pub misfit-missing : j < count_of row → length vs ≤ j → first_misfit ok (1 + j) (drop j (numbers_of row)) (drop j vs) ≡ Some (j + 1)
    unfolding first_misfit
    misfit-missing h l =
        let n : 1 + j ≡ j + 1 = omega arith in
        ap₂ (first_misfit ok (1 + j)) (numbers_more row whole few j h) (drop_of_length-le vs l) ∙ ap Some n

    misfit-here : j < count_of row → j < length vs → first_misfit ok (1 + j) (drop j (numbers_of row)) (drop j vs)
        ≡ cond (ok (get_or row (4 + j) 0) (get_or vs j 0)) (first_misfit ok (suc (1 + j)) (drop (suc j) (numbers_of row)) (drop (suc j) vs)) (Some (1 + j))
    unfolding first_misfit
    misfit-here h l = ap₂ (first_misfit ok (1 + j)) (numbers_more row whole few j h) (drop-cons vs j 0 l)

    pub misfit-bad : j < count_of row → j < length vs → ok (get_or row (4 + j) 0) (get_or vs j 0) ≡ false
        → first_misfit ok (1 + j) (drop j (numbers_of row)) (drop j vs) ≡ Some (j + 1)
    misfit-bad h l q =
        let n : 1 + j ≡ j + 1 = omega arith in
        misfit-here h l ∙ ap (λ (b : Bool). cond b (first_misfit ok (suc (1 + j)) (drop (suc j) (numbers_of row)) (drop (suc j) vs)) (Some (1 + j))) q ∙ ap Some n

    pub misfit-good : j < count_of row → j < length vs → ok (get_or row (4 + j) 0) (get_or vs j 0) ≡ true
        → first_misfit ok (1 + j) (drop j (numbers_of row)) (drop j vs) ≡ first_misfit ok (1 + (j + 1)) (drop (j + 1) (numbers_of row)) (drop (j + 1) vs)
    misfit-good h l q =
        let n : suc (1 + j) ≡ 1 + (j + 1) = omega arith in
        let m : suc j ≡ j + 1 = omega arith in
        misfit-here h l ∙ ap (λ (b : Bool). cond b (first_misfit ok (suc (1 + j)) (drop (suc j) (numbers_of row)) (drop (suc j) vs)) (Some (1 + j))) q
        ∙ ap₂ (λ (a k : ℕ). first_misfit ok a (drop k (numbers_of row)) (drop k vs)) n m

    pub misfit-surplus : count_of row ≤ j → j < length vs → first_misfit ok (1 + j) (drop j (numbers_of row)) (drop j vs) ≡ Some (j + 1)
    unfolding first_misfit
    misfit-surplus h l =
        let n : 1 + j ≡ j + 1 = omega arith in
        ap₂ (first_misfit ok (1 + j)) (numbers-past row whole few j h) (drop-cons vs j 0 l) ∙ ap Some n

    pub misfit-none : count_of row ≤ j → length vs ≤ j → first_misfit ok (1 + j) (drop j (numbers_of row)) (drop j vs) ≡ None
    unfolding first_misfit
    misfit-none h l = ap₂ (first_misfit ok (1 + j)) (numbers-past row whole few j h) (drop_of_length-le vs l)

-- ---- where no argument fails

-- there are as many arguments as the row has fields
pub as_many : (ok : ℕ → ℕ → Bool) (n : ℕ) (cs vs : List ℕ) → first_misfit ok n cs vs ≡ None → length vs ≡ length cs
unfolding first_misfit
as_many ok n [] [] e = refl
as_many ok n [] (v ∷ vs) e = absurd (at_none e)
as_many ok n (c ∷ cs) [] e = absurd (at_none e)
as_many ok n (c ∷ cs) (v ∷ vs) e = go (ok c v) e (as_many ok (suc n) cs vs)
  where
    go : (b : Bool) → cond b (first_misfit ok (suc n) cs vs) (Some n) ≡ None → (first_misfit ok (suc n) cs vs ≡ None → length vs ≡ length cs)
        → suc (length vs) ≡ suc (length cs)
    go true z ih = ap suc (ih z)
    go false z ih = absurd (at_none z)
