-- A field takes just the codes of its enum, and is marked as one: a claim that is computed over all rows, and what it says of each field.
-- Assumes nothing.
use Prim.Native.Nat.{ℕ, zero, suc, ◌-◌, ◌^◌, ◌<◌, ◌≤◌}
use mathlib.Core.Path.{◌≡◌, refl, sym, ◌∙◌, ap, subst}
use mathlib.Core.Bool.{Bool, true, false, cond, not, ◌&&◌}
use mathlib.Core.List.{List, [], ◌∷◌}
use mathlib.Core.Logic.{⊎_elim}
use native.Mathlib.Nat.{not-suc-le-zero, le_of_suc-le-suc, eq-or-lt_of_le}
use native.Mathlib.Omega.{arith}
use borrow.Author.Tests.{ltb-true, ltb-false, ne_eqb}
use lib.Dec.{T, ltb, ltb→lt}
use lib.ListN.{get_or}
use Rattle.frame.proofs.Fields.{both_left, both_right}
use Rattle.table.specs.Number.{plain_of, is_code, codes_of}
use Rattle.table.specs.Codes.{lists, rx_bw_codes, is_in, takes}
use Rattle.table.specs.Table.{rows, row_of, numbers_of}
use Rattle.codes.specs.Allowed.{fits}
use Rattle.enums.specs.Enums.{Enum}
use Rattle.enums.specs.Values.{Sort, code, number, codes_in, sorts, sorts_of}

-- ---- the claim

abbrev same : Bool → Bool → Bool
same a b = cond a b (not b)

-- of the numbers below n the codes of the cell c have just those of the list
unfoldable pub agrees : ℕ → ℕ → List ℕ → Bool
agrees zero c cs = true
agrees (suc v) c cs = same (takes (codes_of c) v) (is_in v cs) && agrees v c cs

unfoldable pub all_below : ℕ → List ℕ → Bool
all_below n [] = true
all_below n (x ∷ xs) = ltb x n && all_below n xs

-- a field of an enum is marked as one, holds its codes, and takes no other; a field of a number is not marked
unfoldable pub agrees_with : ℕ → Sort → Bool
agrees_with c (code e) = is_code c && (all_below (2 ^ (plain_of c).w) (codes_in e) && agrees (2 ^ (plain_of c).w) c (codes_in e))
agrees_with c number = not (is_code c)

-- the fields of a row, and the arguments of its builder
unfoldable pub fields_agree : List ℕ → List Sort → Bool
fields_agree [] [] = true
fields_agree [] (s ∷ ss) = false
fields_agree (c ∷ cs) [] = false
fields_agree (c ∷ cs) (s ∷ ss) = agrees_with c s && fields_agree cs ss

unfoldable pub rows_agree : List (List ℕ) → List (List Sort) → Bool
rows_agree [] [] = true
rows_agree [] (ss ∷ sss) = false
rows_agree (r ∷ rs) [] = false
rows_agree (r ∷ rs) (ss ∷ sss) = fields_agree (numbers_of r) ss && rows_agree rs sss

pub all-agree : T (rows_agree rows sorts)
unfolding rows_agree fields_agree agrees_with all_below agrees plain_of takes lists rx_bw_codes is_in
all-agree = tt

-- ---- the law

same-is : (a b : Bool) → T (same a b) → a ≡ b
same-is true true t = refl
same-is true false t = absurd t
same-is false true t = absurd t
same-is false false t = refl

agrees_at : (n c : ℕ) (cs : List ℕ) → T (agrees n c cs) → (v : ℕ) → v < n → takes (codes_of c) v ≡ is_in v cs
unfolding agrees
agrees_at zero c cs t v h = absurd (not-suc-le-zero h)
agrees_at (suc n) c cs t v h =
    let here = both_left (same (takes (codes_of c) n) (is_in n cs)) (agrees n c cs) t in
    let rest = both_right (same (takes (codes_of c) n) (is_in n cs)) (agrees n c cs) t in
    ⊎_elim (λ e. subst (λ (m : ℕ). takes (codes_of c) m ≡ is_in m cs) (sym e) (same-is _ _ here)) (agrees_at n c cs rest v)
    (eq-or-lt_of_le (le_of_suc-le-suc h))

past_all : (n : ℕ) (cs : List ℕ) → T (all_below n cs) → (v : ℕ) → n ≤ v → is_in v cs ≡ false
unfolding all_below is_in
past_all n [] t v h = refl
past_all n (x ∷ xs) t v h =
    let l = ltb→lt x n (both_left (ltb x n) (all_below n xs) t) in
    ap (λ (b : Bool). cond b true (is_in v xs)) (ne_eqb v x (λ e. omega arith))
    ∙ past_all n xs (both_right (ltb x n) (all_below n xs) t) v h

-- ---- a field of an enum

pub record Field (c : ℕ) (e : Enum) : Type 0 where
  pub mark : is_code c ≡ true
  -- a number fits the field and is among its codes just where it is the code of a value
  pub taken : (v : ℕ) → fits (plain_of c).w c v ≡ is_in v (codes_in e)

pub told : (b : Bool) → T b → b ≡ true
told true t = refl
told false t = absurd t

pub field_of : (c : ℕ) (e : Enum) → T (agrees_with c (code e)) → Field c e
unfolding agrees_with
field_of c e t = record {
  mark = told (is_code c) (both_left (is_code c) (all_below n (codes_in e) && agrees n c (codes_in e)) t);
  taken = λ v. by-fit v (ltb v n) refl;
}
  where
    n : ℕ
    n = 2 ^ (plain_of c).w

    q : T (all_below n (codes_in e) && agrees n c (codes_in e))
    q = both_right (is_code c) (all_below n (codes_in e) && agrees n c (codes_in e)) t

    by-fit : (v : ℕ) (b : Bool) → ltb v n ≡ b → (b && takes (codes_of c) v) ≡ is_in v (codes_in e)
    by-fit v true h = agrees_at n c (codes_in e) (both_right (all_below n (codes_in e)) (agrees n c (codes_in e)) q) v (ltb-true v n h)
    by-fit v false h = sym (past_all n (codes_in e) (both_left (all_below n (codes_in e)) (agrees n c (codes_in e)) q) v (ltb-false v n h))

-- ---- the fields of a kind

agree_at : (rs : List (List ℕ)) (sss : List (List Sort)) → T (rows_agree rs sss) → (i : ℕ) → T (fields_agree (numbers_of (get_or rs i [])) (get_or sss i []))
unfolding rows_agree fields_agree
agree_at [] [] t i = tt
agree_at [] (ss ∷ sss) t i = absurd t
agree_at (r ∷ rs) [] t i = absurd t
agree_at (r ∷ rs) (ss ∷ sss) t zero = both_left (fields_agree (numbers_of r) ss) (rows_agree rs sss) t
agree_at (r ∷ rs) (ss ∷ sss) t (suc i) = agree_at rs sss (both_right (fields_agree (numbers_of r) ss) (rows_agree rs sss) t) i

pub kind-agrees : (k : ℕ) → T (fields_agree (numbers_of (row_of k)) (sorts_of k))
kind-agrees k = agree_at rows sorts all-agree (k - 1)
