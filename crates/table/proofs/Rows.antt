-- What the rows of the table have in common: one test, computed over all of them, and the laws that turn it into the rule of each row.
-- Assumes nothing.
use mathlib.Core.Path.{◌≡◌, refl, sym, ap, ◌∙◌, subst}
use mathlib.Core.Bool.{Bool, true, false, cond, ◌&&◌}
use mathlib.Core.List.{List, [], ◌∷◌}
use Prim.Native.Nat.{ℕ, suc, ◌-◌, ◌≤◌, ◌<◌, min}
use native.Mathlib.Nat.{not-suc-le-zero}
use native.Mathlib.Omega.{arith}
use lib.Dec.{T, leb, eqb, leb→le, eqb→eq}
use lib.ListN.{length, get_or}
use Rattle.frame.specs.Field.{sound, mask}
use Rattle.frame.specs.Layout.{sound_all, layout, apart, apart_all, disjoint, tab, byte_of}
use Rattle.frame.proofs.Fields.{both_left, both_right}
use Rattle.frame.proofs.Puts.{puts-zero}
use Rattle.table.proofs.Below.{below, below_at}
use Rattle.table.specs.Number.{narrow_of, plain_of, narrows_of, plains_of}
use Rattle.table.specs.Table.{kinds, rows, row_at, op_of, len_of, count_of, numbers_of, op_number, plain_row}
use Rattle.table.specs.Narrowed.{fields_of, Ready}
use Rattle.table.specs.Laid.{laid, slots_from, find, found}

-- ---- the test

pub right : T ((below (λ k. laid (get_or rows k [])) kinds && slots_from 0 rows) && below (λ k. found k (get_or rows k [])) kinds)
unfolding below laid slots_from found find sound_all sound disjoint apart_all apart mask narrows_of narrow_of plain_of
right = tt

pub count : length rows ≡ kinds
count = refl

-- ---- a row that passes it

pub record Laid (r : List ℕ) : Type 0 where
  pub least : 2 ≤ len_of r
  pub most : len_of r ≤ 12
  pub few : count_of r ≤ 9
  pub inside : T (sound_all (len_of r) (plains_of (op_number ∷ numbers_of r)))
  pub apart-narrowed : T (layout (len_of r) (narrows_of (op_number ∷ numbers_of r)))

laid-is : (r : List ℕ) → T (laid r) → Laid r
unfolding laid
laid-is r t =
    let plains : Bool = sound_all (len_of r) (plains_of (op_number ∷ numbers_of r)) in
    let narrows : Bool = layout (len_of r) (narrows_of (op_number ∷ numbers_of r)) in
    let sizes = both_left ((leb 2 (len_of r) && leb (len_of r) 12) && leb (count_of r) 9) (plains && narrows) t in
    let fields = both_right ((leb 2 (len_of r) && leb (len_of r) 12) && leb (count_of r) 9) (plains && narrows) t in
    let lens = both_left (leb 2 (len_of r) && leb (len_of r) 12) (leb (count_of r) 9) sizes in record {
      least = leb→le _ _ (both_left (leb 2 (len_of r)) (leb (len_of r) 12) lens);
      most = leb→le _ _ (both_right (leb 2 (len_of r)) (leb (len_of r) 12) lens);
      few = leb→le _ _ (both_right (leb 2 (len_of r) && leb (len_of r) 12) (leb (count_of r) 9) sizes);
      inside = both_left plains narrows fields;
      apart-narrowed = both_right plains narrows fields;
    }

-- ---- the rule of each row

all_laid : Bool
all_laid = below (λ k. laid (get_or rows k [])) kinds

all_found : Bool
all_found = below (λ k. found k (get_or rows k [])) kinds

pub slots-in-order : T (slots_from 0 rows)
unfolding all_laid all_found
slots-in-order = both_right all_laid (slots_from 0 rows) (both_left (all_laid && slots_from 0 rows) all_found right)

pub row_laid : (k : ℕ) → k < kinds → Laid (get_or rows k [])
unfolding all_laid all_found
row_laid k h =
    let t : T all_laid = both_left all_laid (slots_from 0 rows) (both_left (all_laid && slots_from 0 rows) all_found right) in
    laid-is (get_or rows k []) (below_at (λ (i : ℕ). laid (get_or rows i [])) kinds k t h)

-- a place of the table has its row
pub row-at : (k : ℕ) → k < kinds → row_at k ≡ get_or rows k []
unfolding row_at
row-at k h = let e : min k (kinds - 1) ≡ k = omega arith in ap (λ (i : ℕ). get_or rows i []) e

-- and the code can follow it
pub ready : (i : ℕ) → i < kinds → Ready (get_or rows i [])
ready i h =
    let z = row_laid i h in
    let r : List ℕ = get_or rows i [] in
    record { few = z.few; most = z.most; inside = both_left (sound_all (len_of r) (fields_of r)) (disjoint (len_of r) (fields_of r)) z.apart-narrowed }

pub row-ready : (i : ℕ) (r : List ℕ) → r ≡ row_at i → i < kinds → Ready r
row-ready i r e h = subst (λ (x : List ℕ). Ready x) (sym (e ∙ row-at i h)) (ready i h)

-- a row that is found has the opcode and the length
pub found-row : (rs : List (List ℕ)) (o l : ℕ) → find rs o l < length rs
    → (op_of (get_or rs (find rs o l) []) ≡ o) × (len_of (get_or rs (find rs o l) []) ≡ l)
unfolding find
found-row [] o l h = absurd (not-suc-le-zero h)
found-row (r ∷ rs) o l h = go (eqb (op_of r) o) (eqb (len_of r) l) refl refl h (found-row rs o l)
  where
    Both : List ℕ → Type 0
    Both x = (op_of x ≡ o) × (len_of x ≡ l)

    go : (a b : Bool) → eqb (op_of r) o ≡ a → eqb (len_of r) l ≡ b → cond (a && b) 0 (suc (find rs o l)) < suc (length rs)
        → (find rs o l < length rs → Both (get_or rs (find rs o l) [])) → Both (get_or (r ∷ rs) (cond (a && b) 0 (suc (find rs o l))) [])
    go true true p q z ih = (eqb→eq (op_of r) o (subst T (sym p) tt), eqb→eq (len_of r) l (subst T (sym q) tt))
    go true false p q z ih = ih (omega arith)
    go false b p q z ih = ih (omega arith)

-- the search finds the row itself
pub row-found : (k : ℕ) → k < kinds → find rows (op_of (get_or rows k [])) (len_of (get_or rows k [])) ≡ k
unfolding all_laid all_found found
row-found k h = eqb→eq _ _ (below_at (λ (i : ℕ). found i (get_or rows i [])) kinds k (both_right (all_laid && slots_from 0 rows) all_found right) h)

-- opcode and length determine the kind
pub row_one : (j k : ℕ) → j < kinds → k < kinds → op_of (get_or rows j []) ≡ op_of (get_or rows k []) → len_of (get_or rows j []) ≡ len_of (get_or rows k [])
    → j ≡ k
row_one j k h l p q =
    sym (row-found j h) ∙ ap (λ (n : ℕ). find rows n (len_of (get_or rows j []))) p ∙ ap (find rows (op_of (get_or rows k []))) q ∙ row-found k l

-- byte i of a plain builder's frame is all that the opcode and the arguments put there, ORed
pub plain-is : (k : ℕ) → k < kinds → (vs : List ℕ) →
    plain_row (get_or rows k []) vs ≡ tab (len_of (get_or rows k [])) (byte_of (plains_of (op_number ∷ numbers_of (get_or rows k []))) (op_of (get_or rows k []) ∷ vs))
plain-is k h vs =
    let r = row_laid k h in
    puts-zero (len_of (get_or rows k [])) (omega (arith, r.most)) (plains_of (op_number ∷ numbers_of (get_or rows k []))) (op_of (get_or rows k []) ∷ vs) r.inside
