-- The fields of a row one by one: what each holds, and whether it takes that. Assumes nothing.
use mathlib.Core.Path.{◌≡◌, refl, sym, ap, ap₂, ◌∙◌}
use mathlib.Core.Bool.{Bool, true, false, cond}
use mathlib.Core.List.{List, [], ◌∷◌}
use Prim.Native.Nat.{ℕ, suc, ◌+◌, ◌-◌, ◌≤◌, ◌<◌, min}
use native.Mathlib.Omega.{arith}
use lib.Dec.{T}
use lib.ListN.{length, get_or, take, drop}
use Rattle.frame.specs.declared.Field.{Field}
use Rattle.frame.specs.Field.{read, Sound}
use Rattle.frame.specs.Layout.{bytes, get, reads}
use Rattle.frame.proofs.Fields.{both_left, both_right, sound-holds}
use Rattle.table.specs.Number.{narrow_of, narrows_of, codes_of}
use Rattle.table.specs.Codes.{takes}
use Rattle.table.specs.Table.{count_of, numbers_of}
use Rattle.table.proofs.Cells.{dropped, numbers_more, numbers-past}
use Rattle.decoder.specs.Words.{all_taken}
use Rattle.decoder.specs.Decoding.{lower, lacking}

-- ---- one field's part in the lowest byte

module _ (c v low first : ℕ) (e : first ≡ (narrow_of c).first) (t : takes (codes_of c) v ≡ false) where
  pub lower-first : first < low → first ≡ lower c v low
  lower-first h = let m : first ≡ min (narrow_of c).first low = omega arith in m ∙ sym (ap (λ (b : Bool). cond b low (min (narrow_of c).first low)) t)

  pub lower-low : low ≤ first → low ≡ lower c v low
  lower-low h = let m : low ≡ min (narrow_of c).first low = omega arith in m ∙ sym (ap (λ (b : Bool). cond b low (min (narrow_of c).first low)) t)

-- ---- lists of numbers read

pub length-reads : (cs : List ℕ) (b : ℕ → ℕ) → length (reads (narrows_of cs) b) ≡ length cs
unfolding reads narrows_of
length-reads [] b = refl
length-reads (c ∷ cs) b = ap suc (length-reads cs b)

-- ---- first_lacking

module _ (row : List ℕ) (whole : length row ≡ 13) (few : count_of row ≤ 9) where
  pub lacking-none : (n : ℕ) (vs : List ℕ) → lacking n (drop (count_of row) (numbers_of row)) vs ≡ n
  unfolding lacking
  lacking-none n vs = ap (λ (cs : List ℕ). lacking n cs vs) (numbers-past row whole few (count_of row) (omega arith))

  pub lacking-more : (n : ℕ) (args : List ℕ) (j : ℕ) → length args ≡ 9 → 0 < j → j ≤ count_of row
      → lower (get_or row (4 + (j - 1)) 0) (get_or args (j - 1) 0) (lacking n (drop j (numbers_of row)) (drop j (take (count_of row) args)))
      ≡ lacking n (drop (j - 1) (numbers_of row)) (drop (j - 1) (take (count_of row) args))
  unfolding lacking
  lacking-more n args j e pos le =
      let q : suc (j - 1) ≡ j = omega arith in
      ap (λ (k : ℕ). lower (get_or row (4 + (j - 1)) 0) (get_or args (j - 1) 0) (lacking n (drop k (numbers_of row)) (drop k (take (count_of row) args)))) (sym q)
      ∙ sym (ap₂ (lacking n) (numbers_more row whole few (j - 1) (omega arith)) (dropped args (count_of row) (j - 1) (omega arith) (omega arith)))

-- what the code gets is what the field reads
pub get-read : (s : List ℕ) (f : Field) → Sound 16 f → get s f ≡ read f (bytes s)
unfolding get
get-read s f h = simp (sound-holds 16 f h)

-- ---- codes that are taken

-- where each field takes what it holds, none is lacking
pub taken_none : (n : ℕ) (cs : List ℕ) (b : ℕ → ℕ) → T (all_taken cs b) → lacking n cs (reads (narrows_of cs) b) ≡ n
unfolding all_taken lacking reads narrows_of
taken_none n [] b t = refl
taken_none n (c ∷ cs) b t =
    let v : ℕ = read (narrow_of c) b in
    ap (λ (x : Bool). cond x (lacking n cs (reads (narrows_of cs) b)) (min (narrow_of c).first (lacking n cs (reads (narrows_of cs) b))))
    (is_true (takes (codes_of c) v) (both_left (takes (codes_of c) v) (all_taken cs b) t))
    ∙ taken_none n cs b (both_right (takes (codes_of c) v) (all_taken cs b) t)
  where
    is_true : (x : Bool) → T x → x ≡ true
    is_true true u = refl
    is_true false u = absurd u
