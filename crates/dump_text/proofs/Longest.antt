-- The longest line of a dump has 64 bytes: no frame prints as a longer one at any index (`line-longest`), and one prints as just that
-- (`longest-met`). A frame's numbers are as long as the widths of its row's fields let them be: one test, computed over all rows.
-- Assumes nothing.
use mathlib.Core.Path.{◌≡◌, refl, sym, ap, ◌∙◌, subst}
use mathlib.Core.Bool.{Bool, true, ◌&&◌}
use mathlib.Core.List.{List, [], ◌∷◌}
use Prim.Native.Nat.{ℕ, zero, suc, ◌+◌, ◌-◌, ◌^◌, ◌≤◌, ◌<◌}
use native.Mathlib.Nat.{le_of_suc-le-suc, not-suc-le-zero, add-zero, add-suc, suc-add}
use native.Mathlib.Omega.{arith}
use lib.Dec.{T, leb, ltb, leb→le, ltb→lt}
use lib.ListN.{length, get_or, length-append}
use Rattle.refusal.specs.declared.Refusal.{Refusal}
use Rattle.refusal.specs.Numbers.{number_of, place_of}
use Rattle.refusal.proofs.Numbers.{number-bounds}
use Rattle.frame.specs.Field.{mask, part, read, read_to}
use Rattle.frame.specs.Layout.{fitting, tab, tab_from, mask_of, reads}
use Rattle.frame.proofs.Fields.{both_left, both_right}
use Rattle.table.specs.Number.{narrow_of, narrows_of}
use Rattle.table.specs.Codes.{is_in, takes}
use Rattle.table.specs.Table.{rows, numbers_of}
use Rattle.table.specs.Laid.{find}
use Rattle.table.proofs.Rows.{count}
use Rattle.reading.specs.Decimal.{digits, decimal}
use Rattle.reading.proofs.Decimals.{decimal-length}
use Rattle.decoder.specs.Decoding.{Reading, reading, refuses, decode, sought, answered, judged, known, stray, lacking}
use Rattle.codec.proofs.Accepted.{Inside, inside, Read, decode-read}
use Rattle.texts.proofs.Longest.{decimal-most}
use Rattle.dump_text.specs.Text.{kind_of, refusal_of, place_in, arguments_of, blanked, line_of}
use Rattle.dump_text.specs.Parts.{longest}

-- ---- arguments

-- the digits of the largest number that a field holds
abbrev wide_of : ℕ → ℕ
wide_of c = suc (length (decimal (2 ^ (narrow_of c).w - 1)) - 1)

-- what a row's arguments take at the most, each after a blank
abbrev widest : List ℕ → ℕ
widest [] = 0
widest (c ∷ cs) = suc (wide_of c) + widest cs

-- no number that a field holds has more digits
abbrev held : List ℕ → Bool
held [] = true
held (c ∷ cs) = leb (2 ^ (narrow_of c).w) (10 ^ wide_of c) && held cs

-- kind and arguments leave room for the index, the two zeros and the newline
abbrev short : ℕ → List ℕ → Bool
short kind r = held (numbers_of r) && leb (length (decimal kind) + widest (numbers_of r)) 38

-- the rows of the kinds from this one on
abbrev all_short : ℕ → List (List ℕ) → Bool
all_short kind [] = true
all_short kind (r ∷ rs) = short kind r && all_short (suc kind) rs

all_short_lem : T (all_short 1 rows)
unfolding decimal digits narrow_of
all_short_lem = tt

short-at : (kind : ℕ) (rs : List (List ℕ)) → T (all_short kind rs) → (i : ℕ) → i < length rs → T (short (kind + i) (get_or rs i []))
short-at kind [] t i h = absurd (not-suc-le-zero h)
short-at kind (r ∷ rs) t zero h = subst (λ (k : ℕ). T (short k r)) (sym (add-zero kind)) (both_left (short kind r) (all_short (suc kind) rs) t)
short-at kind (r ∷ rs) t (suc i) h =
    subst (λ (k : ℕ). T (short k (get_or rs i []))) (suc-add kind i ∙ sym (add-suc kind i))
    (short-at (suc kind) rs (both_right (short kind r) (all_short (suc kind) rs) t) i (le_of_suc-le-suc h))

arguments-short : (cs vs : List ℕ) → T (fitting (narrows_of cs) vs) → T (held cs) → length (blanked vs) ≤ widest cs
unfolding fitting narrows_of blanked
arguments-short [] [] f t = omega arith
arguments-short [] (v ∷ vs) f t = absurd f
arguments-short (c ∷ cs) [] f t = absurd f
arguments-short (c ∷ cs) (v ∷ vs) f t =
    let fits : Bool = ltb v (2 ^ (narrow_of c).w) in
    let holds : Bool = leb (2 ^ (narrow_of c).w) (10 ^ wide_of c) in
    let low : v < 2 ^ (narrow_of c).w = ltb→lt _ _ (both_left fits (fitting (narrows_of cs) vs) f) in
    let top : 2 ^ (narrow_of c).w ≤ 10 ^ wide_of c = leb→le _ _ (both_left holds (held cs) t) in
    let one : length (decimal v) ≤ wide_of c = decimal-length _ v (omega arith) in
    let rest : length (blanked vs) ≤ widest cs = arguments-short cs vs (both_right fits (fitting (narrows_of cs) vs) f) (both_right holds (held cs) t) in
    simp length-append (omega arith)

-- ---- lines

blanked-length : (n : ℕ) (ns : List ℕ) → length (blanked (n ∷ ns)) ≡ suc (length (decimal n)) + length (blanked ns)
unfolding blanked
blanked-length n ns = simp length-append (omega arith)

line-length : (index : ℕ) (r : Reading) → length (line_of index r)
    ≡ length (decimal index) + length (decimal (kind_of r)) + length (decimal (refusal_of r)) + length (decimal (place_in r))
    + length (blanked (arguments_of r)) + 4
unfolding line_of
line-length index r = simp (length-append, blanked-length) (omega arith)

pub refusal-longest : (index : ℕ) (why : Refusal) → length (line_of index (refuses why)) ≤ longest
unfolding blanked
refusal-longest index why =
    omega (
      arith,
      line-length index (refuses why),
      decimal-most index,
      decimal-length 0 0 (omega arith),
      decimal-length 1 (number_of why) (omega (arith, (number-bounds why).1)),
      decimal-most (place_of why),
    )

kind-longest : (index : ℕ) (f : List ℕ) (k : ℕ) (vs : List ℕ) → Read f k vs → length (line_of index (reading k vs)) ≤ longest
kind-longest index f k vs d =
    let r : List ℕ = get_or rows d.at [] in
    let n : ℕ = 1 + d.at in
    let s : T (short n r) = short-at 1 rows all_short_lem d.at (rw count d.row) in
    let i : Inside (numbers_of r) vs = inside 1 (numbers_of r) vs d.none in
    let a : length (blanked vs) ≤ widest (numbers_of r) =
    arguments-short (numbers_of r) vs i.fit (both_left (held (numbers_of r)) (leb (length (decimal n) + widest (numbers_of r)) 38) s)
    in
    let b : length (decimal n) + widest (numbers_of r) ≤ 38 =
    leb→le _ _ (both_right (held (numbers_of r)) (leb (length (decimal n) + widest (numbers_of r)) 38) s)
    in
    let e : k ≡ n = d.kind ∙ omega arith in
    omega (arith, line-length index (reading k vs), decimal-most index, decimal-length 0 0 (omega arith), ap (λ (m : ℕ). length (decimal m)) e)

pub line-longest : (index : ℕ) (f : List ℕ) → length (line_of index (decode f)) ≤ longest
line-longest index f = by (decode f) refl
  where
    by : (r : Reading) → decode f ≡ r → length (line_of index r) ≤ longest
    by (refuses why) e = refusal-longest index why
    by (reading k vs) e = kind-longest index f k vs (decode-read f k vs e)

-- kind 6 with every bit set, at the last index that a pass prints
pub longest-met : length (line_of (2 ^ 64 - 2) (decode (2 ∷ 38 ∷ 135 ∷ 255 ∷ 255 ∷ 255 ∷ 255 ∷ 255 ∷ 127 ∷ 255 ∷ 255 ∷ 255 ∷ []))) ≡ longest
unfolding decode sought answered judged known find stray lacking takes is_in tab tab_from mask_of mask reads read read_to part narrow_of narrows_of line_of blanked
    decimal digits
longest-met = refl
