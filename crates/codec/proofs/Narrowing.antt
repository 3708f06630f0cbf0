-- A value that fits the narrowed field puts the same bits as in the plain one: the lemmas of `plain-checked`. Assumes nothing.
use mathlib.Core.Path.{◌≡◌, refl, sym, ap, ap₂, ◌∙◌, subst}
use mathlib.Core.Logic.{⊎_elim}
use mathlib.Core.Bool.{Bool, true, false, cond, ◌&&◌}
use mathlib.Core.List.{List, [], ◌∷◌}
use Prim.Native.Nat.{ℕ, ◌+◌, ◌-◌, ◌*◌, ◌/◌, ◌%◌, ◌^◌, ◌≤◌, ◌<◌, min}
use native.Mathlib.Nat.{mod-eq_of_lt, zero-div, zero-mod, zero-mul, lt_of_lt_of_le}
use native.Mathlib.Omega.{arith}
use lib.Pow.{pow_mono, shr_lt}
use lib.Bits.{bit_or}
use lib.Dec.{T, ltb, eqb, ltb→lt, eqb→eq}
use Rattle.frame.specs.declared.Field.{Field}
use Rattle.frame.specs.Field.{size, holds, rank, bits, part}
use Rattle.frame.specs.Layout.{fitting, byte_of}
use Rattle.frame.proofs.OneField.{le-or-lt, rank_lt, part_in, part_low, part-high}
use Rattle.frame.proofs.Fields.{both_left, both_right}
use Rattle.table.specs.Number.{narrow_of, plain_of, narrows_of, plains_of}
use Rattle.codec.proofs.Fitting.{starts, narrows, all_fit}
use Rattle.codec.proofs.Accepted.{of-true}

-- no bits of 0 are set
part-zero : (f : Field) (i : ℕ) → part f 0 i ≡ 0
unfolding part
part-zero f i = go (holds f i)
  where
    go : (t : Bool) → cond t (0 / 2 ^ (8 * rank f i) % 2 ^ bits f (rank f i) * 2 ^ f.lo) 0 ≡ 0
    go true =
        ap (λ (x : ℕ). x % 2 ^ bits f (rank f i) * 2 ^ f.lo) (zero-div (2 ^ (8 * rank f i)))
        ∙ ap (λ (x : ℕ). x * 2 ^ f.lo) (zero-mod (2 ^ bits f (rank f i))) ∙ zero-mul (2 ^ f.lo)
    go false = refl

-- a byte of a value that fits is the same in a wider field
digit-wider : (v w u k : ℕ) → w ≤ u → v < 2 ^ w → 8 * k < w → v / 2 ^ (8 * k) % 2 ^ min 8 (u - 8 * k) ≡ v / 2 ^ (8 * k) % 2 ^ min 8 (w - 8 * k)
digit-wider v w u k h l b = ⊎_elim whole top (le-or-lt 8 (w - 8 * k))
  where
    whole : 8 ≤ w - 8 * k → v / 2 ^ (8 * k) % 2 ^ min 8 (u - 8 * k) ≡ v / 2 ^ (8 * k) % 2 ^ min 8 (w - 8 * k)
    whole z = let e : min 8 (u - 8 * k) ≡ min 8 (w - 8 * k) = omega arith in ap (λ (n : ℕ). v / 2 ^ (8 * k) % 2 ^ n) e

    top : w - 8 * k < 8 → v / 2 ^ (8 * k) % 2 ^ min 8 (u - 8 * k) ≡ v / 2 ^ (8 * k) % 2 ^ min 8 (w - 8 * k)
    top z =
        let e : w ≡ min 8 (w - 8 * k) + 8 * k = omega arith in
        let m : min 8 (w - 8 * k) ≤ min 8 (u - 8 * k) = omega arith in
        let x : v / 2 ^ (8 * k) < 2 ^ min 8 (w - 8 * k) = shr_lt (min 8 (w - 8 * k)) (8 * k) (subst (λ (n : ℕ). v < 2 ^ n) e l) in
        mod-eq_of_lt (lt_of_lt_of_le x (pow_mono m)) ∙ sym (mod-eq_of_lt x)

-- of two fields that differ in width alone and take as many bytes
part-wider : (f g : Field) (v i : ℕ) → g.first ≡ f.first → g.lo ≡ f.lo → g.le ≡ f.le → size f ≡ size g → f.w ≤ g.w → v < 2 ^ f.w
    → part g v i ≡ part f v i
part-wider f g v i ef el ee es h l =
    ⊎_elim
    (λ a. ⊎_elim
    (λ z. part-high g v i (omega arith) ∙ sym (part-high f v i z))
    (inner a) (le-or-lt (f.first + size f) i))
    (λ a. part_low g v i (omega arith) ∙ sym (part_low f v i a)) (le-or-lt f.first i)
  where
    ranks : rank g i ≡ rank f i
    ranks = ap₂ (λ (t : Bool) (n : ℕ). cond t (i - n) (n + size g - 1 - i)) ee ef ∙ ap (λ (n : ℕ). cond f.le (i - f.first) (f.first + n - 1 - i)) (sym es)

    inner : f.first ≤ i → i < f.first + size f → part g v i ≡ part f v i
    inner a b =
        part_in g v i (omega arith) (omega arith)
        ∙ ap₂ (λ (k n : ℕ). v / 2 ^ (8 * k) % 2 ^ bits g k * 2 ^ n) ranks el
        ∙ ap (λ (n : ℕ). n * 2 ^ f.lo) (digit-wider v f.w g.w (rank f i) h l (omega (arith, rank_lt f i a b)))
        ∙ sym (part_in f v i a b)

part-plain : (c v i : ℕ) → T (narrows c) → v < 2 ^ (narrow_of c).w → part (plain_of c) v i ≡ part (narrow_of c) v i
unfolding narrows narrow_of plain_of
part-plain c v i t l = go (eqb (narrow_of c).w 0) refl t
  where
    go : (b : Bool) → eqb (narrow_of c).w 0 ≡ b → T (cond b true (eqb (size (narrow_of c)) (size (plain_of c)))) → part (plain_of c) v i ≡ part (narrow_of c) v i
    go true q s =
        let w : (narrow_of c).w ≡ 0 = eqb→eq (narrow_of c).w 0 (of-true (eqb (narrow_of c).w 0) q) in
        let z : v ≡ 0 = let y : v < 2 ^ 0 = subst (λ (n : ℕ). v < 2 ^ n) w l in omega arith in
        ap (λ (x : ℕ). part (plain_of c) x i) z ∙ part-zero (plain_of c) i ∙ sym (part-zero (narrow_of c) i) ∙ sym (ap (λ (x : ℕ). part (narrow_of c) x i) z)
    go false q s = part-wider (narrow_of c) (plain_of c) v i refl refl refl (eqb→eq (size (narrow_of c)) (size (plain_of c)) s) (omega arith) l

pub bytes-plain : (n : ℕ) (cs vs : List ℕ) (i : ℕ) → T (all_fit n cs) → T (fitting (narrows_of cs) vs) → byte_of (plains_of cs) vs i ≡ byte_of (narrows_of cs) vs i
unfolding byte_of narrows_of fitting all_fit
bytes-plain n [] vs i a t = refl
bytes-plain n (c ∷ cs) [] i a t = refl
bytes-plain n (c ∷ cs) (v ∷ vs) i a t =
    ap₂ bit_or
    (part-plain c v i (both_right (starts n c) (narrows c) (both_left (starts n c && narrows c) (all_fit n cs) a))
    (ltb→lt _ _ (both_left (ltb v (2 ^ (narrow_of c).w)) (fitting (narrows_of cs) vs) t)))
    (bytes-plain n cs vs i (both_right (starts n c && narrows c) (all_fit n cs) a) (both_right (ltb v (2 ^ (narrow_of c).w)) (fitting (narrows_of cs) vs) t))
