-- What the steps and loops of the code ask: a byte's bits shifted to their place, the loop of a `Placed` field's `put`, the sum of its `get`.
-- Assumes nothing.
use mathlib.Core.Path.{◌≡◌, refl, sym, ap, ap₂, ◌∙◌, subst}
use mathlib.Core.Logic.{⊎_elim}
use mathlib.Core.Bool.{Bool, cond}
use mathlib.Core.List.{List}
use Prim.Native.Nat.{ℕ, suc, ◌+◌, ◌*◌, ◌/◌, ◌%◌, ◌^◌, ◌≤◌, ◌<◌}
use native.Mathlib.Nat.{mod-lt, mod-eq_of_lt, lt_trans, lt_of_lt_of_le, lt_of_le_of_lt, le-add_left, le_refl, ne_of_lt, ne_of_gt, eq-or-lt_of_le, le_of_suc-le-suc}
use native.Mathlib.Numerals.{add-one}
use native.Mathlib.Omega.{arith}
use lib.Pow.{pow_pos, pow_mono, shl_lt}
use lib.Bits.{bit_or, or_zero_r}
use lib.Dec.{lit<}
use lib.ListN.{length, get_or, set, length-set}
use lib.Seq.{get_or-set_same, get_or-set_other}
use Rattle.frame.specs.declared.Field.{Field}
use Rattle.frame.specs.Field.{size, rank, place, bits, part, read_to, Sound}
use Rattle.frame.specs.Layout.{bytes, tab, put}
use Rattle.frame.proofs.OneField.{le-or-lt, rank_lt, part_in, part_low, part-high, top, read_to-lt}
use Rattle.frame.proofs.Fields.{is-tab, sound-holds}

-- ---- a part

-- a byte's bits at their place are a byte
module _ (f : Field) (s : Sound 16 f) (k x : ℕ) (h : x < 2 ^ bits f k) where
  byte-lt : x * 2 ^ f.lo < 256
  byte-lt = lt_of_lt_of_le (shl_lt (bits f k) f.lo h) (pow_mono {i = bits f k + f.lo} {j = 8} (omega (arith, s.within)))

  byte_shl : x * 2 ^ f.lo % 2 ^ 64 ≡ x * 2 ^ f.lo
  byte_shl = mod-eq_of_lt (lt_trans byte-lt (lit< tt))

module _ (f : Field) (s : Sound 16 f) (i : ℕ) (a : f.first ≤ i) (b : i < f.first + size f) (d : ℕ) (e : d ≡ rank f i) where
  pub rank-in : d < size f
  rank-in = subst (λ (x : ℕ). x < size f) (sym e) (rank_lt f i a b)

  module _ (v x : ℕ) (g : x ≡ v / 2 ^ (8 * d) % 2 ^ bits f d) where
    x_lt : x < 2 ^ bits f d
    x_lt = subst (λ (y : ℕ). y < 2 ^ bits f d) (sym g) (mod-lt (v / 2 ^ (8 * d)) (pow_pos (bits f d)))

    pub part-is : x * 2 ^ f.lo % 2 ^ 64 ≡ part f v i
    part-is =
        byte_shl f s d x x_lt
        ∙ ap (λ (y : ℕ). y * 2 ^ f.lo) (g ∙ ap (λ (y : ℕ). v / 2 ^ (8 * y) % 2 ^ bits f y) e)
        ∙ sym (part_in f v i a b)

    pub part-fits : x * 2 ^ f.lo % 2 ^ 64 < 256
    part-fits = subst (λ (y : ℕ). y < 256) (sym (byte_shl f s d x x_lt)) (byte-lt f s d x x_lt)

-- ---- put

-- the bytes before i have their parts, and those from i on are as they were
pub record Upto (f : Field) (v : ℕ) (o out : List ℕ) (i : ℕ) : Type 0 where
  pub from : f.first ≤ i
  pub til : i ≤ f.first + size f
  pub long : length out ≡ length o
  pub done : (j : ℕ) → j < i → get_or out j 0 ≡ bit_or (get_or o j 0) (part f v j)
  pub left : (j : ℕ) → i ≤ j → get_or out j 0 ≡ get_or o j 0

pub upto-start : (f : Field) (v : ℕ) (o : List ℕ) → Upto f v o o f.first
upto-start f v o = record {
  from = omega arith;
  til = omega arith;
  long = refl;
  done = λ j h. sym (or_zero_r (get_or o j 0)) ∙ ap (bit_or (get_or o j 0)) (sym (part_low f v j h));
  left = λ j h. refl;
}

pub upto_step : (f : Field) (v : ℕ) (o out : List ℕ) (i p : ℕ) → Upto f v o out i → i < f.first + size f → i < length out → p ≡ part f v i → Upto f v o (set out i (bit_or (get_or out i 0) p)) (i + 1)
upto_step f v o out i p u h k e = record {
  from = omega (arith, u.from);
  til = omega arith;
  long = length-set out i (bit_or (get_or out i 0) p) ∙ u.long;
  done = λ j l. ⊎_elim
      (λ q. same j q)
      (λ q. get_or-set_other out i j (bit_or (get_or out i 0) p) 0 (ne_of_lt q) ∙ u.done j q)
      (eq-or-lt_of_le (le_of_suc-le-suc (subst (λ (x : ℕ). j < x) (add-one i) l)));
  left = λ j l. get_or-set_other out i j (bit_or (get_or out i 0) p) 0 (ne_of_gt (subst (λ (x : ℕ). x ≤ j) (add-one i) l)) ∙ u.left j (omega arith);
}
  where
    same : (j : ℕ) → j ≡ i → get_or (set out i (bit_or (get_or out i 0) p)) j 0 ≡ bit_or (get_or o j 0) (part f v j)
    same j q =
        ap (λ (x : ℕ). get_or (set out i (bit_or (get_or out i 0) p)) x 0) q
        ∙ get_or-set_same out i (bit_or (get_or out i 0) p) 0 k
        ∙ ap₂ bit_or (u.left i (le_refl i)) e
        ∙ sym (ap (λ (x : ℕ). bit_or (get_or o x 0) (part f v x)) q)

pub upto-end : (f : Field) (v : ℕ) (o out : List ℕ) (i : ℕ) → Sound 16 f → Upto f v o out i → ((j : ℕ) → j < length o → i ≤ j → f.first + size f ≤ j) → out ≡ put o f v
unfolding put
upto-end f v o out i s u h =
    is-tab (length o) (λ j. bit_or (bytes o j) (part f v j)) out u.long
    (λ j l. ⊎_elim
    (λ q. u.left j q ∙ sym (ap (bit_or (get_or o j 0)) (part-high f v j (h j l q)) ∙ or_zero_r (get_or o j 0)))
    (λ q. u.done j q) (le-or-lt i j))
    ∙ ap (λ (t : Bool). cond t (tab (length o) (λ j. bit_or (bytes o j) (part f v j))) o) (sym (sound-holds 16 f s))

-- ---- get

module _ (f : Field) (s : Sound 16 f) (b : ℕ → ℕ) (acc k x p : ℕ) (h : k < size f) (e : acc ≡ read_to f b k)
    (ep : p ≡ place f k) (ex : x ≡ b p / 2 ^ f.lo % 2 ^ bits f k) where
  sum_is : acc + x * 2 ^ (8 * k) ≡ read_to f b (suc k)
  unfolding read_to
  sum_is = ap₂ (λ (y z : ℕ). y + z * 2 ^ (8 * k)) e (ex ∙ ap (λ (y : ℕ). b y / 2 ^ f.lo % 2 ^ bits f k) ep)

  sum_lt : acc + x * 2 ^ (8 * k) < 2 ^ 64
  sum_lt = subst (λ (y : ℕ). y < 2 ^ 64) (sym sum_is) (lt_of_lt_of_le (read_to-lt f b (suc k) h) (pow_mono {i = top f (suc k)} {j = 64} (omega (arith, s.wide))))

  shl_is : x * 2 ^ (8 * k) % 2 ^ 64 ≡ x * 2 ^ (8 * k)
  shl_is = mod-eq_of_lt (lt_of_le_of_lt (le-add_left (x * 2 ^ (8 * k)) acc) sum_lt)

  pub get-is : acc + x * 2 ^ (8 * k) % 2 ^ 64 ≡ read_to f b (k + 1)
  get-is = ap (λ (y : ℕ). acc + y) shl_is ∙ sum_is ∙ ap (read_to f b) (sym (add-one k))

  pub get-lt : acc + x * 2 ^ (8 * k) % 2 ^ 64 < 2 ^ 64
  get-lt = subst (λ (y : ℕ). acc + y < 2 ^ 64) (sym shl_is) sum_lt
