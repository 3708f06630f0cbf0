-- The way from opcode and length to the row: the seat of an opcode leads where the search does. Assumes nothing.
use mathlib.Core.Path.{◌≡◌, refl, sym, ap, ap₂, ◌∙◌, subst}
use mathlib.Core.Logic.{⊎_elim}
use mathlib.Core.Bool.{Bool, true, false, cond, ◌&&◌}
use mathlib.Core.List.{List, [], ◌∷◌}
use Prim.Native.Nat.{ℕ, zero, suc, ◌+◌, ◌-◌, ◌/◌, ◌%◌, ◌≤◌, ◌<◌, zero-le, suc-le-suc}
use native.Mathlib.Nat.{add-suc, suc-add}
use native.Mathlib.Omega.{arith}
use borrow.Author.Tests.{eq-eqb, ne_eqb, lt-ltb, le-ltb}
use lib.Dec.{T, eqb, ltb, eqb→eq}
use Rattle.std.specs.Prelude.{Result, Ok, Err}
use lib.ListN.{length, get_or}
use Rattle.frame.proofs.OneField.{le-or-lt}
use Rattle.table.specs.Table.{kinds, rows, op_of, len_of}
use Rattle.table.specs.Heads.{length_for, head_of, head_for}
use Rattle.table.specs.Laid.{find}
use Rattle.table.proofs.Below.{below, below_at}
use Rattle.table.proofs.Heads.{head-length, head-next}
use Rattle.table.proofs.Rows.{count, row_laid, row-found, found-row}
use Rattle.refusal.specs.declared.Refusal.{Refusal}
use Rattle.refusal.specs.declared.Refusal.TheVariants.{WrongLength, UnknownOpcode}
use Rattle.decoder.specs.Seats.{seat_from, seat_of}
use Rattle.decoder.specs.Decoding.{known, sought}

-- what the code makes of a seat
unfoldable pub seated : ℕ → ℕ → Result ℕ Refusal
seated s l =
    cond (eqb (s / 16 % 16) 0) (Err UnknownOpcode)
    (cond (eqb (s / 16 % 16) l) (Ok (s / 1048576)) (cond (eqb (s % 16) l) (Ok (s / 1048576 + 1)) (Err WrongLength)))

-- ---- opcodes of no row

module _ (o : ℕ) where
  seat-unknown : (i : ℕ) (rs : List (List ℕ)) → known rs o ≡ false → seat_from i rs o ≡ 0
  unfolding known seat_from
  seat-unknown i [] e = refl
  seat-unknown i (r ∷ rs) e = go (eqb (op_of r) o) e (seat-unknown (suc i) rs)
    where
      go : (b : Bool) → cond b true (known rs o) ≡ false → (known rs o ≡ false → seat_from (suc i) rs o ≡ 0)
          → cond b (head_of i r (get_or rs 0 [])) (seat_from (suc i) rs o) ≡ 0
      go true z ih = absurd (subst T z tt)
      go false z ih = ih z

  unfound : (rs : List (List ℕ)) (l : ℕ) → known rs o ≡ false → length rs ≤ find rs o l
  unfolding known find
  unfound [] l e = zero-le
  unfound (r ∷ rs) l e = go (eqb (op_of r) o) e (unfound rs l)
    where
      go : (b : Bool) → cond b true (known rs o) ≡ false → (known rs o ≡ false → length rs ≤ find rs o l)
          → suc (length rs) ≤ cond (b && eqb (len_of r) l) 0 (suc (find rs o l))
      go true z ih = absurd (subst T z tt)
      go false z ih = suc-le-suc (ih z)

-- o is the opcode of none of the first n rows, as the last arm of a match over their opcodes has it: two rows' opcode stands there once
abbrev pick : Bool → Type 0 → Type 0 → Type 0
pick true A B = A
pick false A B = B

abbrev pub NoneOf : ℕ → ℕ → Type 0
NoneOf zero o = Unit
NoneOf (suc n) o =
    pick (eqb (op_of (get_or rows (suc n) [])) (op_of (get_or rows n []))) (NoneOf n o) (NoneOf n o × (o ≡ op_of (get_or rows n []) → ⊥))

module _ (o : ℕ) where
  none-to : (n : ℕ) → (o ≡ op_of (get_or rows n []) → ⊥) → NoneOf n o → (i : ℕ) → i ≤ n → o ≡ op_of (get_or rows i []) → ⊥
  none-to zero d m i h e = let z : i ≡ 0 = omega arith in d (e ∙ ap (λ (k : ℕ). op_of (get_or rows k [])) z)
  none-to (suc n) d m i h e =
      go (eqb (op_of (get_or rows (suc n) [])) (op_of (get_or rows n []))) refl m (none-to n)
    where
      go : (b : Bool) → eqb (op_of (get_or rows (suc n) [])) (op_of (get_or rows n [])) ≡ b → pick b (NoneOf n o) (NoneOf n o × (o ≡ op_of (get_or rows n []) → ⊥))
          → ((o ≡ op_of (get_or rows n []) → ⊥) → NoneOf n o → (i : ℕ) → i ≤ n → o ≡ op_of (get_or rows i []) → ⊥) → ⊥
      go b q w ih = ⊎_elim here below' (le-or-lt (suc n) i)
        where
          here : suc n ≤ i → ⊥
          here l = let z : i ≡ suc n = omega arith in d (e ∙ ap (λ (k : ℕ). op_of (get_or rows k [])) z)

          below' : i < suc n → ⊥
          below' l = lower b q w
            where
              lower : (b : Bool) → eqb (op_of (get_or rows (suc n) [])) (op_of (get_or rows n [])) ≡ b
                  → pick b (NoneOf n o) (NoneOf n o × (o ≡ op_of (get_or rows n []) → ⊥)) → ⊥
              lower true p v = ih (λ x. d (x ∙ sym (eqb→eq _ _ (subst T (sym p) tt)))) v i (omega arith) e
              lower false p v = ih v.1 v.0 i (omega arith) e

  unknown-rows : (rs : List (List ℕ)) → ((i : ℕ) → i < length rs → o ≡ op_of (get_or rs i []) → ⊥) → known rs o ≡ false
  unfolding known
  unknown-rows [] h = refl
  unknown-rows (r ∷ rs) h =
      ap (λ (b : Bool). cond b true (known rs o)) (ne_eqb (op_of r) o (λ e. h 0 (suc-le-suc zero-le) (sym e)))
      ∙ unknown-rows rs (λ i l. h (suc i) (suc-le-suc l))

  pub seat-none : NoneOf kinds o → 0 ≡ seat_of o
  seat-none n =
      sym (seat-unknown o 0 rows (unknown-rows rows (λ i l. none-to (kinds - 1) n.1 n.0 i (omega (arith, count)))))

-- ---- opcodes of a row

-- the first row of an opcode, and its seat
record First (i : ℕ) (rs : List (List ℕ)) (o : ℕ) : Type 0 where
  at : ℕ
  row : at < length rs
  has : op_of (get_or rs at []) ≡ o
  seat : seat_from i rs o ≡ head_of (i + at) (get_or rs at []) (get_or rs (suc at) [])

first : (i : ℕ) (rs : List (List ℕ)) (o : ℕ) → known rs o ≡ true → First i rs o
unfolding known seat_from
first i [] o e = absurd (subst T (sym e) tt)
first i (r ∷ rs) o e = go (eqb (op_of r) o) refl e (first (suc i) rs o)
  where
    go : (b : Bool) → eqb (op_of r) o ≡ b → cond b true (known rs o) ≡ true → (known rs o ≡ true → First (suc i) rs o) → First i (r ∷ rs) o
    go true q z ih =
        let e : i ≡ i + 0 = omega arith in record {
          at = 0;
          row = suc-le-suc zero-le;
          has = eqb→eq (op_of r) o (subst T (sym q) tt);
          seat = ap (λ (b : Bool). cond b (head_of i r (get_or rs 0 [])) (seat_from (suc i) rs o)) q
              ∙ ap (λ (k : ℕ). head_of k r (get_or rs 0 [])) e;
        }
    go false q z ih =
        let f : First (suc i) rs o = ih z in record {
          at = suc f.at;
          row = suc-le-suc f.row;
          has = f.has;
          seat = ap (λ (b : Bool). cond b (head_of i r (get_or rs 0 [])) (seat_from (suc i) rs o)) q ∙ f.seat
              ∙ ap (λ (k : ℕ). head_of k (get_or rs f.at []) (get_or rs (suc f.at) []))
              (suc-add i f.at ∙ sym (add-suc i f.at));
        }

-- each row is where the seat of its opcode leads, for its length
is_row : ℕ → Result ℕ Refusal → Bool
is_row i (Ok j) = eqb j i
is_row i (Err x) = false

row_is : (i : ℕ) (x : Result ℕ Refusal) → T (is_row i x) → x ≡ Ok i
unfolding is_row
row_is i (Ok j) t = ap Ok (eqb→eq j i t)
row_is i (Err x) t = absurd t

leads : ℕ → Bool
leads i = is_row i (seated (seat_of (op_of (get_or rows i []))) (len_of (get_or rows i [])))

everywhere : T (below leads kinds)
unfolding below leads is_row seated seat_from
everywhere = tt

-- ---- every opcode, and every length from 2 on

from_zero : (k : ℕ) → 0 + k ≡ k
from_zero k = omega arith

module _ (o l : ℕ) (two : 2 ≤ l) where
  row-seated : find rows o l < kinds → seated (seat_of o) l ≡ Ok (find rows o l)
  unfolding leads
  row-seated h =
      let i : ℕ = find rows o l in
      let g = found-row rows o l (omega (arith, count)) in
      ap₂ (λ (x y : ℕ). seated (seat_of x) y) (sym g.0) (sym g.1) ∙ row_is i _ (below_at leads kinds i everywhere h)

  module _ (far : kinds ≤ find rows o l) where
    -- no row has the opcode and the length
    no_row : (i : ℕ) → i < kinds → op_of (get_or rows i []) ≡ o → len_of (get_or rows i []) ≡ l → ⊥
    no_row i h p q = let e : find rows o l ≡ i = ap₂ (find rows) (sym p) (sym q) ∙ row-found i h in omega arith

    -- the row after the last has no opcode and no length
    next-short : (i : ℕ) → i < kinds → (length_for o (get_or rows (suc i) []) ≤ 12) × (length_for o (get_or rows (suc i) []) ≡ l → ⊥)
    next-short i h = ⊎_elim last inner (le-or-lt kinds (suc i))
      where
        inner : suc i < kinds → (length_for o (get_or rows (suc i) []) ≤ 12) × (length_for o (get_or rows (suc i) []) ≡ l → ⊥)
        inner s = by (eqb (op_of (get_or rows (suc i) [])) o) refl
          where
            by : (b : Bool) → eqb (op_of (get_or rows (suc i) [])) o ≡ b
                → (cond b (len_of (get_or rows (suc i) [])) 0 ≤ 12) × (cond b (len_of (get_or rows (suc i) [])) 0 ≡ l → ⊥)
            by true q = ((row_laid (suc i) s).most, no_row (suc i) s (eqb→eq _ _ (subst T (sym q) tt)))
            by false q = (zero-le, λ e. omega arith)

        last : kinds ≤ suc i → (length_for o (get_or rows (suc i) []) ≤ 12) × (length_for o (get_or rows (suc i) []) ≡ l → ⊥)
        last s =
            let e : suc i ≡ kinds = omega arith in
            subst (λ (k : ℕ). (length_for o (get_or rows k []) ≤ 12) × (length_for o (get_or rows k []) ≡ l → ⊥)) (sym e) (by (eqb 0 o))
          where
            by : (b : Bool) → (cond b 0 0 ≤ 12) × (cond b 0 0 ≡ l → ⊥)
            by true = (zero-le, λ e. omega arith)
            by false = (zero-le, λ e. omega arith)

    wrong-seated : known rows o ≡ true → seated (seat_of o) l ≡ Err WrongLength
    unfolding seated
    wrong-seated k =
        let f : First 0 rows o = first 0 rows o k in
        let h : f.at < kinds = omega (arith, f.row, count) in
        let r = row_laid f.at h in
        let n = next-short f.at h in
        let a : ℕ = len_of (get_or rows f.at []) in
        let b : ℕ = length_for o (get_or rows (suc f.at) []) in
        let s : ℕ = seat_of o in
        let e : s ≡ head_for f.at = f.seat ∙ ap (λ (k : ℕ). head_of k (get_or rows f.at []) (get_or rows (suc f.at) [])) (from_zero f.at) in
        let p : s / 16 % 16 ≡ a = ap (λ (x : ℕ). x / 16 % 16) e ∙ head-length f.at h in
        let q : s % 16 ≡ b =
        ap (λ (x : ℕ). x % 16) e ∙ head-next f.at h ∙ ap (λ (x : ℕ). length_for x (get_or rows (suc f.at) [])) f.has in
        let some : a ≡ 0 → ⊥ = (λ z. omega (arith, r.least)) in
        simp (p, q, ne_eqb a 0 some, ne_eqb a l (no_row f.at h f.has), ne_eqb b l n.1)

    unknown-seated : known rows o ≡ false → seated (seat_of o) l ≡ Err UnknownOpcode
    unfolding seated
    unknown-seated k = ap (λ (s : ℕ). seated s l) (seat-unknown o 0 rows k)

  -- the seat leads where the search does
  pub seat-is : seated (seat_of o) l ≡ sought o l
  unfolding sought
  seat-is = ⊎_elim missed found (le-or-lt kinds (find rows o l))
    where
      found : find rows o l < kinds → seated (seat_of o) l ≡ cond (ltb (find rows o l) kinds) (Ok (find rows o l))
          (cond (known rows o) (Err WrongLength) (Err UnknownOpcode))
      found h = row-seated h ∙ sym (simp (lt-ltb (find rows o l) kinds h))

      missed : kinds ≤ find rows o l → seated (seat_of o) l ≡ cond (ltb (find rows o l) kinds) (Ok (find rows o l))
          (cond (known rows o) (Err WrongLength) (Err UnknownOpcode))
      missed h = by (known rows o) refl ∙ sym (simp (le-ltb (find rows o l) kinds h))
        where
          by : (b : Bool) → known rows o ≡ b → seated (seat_of o) l ≡ cond (known rows o) (Err WrongLength) (Err UnknownOpcode)
          by true q = wrong-seated h q ∙ sym (ap (λ (b : Bool). cond b (Err WrongLength) (Err UnknownOpcode)) q)
          by false q = unknown-seated h q ∙ sym (ap (λ (b : Bool). cond b (Err WrongLength) (Err UnknownOpcode)) q)

  -- each answer of the code
  module _ (s : ℕ) (es : s ≡ seat_of o) where
    whole : seated s l ≡ sought o l
    whole = ap (λ (x : ℕ). seated x l) es ∙ seat-is

    pub seat-empty : s / 16 % 16 ≡ 0 → ◌≡◌ {A = Result ℕ Refusal} (Err UnknownOpcode) (sought o l)
    unfolding seated
    seat-empty e = sym (simp (eq-eqb (s / 16 % 16) 0 e)) ∙ whole

    module _ (some : s / 16 % 16 ≡ 0 → ⊥) where
      pub seat-first : s / 16 % 16 ≡ l → Ok (s / 1048576) ≡ sought o l
      unfolding seated
      seat-first e = sym (simp (ne_eqb (s / 16 % 16) 0 some, eq-eqb (s / 16 % 16) l e)) ∙ whole

      module _ (other : s / 16 % 16 ≡ l → ⊥) where
        pub seat-second : s % 16 ≡ l → Ok (s / 1048576 + 1) ≡ sought o l
        unfolding seated
        seat-second e = sym (simp (ne_eqb (s / 16 % 16) 0 some, ne_eqb (s / 16 % 16) l other, eq-eqb (s % 16) l e)) ∙ whole

        pub seat-other : (s % 16 ≡ l → ⊥) → ◌≡◌ {A = Result ℕ Refusal} (Err WrongLength) (sought o l)
        unfolding seated
        seat-other d = sym (simp (ne_eqb (s / 16 % 16) 0 some, ne_eqb (s / 16 % 16) l other, ne_eqb (s % 16) l d)) ∙ whole
