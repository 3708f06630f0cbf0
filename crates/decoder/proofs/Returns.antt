-- What the returns of the decoder ask: each branch gives the specification's answer. Assumes nothing.
use mathlib.Core.Path.{◌≡◌, refl, sym, ap, ap₂, ◌∙◌, subst}
use mathlib.Core.Logic.{◌⊎◌, inl, inr}
use mathlib.Core.Bool.{Bool, true, false, cond}
use mathlib.Core.List.{List, [], ◌++◌}
use Prim.Native.Nat.{ℕ, ◌+◌, ◌-◌, ◌≤◌, ◌<◌}
use native.Mathlib.Numerals.{add-one}
use native.Mathlib.Omega.{arith}
use borrow.Author.Tests.{lt-ltb, le-ltb, ltb-true}
use lib.Dec.{ltb}
use Rattle.std.specs.Prelude.{Result, Ok, Err}
use lib.ListN.{length, get_or, take, replicate}
use lib.Seq.{take_at}
use Rattle.frame.specs.Layout.{bytes}
use Rattle.table.specs.Table.{kinds, rows, row_at, op_of, len_of, count_of, numbers_of}
use Rattle.table.specs.Laid.{find}
use Rattle.table.specs.Narrowed.{opcode, arguments_in, Ready}
use Rattle.table.proofs.Cells.{length-numbers}
use Rattle.table.proofs.Rows.{count, row-at, found-row}
use Rattle.refusal.specs.declared.Refusal.{Refusal}
use Rattle.refusal.specs.declared.Refusal.TheVariants.{ShortFrame, WrongLength, UnknownOpcode, StrayBit, UnknownCode}
use Rattle.decoder.specs.declared.Decoded.{Decoded}
use Rattle.decoder.specs.Decoding.{reading, refuses, stray_at, lacking, lacking_at, judged, known, sought, answered, decode, decoded}
use Rattle.decoder.proofs.Apart.{err-ok}
use Rattle.decoder.proofs.Fields.{length-reads}

-- ---- judge

module _ (r : List ℕ) (f : List ℕ) where
  pub judged-stray : (k p : ℕ) → p ≡ stray_at r f → p < length f → judged k r f ≡ refuses (StrayBit p)
  unfolding judged
  judged-stray k p e h = simp (sym e, lt-ltb p (length f) h)

  module _ (whole : length r ≡ 13) (rd : Ready r) (clean : length f ≤ stray_at r f) (args : List ℕ) (q : ℕ)
      (ea : args ≡ arguments_in r f ++ replicate (9 - count_of r) 0) (eq : q ≡ lacking (length f) (numbers_of r) (take (count_of r) args)) where
    many : length (arguments_in r f) ≡ count_of r
    many = length-reads (numbers_of r) (bytes f) ∙ length-numbers r whole rd.few

    lacking-is : lacking_at r f ≡ q
    lacking-is =
        sym (eq ∙ ap (lacking (length f) (numbers_of r)) (ap (take (count_of r)) ea ∙ take_at (arguments_in r f) (replicate (9 - count_of r) 0) (count_of r) many))

    pub judged-code : (k : ℕ) → q < length f → judged k r f ≡ refuses (UnknownCode q)
    unfolding judged
    judged-code k h = simp (le-ltb (stray_at r f) (length f) clean, lacking-is, lt-ltb q (length f) h)

    judged-kind : (k : ℕ) → length f ≤ q → judged k r f ≡ reading k (arguments_in r f)
    unfolding judged
    judged-kind k h = simp (le-ltb (stray_at r f) (length f) clean, lacking-is, le-ltb q (length f) h)

    pub decoded-kind : (k n : ℕ) → length f ≤ q → n ≡ count_of r → ◌≡◌ {A = Result Decoded Refusal} (Ok (record { kind = k; count = n; args = args }))
        (decoded (judged k r f))
    unfolding decoded
    decoded-kind k n h en =
        ap₂ {C = Result Decoded Refusal} (λ (m : ℕ) (v : List ℕ). Ok (record { kind = k; count = m; args = v })) (en ∙ sym many)
        (ea ∙ ap (λ (m : ℕ). arguments_in r f ++ replicate (9 - m) 0) (sym many))
        ∙ ap decoded (sym (judged-kind k h))

-- ---- decode

pub decode-short : (f : List ℕ) → length f < 2 → decode f ≡ refuses ShortFrame
unfolding decode
decode-short f h = simp (lt-ltb (length f) 2 h)

-- a row that is sought is one of the table and has the opcode and the length
pub record Found (o l i : ℕ) : Type 0 where
  pub place : find rows o l ≡ i
  pub row : i < kinds
  pub has : (op_of (get_or rows i []) ≡ o) × (len_of (get_or rows i []) ≡ l)

pub sought-row : (o l i : ℕ) → sought o l ≡ Ok i → Found o l i
unfolding sought
sought-row o l i e = by (ltb (find rows o l) kinds) (known rows o) refl e
  where
    by : (a b : Bool) → ltb (find rows o l) kinds ≡ a → cond a (Ok (find rows o l)) (cond b (Err WrongLength) (Err UnknownOpcode)) ≡ Ok i → Found o l i
    by true b p z =
        let q : find rows o l ≡ i = cc in
        let h : find rows o l < kinds = ltb-true _ _ p in record {
          place = q;
          row = subst (λ (k : ℕ). k < kinds) q h;
          has = subst (λ (k : ℕ). (op_of (get_or rows k []) ≡ o) × (len_of (get_or rows k []) ≡ l)) q (found-row rows o l (omega (arith, count)));
        }
    by false true p z = absurd (err-ok z)
    by false false p z = absurd (err-ok z)

-- where no row is, the refusal is one of two
pub sought-none : (o l : ℕ) (x : Refusal) → sought o l ≡ Err x → (x ≡ WrongLength) ⊎ (x ≡ UnknownOpcode)
unfolding sought
sought-none o l x e = by (ltb (find rows o l) kinds) (known rows o) e
  where
    by : (a b : Bool) → cond a (Ok (find rows o l)) (cond b (Err WrongLength) (Err UnknownOpcode)) ≡ Err x → (x ≡ WrongLength) ⊎ (x ≡ UnknownOpcode)
    by true b z = absurd (err-ok (sym z))
    by false true z = inl cc
    by false false z = inr cc

module _ (f : List ℕ) (o : ℕ) (x : Result ℕ Refusal) (eo : o ≡ opcode f) (ex : x ≡ sought o (length f)) where
  pub decode-sought : 2 ≤ length f → answered f x ≡ decode f
  unfolding decode
  decode-sought two = ap (answered f) (ex ∙ ap (λ (k : ℕ). sought k (length f)) eo) ∙ sym (simp (le-ltb (length f) 2 two))

  pub decode-refused : (y : Refusal) → x ≡ Err y → 2 ≤ length f → refuses y ≡ decode f
  unfolding answered
  decode-refused y e two = ap (answered f) (sym e) ∙ decode-sought two

  module _ (i : ℕ) (e : x ≡ Ok i) where
    place : Found o (length f) i
    place = sought-row o (length f) i (sym ex ∙ e)

    pub row-place : i < kinds
    row-place = place.row

    pub row-length : len_of (row_at i) ≡ length f
    row-length = ap (λ (r : List ℕ). len_of r) (row-at i place.row) ∙ place.has.1

    pub decode-row : 2 ≤ length f → judged (i + 1) (row_at i) f ≡ decode f
    unfolding answered
    decode-row two = ap₂ (λ (r : List ℕ) (k : ℕ). judged k r f) (row-at i place.row) (add-one i) ∙ ap (answered f) (sym e) ∙ decode-sought two
