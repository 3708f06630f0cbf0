-- The laws of the decoder and the checked builder, for every kind, every list of whole numbers and every list of bytes.
--     decode-checked             what the checked builder makes decodes to its kind and arguments
--     checked-decode             the checked builder makes a frame again from what the frame decodes to
--     checked-refuses            the checked builder refuses only what no frame decodes to
--     checked-refuses-all        and all of it
--     decode-refuses             the decoder refuses only what the checked builder never makes
--     decode-refuses-all         and all of it
--     plain-checked              where the checked builder makes a frame, the plain builder gives the same bytes
--     decode-kind                a frame that decodes has a kind of the table and its row's length
-- None of them has a proof for each kind: they follow from the tests computed over the table's rows and the laws of fields.
-- Assumes nothing.
use mathlib.Core.Path.{◌≡◌, refl, sym, ap, ap₂, ◌∙◌}
use mathlib.Core.Bool.{true, ◌&&◌}
use mathlib.Core.List.{List, [], ◌∷◌}
use Prim.Native.Nat.{ℕ, suc, ◌-◌, ◌≤◌, ◌<◌}
use native.Mathlib.Omega.{arith}
use borrow.Author.Tests.{lt-ltb, le-leb}
use lib.Bits.{bit_or}
use lib.ListN.{length, get_or}
use Rattle.frame.specs.Field.{part}
use Rattle.frame.specs.Layout.{byte_of}
use Rattle.frame.proofs.Fields.{tab-ext, length-tab}
use Rattle.table.specs.Number.{narrow_of, plain_of, narrows_of, plains_of}
use Rattle.table.specs.Table.{kinds, is_kind, rows, op_of, len_of, numbers_of, op_number, row_of, plain}
use Rattle.table.proofs.Rows.{plain-is}
use Rattle.refusal.specs.declared.Refusal.{Refusal}
use Rattle.table.specs.Narrowed.{fields_of}
use Rattle.decoder.specs.Decoding as decoder
use Rattle.decoder.specs.Decoding.{Reading, reading, decode}
use Rattle.builder.specs.Building as builder
use Rattle.builder.specs.Building.{Making, makes, unless, builds, checked}
use Rattle.decoder.proofs.Apart.{refuses-reading}
use Rattle.builder.proofs.Apart.{refuses-makes}
use Rattle.codec.proofs.Fitting.{row_fits}
use Rattle.codec.proofs.Accepted.{Inside, inside, Made, made, Read, decode-read, row-decodes}
use Rattle.codec.proofs.Narrowing.{bytes-plain}

-- ---- the two undo each other

pub decode-checked : (k : ℕ) (vs f : List ℕ) → checked k vs ≡ makes f → decode f ≡ reading k vs
decode-checked k vs f e =
    let m : Made k vs f = made k vs f e in
    let q : suc (k - 1) ≡ k = omega (arith, m.low) in
    ap decode (sym m.gives) ∙ row-decodes (k - 1) vs (omega (arith, m.low, m.high)) m.none ∙ ap (λ (n : ℕ). reading n vs) q

pub checked-decode : (f : List ℕ) (k : ℕ) (vs : List ℕ) → decode f ≡ reading k vs → checked k vs ≡ makes f
unfolding builds unless
checked-decode f k vs e =
    let d : Read f k vs = decode-read f k vs e in
    let p : is_kind k ≡ true = ap₂ ◌&&◌ (lt-ltb 0 k (omega (arith, d.kind))) (le-leb k kinds (omega (arith, d.kind, d.row))) in
    let q : k - 1 ≡ d.at = omega (arith, d.kind) in
    simp (p, q, d.none) (ap makes d.gives)

-- ---- what is refused

pub checked-refuses : (k : ℕ) (vs : List ℕ) (x : Refusal) → checked k vs ≡ builder.refuses x → (f : List ℕ) → decode f ≡ reading k vs → ⊥
checked-refuses k vs x e f d = refuses-makes (sym e ∙ checked-decode f k vs d)

pub checked-refuses-all : (k : ℕ) (vs : List ℕ) → ((f : List ℕ) → decode f ≡ reading k vs → ⊥) → (x : Refusal) × (checked k vs ≡ builder.refuses x)
checked-refuses-all k vs h = go (checked k vs) refl
  where
    go : (x : Making) → checked k vs ≡ x → (y : Refusal) × (checked k vs ≡ builder.refuses y)
    go (builder.refuses y) e = (y, e)
    go (makes f) e = absurd (h f (decode-checked k vs f e))

pub decode-refuses : (f : List ℕ) (x : Refusal) → decode f ≡ decoder.refuses x → (k : ℕ) (vs : List ℕ) → checked k vs ≡ makes f → ⊥
decode-refuses f x e k vs d = refuses-reading (sym e ∙ decode-checked k vs f d)

pub decode-refuses-all : (f : List ℕ) → ((k : ℕ) (vs : List ℕ) → checked k vs ≡ makes f → ⊥) → (x : Refusal) × (decode f ≡ decoder.refuses x)
decode-refuses-all f h = go (decode f) refl
  where
    go : (x : Reading) → decode f ≡ x → (y : Refusal) × (decode f ≡ decoder.refuses y)
    go (decoder.refuses y) e = (y, e)
    go (reading k vs) e = absurd (h k vs (checked-decode f k vs e))

-- ---- the plain builders

pub plain-checked : (k : ℕ) (vs f : List ℕ) → checked k vs ≡ makes f → plain k vs ≡ f
unfolding byte_of narrows_of narrow_of plain_of
plain-checked k vs f e =
    let m : Made k vs f = made k vs f e in
    let l : k - 1 < kinds = omega (arith, m.low, m.high) in
    let n : Inside (numbers_of (row_of k)) vs = inside 1 (numbers_of (row_of k)) vs m.none in
    plain-is (k - 1) l vs
    ∙ tab-ext (len_of (row_of k)) (byte_of (plains_of (op_number ∷ numbers_of (row_of k))) (op_of (row_of k) ∷ vs)) (byte_of (fields_of (row_of k)) (op_of (row_of k) ∷ vs))
    (λ i h. ap (bit_or (part (narrow_of op_number) (op_of (row_of k)) i)) (bytes-plain (len_of (row_of k)) (numbers_of (row_of k)) vs i (row_fits (k - 1) l) n.fit))
    ∙ m.gives

-- ---- what the book asks

pub decode-kind : (f : List ℕ) (k : ℕ) (vs : List ℕ) → decode f ≡ reading k vs → (0 < k) × (k ≤ kinds) × (length f ≡ len_of (row_of k))
decode-kind f k vs e =
    let d : Read f k vs = decode-read f k vs e in
    let q : d.at ≡ k - 1 = omega (arith, d.kind) in (
      omega (arith, d.kind),
      omega (arith, d.kind, d.row),
      ap length (sym d.gives) ∙ length-tab (len_of (get_or rows d.at [])) _
          ∙ ap (λ (i : ℕ). len_of (get_or rows i [])) q,
    )
