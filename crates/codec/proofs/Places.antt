-- How far a refusal's place reaches, how long a frame is that is made, and by which numbers the decoder refuses. Assumes nothing.
use mathlib.Core.Path.{◌≡◌, refl, sym, ap, ◌∙◌, subst}
use mathlib.Core.Logic.{⊎_elim}
use mathlib.Core.Bool.{Bool, true, false, cond, ◌&&◌}
use mathlib.Core.List.{List, [], ◌∷◌}
use Prim.Native.Nat.{ℕ, suc, ◌+◌, ◌-◌, ◌≤◌, ◌<◌}
use native.Mathlib.Omega.{arith}
use borrow.Author.Tests.{ltb-true, leb-true}
use lib.Dec.{T, ltb, leb}
use Rattle.std.specs.Prelude.{Result, Ok, Err, Option, Some, None}
use lib.ListN.{length, get_or, drop, length-take}
use Rattle.frame.specs.Layout.{byte_of}
use Rattle.frame.proofs.Fields.{length-tab}
use Rattle.table.specs.Number.{plains_of}
use Rattle.table.specs.Table.{kinds, is_kind, rows, op_of, len_of, count_of, numbers_of, row_of, op_number, plain_row}
use Rattle.table.specs.Narrowed.{fields_of, frame_of, opcode, arguments_in}
use Rattle.table.proofs.Rows.{row_laid, plain-is}
use Rattle.refusal.specs.declared.Refusal.{Refusal}
use Rattle.refusal.specs.declared.Refusal.TheVariants.{ShortFrame, StrayBit, UnknownCode, NotAKind}
use Rattle.refusal.specs.Numbers.{number_of, place_of}
use Rattle.codes.specs.Allowed.{allows, accepts}
use Rattle.decoder.specs.Decoding as decoder
use Rattle.decoder.specs.Decoding.{Reading, reading, stray_at, lacking_at, judged, sought, answered, decode}
use Rattle.decoder.proofs.Returns.{Found, sought-row, sought-none}
use Rattle.builder.specs.Building as builder
use Rattle.builder.specs.Building.{Making, makes, first_misfit, unless, builds, checked, plain_by}

-- ---- the decoder

abbrev pub place_in : Reading → ℕ
place_in (reading k vs) = 0
place_in (decoder.refuses x) = place_of x

abbrev number_in : Reading → ℕ
number_in (reading k vs) = 0
number_in (decoder.refuses x) = number_of x

-- what holds of every answer of the decoder
record Told (x : Reading) : Type 0 where
  place : place_in x ≤ 12
  number : number_in x ≤ 5

judged-told : (k : ℕ) (r f : List ℕ) → length f ≤ 12 → Told (judged k r f)
unfolding judged
judged-told k r f short = by (ltb (stray_at r f) (length f)) refl (ltb (lacking_at r f) (length f)) refl
  where
    by : (a : Bool) → ltb (stray_at r f) (length f) ≡ a → (b : Bool) → ltb (lacking_at r f) (length f) ≡ b
        → Told (cond a (decoder.refuses (StrayBit (stray_at r f))) (cond b (decoder.refuses (UnknownCode (lacking_at r f))) (reading k (arguments_in r f))))
    by true e b g = record { place = omega (arith, ltb-true (stray_at r f) (length f) e); number = omega arith }
    by false e true g = record { place = omega (arith, ltb-true (lacking_at r f) (length f) g); number = omega arith }
    by false e false g = record { place = omega arith; number = omega arith }

decode-told : (f : List ℕ) → Told (decode f)
unfolding decode answered
decode-told f = by (ltb (length f) 2) (sought (opcode f) (length f)) refl
  where
    by : (a : Bool) (x : Result ℕ Refusal) → sought (opcode f) (length f) ≡ x → Told (cond a (decoder.refuses ShortFrame) (answered f x))
    by true x e = record { place = omega arith; number = omega arith }
    by false (Err y) e = ⊎_elim (λ q. subst (λ (r : Refusal). Told (decoder.refuses r)) (sym q) (record { place = omega arith; number = omega arith }))
        (λ q. subst (λ (r : Refusal). Told (decoder.refuses r)) (sym q) (record { place = omega arith; number = omega arith })) (sought-none (opcode f) (length f) y e)
    by false (Ok i) e =
        let g : Found (opcode f) (length f) i = sought-row (opcode f) (length f) i e in
        judged-told (suc i) (get_or rows i []) f (omega (arith, g.has.1, (row_laid i g.row).most))

pub decode-place : (f : List ℕ) → place_in (decode f) ≤ 12
decode-place f = (decode-told f).place

-- the decoder refuses by 1 to 5
pub decode-own : (f : List ℕ) (x : Refusal) → decode f ≡ decoder.refuses x → number_of x ≤ 5
decode-own f x e = subst (λ (y : Reading). number_in y ≤ 5) e (decode-told f).number

-- ---- the builders

-- where the first argument stands that fails
abbrev place_at : Option ℕ → ℕ
place_at None = 0
place_at (Some n) = n

misfit-most : (ok : ℕ → ℕ → Bool) (n : ℕ) (cs vs : List ℕ) → place_at (first_misfit ok n cs vs) ≤ n + length cs
unfolding first_misfit
misfit-most ok n [] [] = omega arith
misfit-most ok n [] (v ∷ vs) = omega arith
misfit-most ok n (c ∷ cs) [] = omega arith
misfit-most ok n (c ∷ cs) (v ∷ vs) = by (ok c v) (misfit-most ok (suc n) cs vs)
  where
    by : (b : Bool) → place_at (first_misfit ok (suc n) cs vs) ≤ suc n + length cs → place_at (cond b (first_misfit ok (suc n) cs vs) (Some n)) ≤ n + suc (length cs)
    by true h = omega arith
    by false h = omega arith

abbrev pub place_out : Making → ℕ
place_out (makes f) = 0
place_out (builder.refuses x) = place_of x

abbrev pub made_long : Making → ℕ
made_long (makes f) = length f
made_long (builder.refuses x) = 0

pub record Within (m : Making) : Type 0 where
  pub place : place_out m ≤ 10
  pub long : made_long m ≤ 12

unless-within : (m : Option ℕ) (f : List ℕ) → place_at m ≤ 10 → length f ≤ 12 → Within (unless m f)
unfolding unless
unless-within None f h l = record { place = omega arith; long = l }
unless-within (Some n) f h l = record { place = h; long = omega arith }

few-numbers : (r : List ℕ) → length (numbers_of r) ≤ count_of r
few-numbers r = omega (arith, length-take (count_of r) (drop 4 r))

kind-low : (k : ℕ) → is_kind k ≡ true → k - 1 < kinds
kind-low k e = by (ltb 0 k) (leb k kinds) refl e
  where
    by : (a b : Bool) → leb k kinds ≡ b → (a && b) ≡ true → k - 1 < kinds
    by true true q z = omega (arith, leb-true k kinds q)
    by true false q z = absurd (subst T (sym z) tt)
    by false b q z = absurd (subst T (sym z) tt)

builds-within : (ok : ℕ → ℕ → Bool) (frame : List ℕ → List ℕ → List ℕ) (k : ℕ) (vs : List ℕ) → (k - 1 < kinds → length (frame (row_of k) vs) ≡ len_of (row_of k))
    → Within (builds ok frame k vs)
unfolding builds
builds-within ok frame k vs long = by (is_kind k) refl
  where
    by : (b : Bool) → is_kind k ≡ b → Within (cond b (unless (first_misfit ok 1 (numbers_of (row_of k)) vs) (frame (row_of k) vs)) (builder.refuses NotAKind))
    by true e =
        let l : k - 1 < kinds = kind-low k e in
        let z = row_laid (k - 1) l in
        unless-within _ _ (omega (arith, misfit-most ok 1 (numbers_of (row_of k)) vs, few-numbers (row_of k), z.few)) (omega (arith, long l, z.most))
    by false e = record { place = omega arith; long = omega arith }

pub checked-within : (k : ℕ) (vs : List ℕ) → Within (checked k vs)
checked-within k vs = builds-within allows frame_of k vs (λ l. length-tab (len_of (row_of k)) (byte_of (fields_of (row_of k)) (op_of (row_of k) ∷ vs)))

pub plain-within : (k : ℕ) (vs : List ℕ) → Within (plain_by k vs)
plain-within k vs =
    builds-within accepts plain_row k vs
    (λ l. ap length (plain-is (k - 1) l vs) ∙ length-tab (len_of (row_of k)) (byte_of (plains_of (op_number ∷ numbers_of (row_of k))) (op_of (row_of k) ∷ vs)))
