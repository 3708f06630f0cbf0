-- How long a sync word can be: the field has 64 bits, so at most 64 of them can be meant. The limit of kind 20's nb_bits, in bytes and in numbers.
--     sync-word-decoded    11 bytes that begin with 02 44 decode, to kind 20, exactly if their nb_bits is at most 64, and else get 5 at byte 10
--     sync-word-most       whatever decodes to kind 20 has an nb_bits of at most 64
--     sync-word-checked    beside a good sync word and order the checked builder takes an nb_bits exactly if it is at most 64, and else gives
--                          6 at argument 3
--     sync-word-plain      the plain builder by number takes every nb_bits
--     sync-word-masked     and a plain frame has in byte 10 the order and the low seven bits of nb_bits, whatever that is
-- Assumes nothing.
use mathlib.Core.Path.{◌≡◌, refl, sym, ap, ap₂, ◌∙◌}
use mathlib.Core.Bool.{Bool, true, false, cond, ◌&&◌}
use mathlib.Core.List.{List, [], ◌∷◌}
use Prim.Native.Nat.{ℕ, ◌+◌, ◌-◌, ◌*◌, ◌/◌, ◌%◌, ◌^◌, ◌≤◌, ◌<◌, min}
use native.Mathlib.Nat.{mod-eq_of_lt}
use native.Mathlib.Omega.{arith}
use borrow.Author.Tests.{leb-true, lt-ltb, le-ltb, ltb-false}
use lib.Bits.{bit_and, bit_or, and_mask, or_shifted, or_zero_l, or_zero_r}
use lib.Dec.{T, eqb, leb, ltb, eqb→eq, lt→ltb}
use lib.ListN.{length, get_or}
use Rattle.frame.specs.Field.{mask, part, read, read_to}
use Rattle.frame.specs.Layout.{bytes, byte_of, mask_of, reads}
use Rattle.frame.proofs.Fields.{and_in, get_d-tab}
use Rattle.table.specs.Number.{bit, bits, wide, code, up_to, narrow_of, narrows_of, plain_of, plains_of}
use Rattle.table.specs.Codes.{takes}
use Rattle.table.specs.Table.{rows, op_of, numbers_of, op_number, row_of, plain}
use Rattle.table.specs.Narrowed.{fields_of, frame_of, opcode, arguments_in}
use Rattle.table.specs.Laid.{find}
use Rattle.table.proofs.Below.{below, below_at}
use Rattle.table.proofs.Rows.{row_laid, row-found, plain-is}
use Rattle.refusal.specs.declared.Refusal.TheVariants.{UnknownCode, ArgumentOutside}
use Rattle.codes.specs.Allowed.{allows}
use Rattle.decoder.specs.Decoding as decoder
use Rattle.decoder.specs.Decoding.{reading, stray_at, lacking, lacking_at, judged, decode}
use Rattle.decoder.proofs.Apart.{refuses-reading}
use Rattle.decoder.proofs.Stray.{stray-clean}
use Rattle.std.specs.Prelude.{Option, Some, None}
use Rattle.builder.specs.Building as builder
use Rattle.builder.specs.Building.{makes, first_misfit, unless, builds, checked, plain_by}
use Rattle.builder.proofs.Taking.{plain-takes}
use Rattle.codec.proofs.Fitting.{row-opcode}
use Rattle.codec.proofs.Accepted.{Inside, inside, Read, decode-read, opcode-back, decode-found}
use Rattle.codec.proofs.Laws.{plain-checked, decode-kind}

-- ---- a frame

-- 11 bytes that begin with 02 44
pub record SyncWordFrame (f : List ℕ) : Type 0 where
  pub first : get_or f 0 0 ≡ 0x02
  pub second : get_or f 1 0 ≡ 0x44
  pub long : length f ≡ 11
  pub byte : (i : ℕ) → get_or f i 0 < 256

-- its arguments: bytes 2 to 9, high byte first; the high bit of byte 10; the low seven bits of byte 10
abbrev pub syncword_in : List ℕ → ℕ
syncword_in f = read (narrow_of (wide 2 9)) (bytes f)

abbrev pub bit_order_in : List ℕ → ℕ
bit_order_in f = get_or f 10 0 / 128

abbrev pub nb_bits_in : List ℕ → ℕ
nb_bits_in f = get_or f 10 0 % 128

abbrev pub arguments_of : List ℕ → List ℕ
arguments_of f = syncword_in f ∷ bit_order_in f ∷ nb_bits_in f ∷ []

-- every bit of the frame is some argument's
all_held : T (below (λ j. eqb (mask_of (fields_of (row_of 20)) j) 255) 11)
unfolding below mask_of mask narrows_of narrow_of
all_held = tt

module _ (f : List ℕ) (op : opcode f ≡ 0x0244) (long : length f ≡ 11) (byte : (i : ℕ) → get_or f i 0 < 256) where
  clean : stray_at (row_of 20) f ≡ length f
  clean =
      stray-clean (mask_of (fields_of (row_of 20))) f
      (λ j l. let h : j < 11 = omega (arith, long) in
      ap (bit_and (get_or f j 0)) (eqb→eq _ _ (below_at (λ (i : ℕ). eqb (mask_of (fields_of (row_of 20)) i) 255) 11 j all_held h))
      ∙ and_mask (get_or f j 0) 8 ∙ mod-eq_of_lt (byte j))

  order : read (narrow_of (code (bit 10 7))) (bytes f) ≡ bit_order_in f
  unfolding read read_to narrow_of
  order = omega (arith, byte 10)

  bits_in : read (narrow_of (up_to 64 (bits 10 6 0))) (bytes f) ≡ nb_bits_in f
  unfolding read read_to narrow_of
  bits_in = omega arith

  arguments : arguments_in (row_of 20) f ≡ arguments_of f
  unfolding reads narrows_of
  arguments = ap₂ (λ (x y : ℕ). syncword_in f ∷ x ∷ y ∷ []) order bits_in

  lacks : lacking_at (row_of 20) f ≡ cond (leb (nb_bits_in f) 64) (length f) (min 10 (length f))
  unfolding lacking takes narrow_of
  lacks = ap (lacking (length f) (numbers_of (row_of 20))) arguments

  judged-is : judged 20 (row_of 20) f ≡ cond (leb (nb_bits_in f) 64) (reading 20 (arguments_of f)) (decoder.refuses (UnknownCode 10))
  unfolding judged
  judged-is = by (leb (nb_bits_in f) 64) refl
    where
      none : ltb (length f) (length f) ≡ false
      none = le-ltb (length f) (length f) (omega arith)

      by : (t : Bool) → leb (nb_bits_in f) 64 ≡ t → judged 20 (row_of 20) f ≡ cond t (reading 20 (arguments_of f)) (decoder.refuses (UnknownCode 10))
      by true e =
          let z : lacking_at (row_of 20) f ≡ length f = lacks ∙ ap (λ (t : Bool). cond t (length f) (min 10 (length f))) e in
          simp (clean, z, none) (ap (reading 20) arguments)
      by false e =
          let ten : min 10 (length f) ≡ 10 = omega (arith, long) in
          let z : lacking_at (row_of 20) f ≡ 10 = lacks ∙ ap (λ (t : Bool). cond t (length f) (min 10 (length f))) e ∙ ten in
          simp (clean, none, z, lt-ltb 10 (length f) (omega (arith, long)))

  by-opcode : decode f ≡ cond (leb (nb_bits_in f) 64) (reading 20 (arguments_of f)) (decoder.refuses (UnknownCode 10))
  by-opcode = decode-found f 19 (omega (arith, long)) (ap₂ (find rows) op long ∙ row-found 19 (omega arith)) (omega arith) ∙ judged-is

pub sync-word-decoded : (f : List ℕ) → SyncWordFrame f
    → decode f ≡ cond (leb (nb_bits_in f) 64) (reading 20 (arguments_of f)) (decoder.refuses (UnknownCode 10))
unfolding read read_to narrow_of
sync-word-decoded f h = by-opcode f (omega (arith, h.first, h.second)) h.long h.byte

-- a frame that decodes has the opcode of its row
decode-opcode : (f : List ℕ) (k : ℕ) (vs : List ℕ) → decode f ≡ reading k vs → opcode f ≡ op_of (row_of k)
decode-opcode f k vs e =
    let d : Read f k vs = decode-read f k vs e in
    let r : List ℕ = get_or rows d.at [] in
    let n : Inside (numbers_of r) vs = inside 1 (numbers_of r) vs d.none in
    let q : d.at ≡ k - 1 = omega (arith, d.kind) in
    ap opcode (sym d.gives) ∙ opcode-back r vs (row_laid d.at d.row).apart-narrowed (row-opcode d.at d.row) n
    ∙ ap (λ (i : ℕ). op_of (get_or rows i [])) q

pub sync-word-most : (f vs : List ℕ) → ((i : ℕ) → get_or f i 0 < 256) → decode f ≡ reading 20 vs → nb_bits_in f ≤ 64
sync-word-most f vs byte e = by (leb (nb_bits_in f) 64) refl (sym (by-opcode f (decode-opcode f 20 vs e) (decode-kind f 20 vs e).2 byte) ∙ e)
  where
    by : (t : Bool) → leb (nb_bits_in f) 64 ≡ t → cond t (reading 20 (arguments_of f)) (decoder.refuses (UnknownCode 10)) ≡ reading 20 vs → nb_bits_in f ≤ 64
    by true p z = leb-true (nb_bits_in f) 64 p
    by false p z = absurd (refuses-reading z)

-- ---- the builders

module _ (syncword order nb : ℕ) (yes : order < 2) where
  abbrev vs : List ℕ
  vs = syncword ∷ order ∷ nb ∷ []

  in-range : (ltb nb 128 && leb nb 64) ≡ leb nb 64
  in-range = by (ltb nb 128) refl (leb nb 64) refl
    where
      by : (a : Bool) → ltb nb 128 ≡ a → (b : Bool) → leb nb 64 ≡ b → (a && b) ≡ b
      by true p b q = refl
      by false p true q = absurd (omega (arith, ltb-false nb 128 p, leb-true nb 64 q))
      by false p false q = refl

  misfit : syncword < 2 ^ 64 → first_misfit allows 1 (numbers_of (row_of 20)) vs ≡ cond (leb nb 64) None (Some 3)
  unfolding first_misfit takes narrow_of
  misfit wide = simp (lt-ltb syncword (2 ^ 64) wide, lt-ltb order 2 yes, in-range)

  pub sync-word-checked : syncword < 2 ^ 64 → checked 20 vs ≡ cond (leb nb 64) (makes (plain 20 vs)) (builder.refuses (ArgumentOutside 3))
  unfolding builds unless
  sync-word-checked wide = by (leb nb 64) refl
    where
      made : (m : Option ℕ) → first_misfit allows 1 (numbers_of (row_of 20)) vs ≡ m → checked 20 vs ≡ unless m (frame_of (row_of 20) vs)
      made m e = ap (λ (x : Option ℕ). unless x (frame_of (row_of 20) vs)) e

      by : (t : Bool) → leb nb 64 ≡ t → checked 20 vs ≡ cond t (makes (plain 20 vs)) (builder.refuses (ArgumentOutside 3))
      by true e =
          let c : checked 20 vs ≡ makes (frame_of (row_of 20) vs) = made None (misfit wide ∙ ap (λ (t : Bool). cond t None (Some 3)) e) in
          c ∙ ap makes (sym (plain-checked 20 vs (frame_of (row_of 20) vs) c))
      by false e = made (Some 3) (misfit wide ∙ ap (λ (t : Bool). cond t None (Some 3)) e)

  pub sync-word-plain : plain_by 20 vs ≡ makes (plain 20 vs)
  unfolding takes plain_of
  sync-word-plain = plain-takes 20 vs tt (tt, (and_in (ltb order 2) true (lt→ltb order 2 yes) tt, (tt, tt)))

  pub sync-word-masked : get_or (plain 20 vs) 10 0 ≡ order * 128 + nb % 128
  unfolding byte_of part plain_of
  sync-word-masked =
      ap (λ (f : List ℕ). get_or f 10 0) (plain-is 19 (omega arith) vs)
      ∙ get_d-tab 11 (byte_of (plains_of (op_number ∷ numbers_of (row_of 20))) (0x0244 ∷ vs)) 10 (omega arith) ∙ joined
    where
      order_is : order / 1 % 2 * 128 ≡ order * 128
      order_is = omega arith

      nb-is : nb / 1 % 128 * 1 ≡ nb % 128
      nb-is = omega arith

      small : nb % 128 < 2 ^ 7
      small = omega arith

      -- the opcode and the sync word have no bit of byte 10
      joined : byte_of (plains_of (op_number ∷ numbers_of (row_of 20))) (0x0244 ∷ vs) 10 ≡ order * 128 + nb % 128
      joined =
          or_zero_l _ ∙ or_zero_l _ ∙ ap₂ bit_or order_is (or_zero_r _ ∙ nb-is) ∙ or_shifted order 7 (nb % 128) small
