-- What the decoder answers: a frame's kind with its arguments, or the refusal with its place (REFERENCE, "Decoder", "Refusals").
-- Assumes nothing.
use Rattle.std.specs.Prelude.{ℕ, suc, ◌-◌, min, Bool, true, false, cond, List, [], ◌∷◌, ◌++◌, eqb, ltb, get_or, replicate, length, Result, Ok, Err}
use Rattle.std.specs.Int.Bits.{bit_and}
use Rattle.frame.specs.Layout.{tab, mask_of}
use Rattle.table.specs.Number.{narrow_of, codes_of}
use Rattle.table.specs.Codes.{takes}
use Rattle.table.specs.Table.{kinds, rows, op_of, numbers_of}
use Rattle.table.specs.Laid.{find}
use Rattle.refusal.specs.declared.Refusal.{Refusal}
use Rattle.refusal.specs.declared.Refusal.TheVariants.{ShortFrame, UnknownOpcode, WrongLength, StrayBit, UnknownCode}
use Rattle.table.specs.Narrowed.{fields_of, opcode, arguments_in}
use Rattle.decoder.specs.declared.Decoded.{Decoded}

pub data Reading : Type 0 where
  reading : ℕ → List ℕ → Reading
  refuses : Refusal → Reading

-- ---- the two places

-- the lowest byte of the frame with a bit that its mask lacks, or the number of bytes
unfoldable pub stray : List ℕ → List ℕ → ℕ
stray ms [] = 0
stray [] (b ∷ bs) = 0
stray (m ∷ ms) (b ∷ bs) = cond (eqb (bit_and b m) b) (suc (stray ms bs)) 0

-- what a field that holds v makes of the lowest byte so far: its first byte, where it does not take v
abbrev pub lower : ℕ → ℕ → ℕ → ℕ
lower c v low = cond (takes (codes_of c) v) low (min (narrow_of c).first low)

-- the lowest byte, below n, at which a field starts that does not take what it holds, or n
unfoldable pub lacking : ℕ → List ℕ → List ℕ → ℕ
lacking n [] vs = n
lacking n (c ∷ cs) [] = n
lacking n (c ∷ cs) (v ∷ vs) = lower c v (lacking n cs vs)

-- ---- the answer

-- the lowest byte with a bit that no field of the row holds
abbrev pub stray_at : List ℕ → List ℕ → ℕ
stray_at r f = stray (tab (length f) (mask_of (fields_of r))) f

-- the lowest byte of a field that does not take what it holds
abbrev pub lacking_at : List ℕ → List ℕ → ℕ
lacking_at r f = lacking (length f) (numbers_of r) (arguments_in r f)

-- the refusal with the place p, where p lies in the frame, and else the rest
abbrev pub refused_at : (ℕ → Refusal) → ℕ → List ℕ → Reading → Reading
refused_at why p f rest = cond (ltb p (length f)) (refuses (why p)) rest

-- a frame with the opcode and the length of the row r; a stray bit anywhere is told before any field that does not take what it holds
unfoldable pub judged : ℕ → List ℕ → List ℕ → Reading
judged kind r f = refused_at StrayBit (stray_at r f) f (refused_at UnknownCode (lacking_at r f) f (reading kind (arguments_in r f)))

-- whether any row has the opcode
unfoldable pub known : List (List ℕ) → ℕ → Bool
known [] op = false
known (r ∷ rs) op = cond (eqb (op_of r) op) true (known rs op)

-- the row that has the opcode and the length, and else whether any row has the opcode (REFERENCE, "Decoder")
unfoldable pub sought : ℕ → ℕ → Result ℕ Refusal
sought op len =
    cond (ltb (find rows op len) kinds) (Ok (find rows op len)) (cond (known rows op) (Err WrongLength) (Err UnknownOpcode))

-- what a frame says for which such a row was sought
unfoldable pub answered : List ℕ → Result ℕ Refusal → Reading
answered f (Ok i) = judged (suc i) (get_or rows i []) f
answered f (Err x) = refuses x

-- a frame is known by opcode and length together; one of under two bytes has no opcode (REFERENCE, "Decoder", "Refusals")
unfoldable pub decode : List ℕ → Reading
decode f = cond (ltb (length f) 2) (refuses ShortFrame) (answered f (sought (opcode f) (length f)))

-- ---- as the code hands it over: nine arguments, those that the kind does not have 0

unfoldable pub decoded : Reading → Result Decoded Refusal
decoded (reading k vs) = Ok (record { kind = k; count = length vs; args = vs ++ replicate (9 - length vs) 0 })
decoded (refuses x) = Err x
