-- A row of the table as the decoder and the checked builder have it, with the narrowed fields, which share no bit
-- (REFERENCE, "Checked builder", "Decoder"). Assumes nothing.
use Rattle.std.specs.Prelude.{ℕ, ◌≤◌, List, ◌∷◌, T}
use Rattle.frame.specs.declared.Field.{Field}
use Rattle.frame.specs.Field.{read}
use Rattle.frame.specs.Layout.{bytes, tab, byte_of, reads, sound_all}
use Rattle.table.specs.Number.{narrow_of, narrows_of}
use Rattle.table.specs.Table.{op_of, len_of, count_of, numbers_of, op_number}

-- the row's fields; the opcode is the first of them
abbrev pub fields_of : List ℕ → List Field
fields_of r = narrows_of (op_number ∷ numbers_of r)

-- the frame that the arguments vs give
abbrev pub frame_of : List ℕ → List ℕ → List ℕ
frame_of r vs = tab (len_of r) (byte_of (fields_of r) (op_of r ∷ vs))

-- the opcode, which is bytes 0 and 1
abbrev pub opcode : List ℕ → ℕ
opcode f = read (narrow_of op_number) (bytes f)

-- the arguments that the frame f holds, in the order of the row
abbrev pub arguments_in : List ℕ → List ℕ → List ℕ
arguments_in r f = reads (narrows_of (numbers_of r)) (bytes f)

-- a row that the code can follow, as every row of the table is
pub record Ready (r : List ℕ) : Type 0 where
  pub few : count_of r ≤ 9
  pub most : len_of r ≤ 12
  pub inside : T (sound_all (len_of r) (fields_of r))
