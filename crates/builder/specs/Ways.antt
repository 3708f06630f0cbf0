-- The two builders as one piece of code has them, by the test of their arguments, their fields and the frame that these give. Only contracts of
-- private functions cite these: what a builder answers is in Building.antt. Assumes nothing.
use Rattle.std.specs.Prelude.{ℕ, Bool, List, [], ◌∷◌, ◌≡◌, ◌<◌, get_or, T}
use Rattle.frame.specs.declared.Field.{Field}
use Rattle.frame.specs.Layout.{tab, byte_of, sound_all}
use Rattle.table.specs.Table.{kinds, rows, op_of, len_of, numbers_of, op_number}
use Rattle.builder.specs.Building.{Making, first_misfit, unless}

unfoldable pub fields_by : (ℕ → Field) → List ℕ → List Field
fields_by field [] = []
fields_by field (c ∷ cs) = field c ∷ fields_by field cs

-- the fields of a row; the opcode's is the first of them
abbrev pub row_by : (ℕ → Field) → List ℕ → List Field
row_by field r = fields_by field (op_number ∷ numbers_of r)

-- a row's fields lie in its frame, and give the frame
pub record Gives (field : ℕ → Field) (frame : List ℕ → List ℕ → List ℕ) : Type 0 where
  pub inside : (i : ℕ) → i < kinds → T (sound_all (len_of (get_or rows i [])) (row_by field (get_or rows i [])))
  pub gives : (i : ℕ) → i < kinds → (vs : List ℕ)
      → tab (len_of (get_or rows i [])) (byte_of (row_by field (get_or rows i [])) (op_of (get_or rows i []) ∷ vs)) ≡ frame (get_or rows i []) vs

-- what the row at a place makes of the arguments
abbrev pub made_at : (ℕ → ℕ → Bool) → (List ℕ → List ℕ → List ℕ) → ℕ → List ℕ → Making
made_at takes frame i vs = unless (first_misfit takes 1 (numbers_of (get_or rows i [])) vs) (frame (get_or rows i []) vs)
