-- The head of a row: what the code wants of it beside its fields, in one number, so that one match hands it out. Contracts between our own
-- crates cite it; what is promised to others speaks of the rows. Assumes nothing.
use Rattle.std.specs.Prelude.{ℕ, suc, ◌+◌, ◌-◌, ◌*◌, min, cond, List, [], eqb, get_or}
use Rattle.table.specs.Table.{kinds, rows, op_of, len_of, slot_of, count_of}

-- the length of a row where it has the opcode, and else none
abbrev pub length_for : ℕ → List ℕ → ℕ
length_for op r = cond (eqb (op_of r) op) (len_of r) 0

-- the head of the row r at place i, before the row n: place, slot, number of fields, length, the length of n where it has the same opcode
abbrev pub head_of : ℕ → List ℕ → List ℕ → ℕ
head_of i r n = i * 1048576 + slot_of r * 4096 + count_of r * 256 + len_of r * 16 + length_for (op_of r) n

abbrev pub head_for : ℕ → ℕ
head_for k = head_of k (get_or rows k []) (get_or rows (suc k) [])

-- the head of the row at a place, and that of the last one past the end
unfoldable pub head_at : ℕ → ℕ
head_at i = head_for (min i (kinds - 1))
