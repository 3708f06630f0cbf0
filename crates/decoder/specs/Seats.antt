-- The seat of an opcode: the head of the first row that has it, by which the code goes to the row. Only contracts of private functions cite
-- these: what is sought is in Decoding.antt. Assumes nothing.
use Rattle.std.specs.Prelude.{ℕ, suc, cond, List, [], ◌∷◌, eqb, get_or}
use Rattle.table.specs.Table.{rows, op_of}
use Rattle.table.specs.Heads.{head_of}

-- the seat among these rows, of which the first stands at i; 0 has no length
unfoldable pub seat_from : ℕ → List (List ℕ) → ℕ → ℕ
seat_from i [] op = 0
seat_from i (r ∷ rs) op = cond (eqb (op_of r) op) (head_of i r (get_or rs 0 [])) (seat_from (suc i) rs op)

abbrev pub seat_of : ℕ → ℕ
seat_of op = seat_from 0 rows op
