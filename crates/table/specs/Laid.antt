-- What every row of the table keeps to, as tests that are computed over all of them, and the search for a row.
-- Assumes nothing.
use Rattle.std.specs.Prelude.{ℕ, suc, Bool, cond, ◌&&◌, List, [], ◌∷◌, eqb, leb}
use Rattle.frame.specs.Layout.{sound_all, layout}
use Rattle.table.specs.Number.{narrows_of, plains_of}
use Rattle.table.specs.Table.{action, settings, rows, op_of, len_of, slot_of, count_of, numbers_of, op_number}

-- a frame of 2 to 12 bytes and at most nine fields; all of them lie inside the frame, and the narrowed ones share no bit
unfoldable pub laid : List ℕ → Bool
laid r =
    ((leb 2 (len_of r) && leb (len_of r) 12) && leb (count_of r) 9)
    && (sound_all (len_of r) (plains_of (op_number ∷ numbers_of r)) && layout (len_of r) (narrows_of (op_number ∷ numbers_of r)))

-- the settings of these rows have the slots from n on, in the order of their kinds, and there are as many as there are to be (REFERENCE, "Book")
unfoldable pub slots_from : ℕ → List (List ℕ) → Bool
slots_from n [] = eqb n settings
slots_from n (r ∷ rs) = cond (eqb (slot_of r) action) (slots_from n rs) (eqb (slot_of r) n && slots_from (suc n) rs)

-- the place of the first row that has opcode and length, or the number of rows (REFERENCE, "Decoder")
unfoldable pub find : List (List ℕ) → ℕ → ℕ → ℕ
find [] op len = 0
find (r ∷ rs) op len = cond (eqb (op_of r) op && eqb (len_of r) len) 0 (suc (find rs op len))

-- a row is the one that is found for its opcode and length
unfoldable pub found : ℕ → List ℕ → Bool
found i r = eqb (find rows (op_of r) (len_of r)) i
