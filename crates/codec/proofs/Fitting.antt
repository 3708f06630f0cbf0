-- What the laws ask of the rows beside the table's own test: the opcode fits its field, each field starts inside the frame, and a narrowed
-- field has no bits or as many bytes as the plain one. One test, computed over all rows. Assumes nothing.
use mathlib.Core.Bool.{Bool, true, cond, ◌&&◌}
use mathlib.Core.List.{List, [], ◌∷◌}
use Prim.Native.Nat.{ℕ, ◌<◌}
use lib.Dec.{T, eqb, ltb, ltb→lt}
use lib.ListN.{get_or}
use Rattle.frame.specs.Field.{size}
use Rattle.frame.proofs.Fields.{both_left, both_right}
use Rattle.table.specs.Number.{narrow_of, plain_of}
use Rattle.table.proofs.Below.{below, below_at}
use Rattle.table.specs.Table.{kinds, rows, op_of, len_of, numbers_of}

-- the field of the number c starts below n
unfoldable pub starts : ℕ → ℕ → Bool
starts n c = ltb (narrow_of c).first n

unfoldable pub narrows : ℕ → Bool
narrows c = cond (eqb (narrow_of c).w 0) true (eqb (size (narrow_of c)) (size (plain_of c)))

unfoldable pub all_fit : ℕ → List ℕ → Bool
all_fit n [] = true
all_fit n (c ∷ cs) = (starts n c && narrows c) && all_fit n cs

fits : List ℕ → Bool
fits r = ltb (op_of r) 65536 && all_fit (len_of r) (numbers_of r)

right : T (below (λ k. fits (get_or rows k [])) kinds)
unfolding below fits all_fit starts narrows narrow_of plain_of
right = tt

module _ (k : ℕ) (h : k < kinds) where
  t : T (fits (get_or rows k []))
  t = below_at (λ (i : ℕ). fits (get_or rows i [])) kinds k right h

  pub row-opcode : op_of (get_or rows k []) < 65536
  unfolding fits
  row-opcode = ltb→lt _ _ (both_left (ltb (op_of (get_or rows k [])) 65536) (all_fit (len_of (get_or rows k [])) (numbers_of (get_or rows k []))) t)

  pub row_fits : T (all_fit (len_of (get_or rows k [])) (numbers_of (get_or rows k [])))
  unfolding fits
  row_fits = both_right (ltb (op_of (get_or rows k [])) 65536) (all_fit (len_of (get_or rows k [])) (numbers_of (get_or rows k []))) t
