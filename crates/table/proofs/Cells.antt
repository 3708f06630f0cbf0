-- A row of 13 numbers and its cells one by one, as loops over them go. Assumes nothing.
use mathlib.Core.Path.{◌≡◌, refl, ap, ◌∙◌}
use mathlib.Core.List.{List, [], ◌∷◌}
use Prim.Native.Nat.{ℕ, suc, ◌+◌, ◌≤◌, ◌<◌}
use native.Mathlib.Omega.{arith}
use lib.ListN.{length, get_or, take, drop, length-take, length-drop, drop_of_length-le}
use lib.Seq.{drop-cons, get_or-take, get_or-drop}
use Rattle.table.specs.Number.{narrows_of}
use Rattle.table.specs.Table.{count_of, numbers_of}

pub dropped : (l : List ℕ) (n j : ℕ) → j < n → n ≤ length l → drop j (take n l) ≡ get_or l j 0 ∷ drop (suc j) (take n l)
dropped l n j h le =
    drop-cons (take n l) j 0 (omega (arith, length-take n l)) ∙ ap (λ (x : ℕ). x ∷ drop (suc j) (take n l)) (get_or-take n l j 0 h)

pub length-narrows : (cs : List ℕ) → length (narrows_of cs) ≡ length cs
unfolding narrows_of
length-narrows [] = refl
length-narrows (c ∷ cs) = ap suc (length-narrows cs)

module _ (row : List ℕ) (whole : length row ≡ 13) (few : count_of row ≤ 9) where
  pub length-numbers : length (numbers_of row) ≡ count_of row
  length-numbers = omega (arith, length-take (count_of row) (drop 4 row), length-drop 4 row)

  -- the numbers from the j-th on
  pub numbers_more : (j : ℕ) → j < count_of row → drop j (numbers_of row) ≡ get_or row (4 + j) 0 ∷ drop (suc j) (numbers_of row)
  numbers_more j h =
      dropped (drop 4 row) (count_of row) j h (omega (arith, length-drop 4 row))
      ∙ ap (λ (c : ℕ). c ∷ drop (suc j) (numbers_of row)) (get_or-drop 4 row j 0)

  pub numbers-past : (j : ℕ) → count_of row ≤ j → drop j (numbers_of row) ≡ []
  numbers-past j h = let q : length (numbers_of row) ≤ j = omega (arith, length-numbers) in drop_of_length-le (numbers_of row) q
