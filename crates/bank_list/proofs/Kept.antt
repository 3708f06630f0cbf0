-- What is kept of a list of numbers when one more comes (`kept_more`), and that a zero stored among zeros changes nothing (`kept-zero`).
-- Assumes nothing.
use mathlib.Core.Path.{◌≡◌, refl, ap, sym, ◌∙◌}
use mathlib.Core.Bool.{Bool, cond, false, true}
use mathlib.Core.List.{List, [], ◌∷◌, ◌++◌}
use Prim.Native.Nat.{ℕ, zero, suc, ◌+◌, ◌<◌, ◌≤◌, min}
use native.Mathlib.Omega.{arith}
use borrow.Author.Tests.{ltb-false, ltb-true}
use lib.Dec.{ltb}
use lib.ListN.{get_or-replicate, length, length-append, replicate, set, take}
use lib.Seq.{set-get_or, take-append-le}
use Rattle.bank_list.specs.Banks.{kept, most_kept, stored_at}

zeros-more : (m j : ℕ) → m ≤ j → take {A = ℕ} m (replicate j 0) ≡ take m (replicate (suc j) 0)
zeros-more zero j h = refl
zeros-more (suc m) zero h = absurd (omega arith)
zeros-more (suc m) (suc j) h = ap (λ (l : List ℕ). 0 ∷ l) (zeros-more m j (omega arith))

-- a number more takes the place of the first zero
room-more : (m j : ℕ) (xs : List ℕ) (x : ℕ) → length xs < m → m ≤ length xs + j
    → set (take m (xs ++ replicate j 0)) (length xs) x ≡ take m ((xs ++ x ∷ []) ++ replicate j 0)
room-more zero j xs x h k = absurd (omega arith)
room-more (suc m) zero [] x h k = absurd (omega arith)
room-more (suc m) (suc j) [] x h k = ap (λ (l : List ℕ). x ∷ l) (zeros-more m j (omega arith))
room-more (suc m) j (y ∷ xs) x h k = ap (λ (l : List ℕ). y ∷ l) (room-more m j xs x (omega arith) (omega arith))

full-more : (m : ℕ) (xs zs : List ℕ) (x : ℕ) → m ≤ length xs → take m (xs ++ zs) ≡ take m ((xs ++ x ∷ []) ++ zs)
full-more m xs zs x h =
    take-append-le m xs zs h
    ∙ sym (take-append-le m xs (x ∷ []) h)
    ∙ sym (take-append-le m (xs ++ x ∷ []) zs (omega (arith, length-append xs (x ∷ []))))

pub kept_more : (xs : List ℕ) (x at : ℕ) → at ≡ min (length xs) most_kept → stored_at at x (kept xs) ≡ kept (xs ++ x ∷ [])
unfolding kept
kept_more xs x at e = go (ltb at most_kept) refl
  where
    go : (t : Bool) → ltb at most_kept ≡ t → cond t (set (kept xs) at x) (kept xs) ≡ kept (xs ++ x ∷ [])
    go true p =
        let below : at < most_kept = ltb-true at most_kept p in
        let here : at ≡ length xs = omega arith in
        ap (λ (i : ℕ). set (kept xs) i x) here ∙ room-more most_kept most_kept xs x (omega arith) (omega arith)
    go false p = let past : most_kept ≤ at = ltb-false at most_kept p in full-more most_kept xs (replicate most_kept 0) x (omega arith)

pub kept-zero : (at : ℕ) → stored_at at 0 (kept []) ≡ kept []
unfolding kept
kept-zero at = go (ltb at most_kept) refl
  where
    go : (t : Bool) → ltb at most_kept ≡ t → cond t (set (kept []) at 0) (kept []) ≡ kept []
    go true p =
        ap (set (replicate most_kept 0) at) (sym (get_or-replicate most_kept at 0 0 (ltb-true at most_kept p))) ∙ set-get_or (replicate most_kept 0) at 0
    go false p = refl
