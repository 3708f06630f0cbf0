-- What a test for the same bytes tells is what `same_bytes` says (`same-said`).
-- Assumes nothing.
use mathlib.Core.Path.{◌≡◌, refl, ap, sym, ◌∙◌}
use mathlib.Core.Bool.{Bool, true, false, ◌&&◌}
use mathlib.Core.List.{List, [], ◌∷◌}
use Prim.Native.Nat.{ℕ}
use borrow.Author.Tests.{eq-eqb, eqb-true}
use lib.Dec.{eqb}
use Rattle.arguments.specs.Words.{same_bytes}

same-itself : (xs : List ℕ) → same_bytes xs xs ≡ true
unfolding same_bytes
same-itself [] = refl
same-itself (x ∷ xs) = rw (eq-eqb x x refl, same-itself xs)

same-equal : (xs ys : List ℕ) → same_bytes xs ys ≡ true → xs ≡ ys
unfolding same_bytes
same-equal [] [] h = refl
same-equal [] (y ∷ ys) h = cc
same-equal (x ∷ xs) [] h = cc
same-equal (x ∷ xs) (y ∷ ys) h = go (eqb x y) refl h (same-equal xs ys)
  where
    go : (t : Bool) → eqb x y ≡ t → t && same_bytes xs ys ≡ true → (same_bytes xs ys ≡ true → xs ≡ ys) → x ∷ xs ≡ y ∷ ys
    go true e g rest = cc (eqb-true x y e, rest g)
    go false e g rest = cc

pub same-said : (xs ys : List ℕ) (t : Bool) → (t ≡ true → xs ≡ ys) × (xs ≡ ys → t ≡ true) → same_bytes xs ys ≡ t
same-said xs ys true h = ap (same_bytes xs) (sym (h.0 refl)) ∙ same-itself xs
same-said xs ys false h = go (same_bytes xs ys) refl
  where
    go : (t : Bool) → same_bytes xs ys ≡ t → t ≡ false
    go true e = sym (h.1 (same-equal xs ys e))
    go false e = refl
