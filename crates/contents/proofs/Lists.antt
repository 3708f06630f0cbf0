-- A list of frames in two parts: its bytes (`flat-split`), what is held (`held_after`, `held-before`), and a frame between the two (`sound-middle`,
-- `within-middle`).
-- Assumes nothing.
use mathlib.Core.Path.{ap, refl, sym, ◌∙◌, ◌≡◌}
use mathlib.Core.Bool.{Bool, cond, false, false≢true, true}
use mathlib.Core.List.{List, [], append_assoc, append-nil, ◌++◌, ◌∷◌}
use Prim.Native.Nat.{ℕ, ◌+◌, ◌<◌}
use borrow.Author.Tests.{eq-eqb, eqb-true}
use lib.Dec.{eqb}
use lib.ListN.{length, length-append}
use Rattle.table.specs.Table.{settings}
use Rattle.settings.specs.Settings.{slot_of}
use Rattle.contents.specs.Frames.{flat, held}
use Rattle.contents.proofs.Shape.{Sound, Within}

pub flat-split : (xs ys : List (List ℕ)) → flat (xs ++ ys) ≡ flat xs ++ flat ys
unfolding flat
flat-split [] ys = refl
flat-split (x ∷ xs) ys = ap (λ (r : List ℕ). x ++ r) (flat-split xs ys) ∙ sym (append_assoc x (flat xs) (flat ys))

pub flat_append : (fs : List (List ℕ)) (f : List ℕ) → flat (fs ++ (f ∷ [])) ≡ flat fs ++ f
unfolding flat
flat_append fs f = flat-split fs (f ∷ []) ∙ ap (λ (r : List ℕ). flat fs ++ r) (append-nil f)

pub length-one : (fs : List (List ℕ)) (f : List ℕ) → length (fs ++ (f ∷ [])) ≡ length fs + 1
length-one fs f = length-append fs (f ∷ [])

pub held_after : (j : ℕ) (xs ys : List (List ℕ)) → held j ys ≡ true → held j (xs ++ ys) ≡ true
unfolding held
held_after j [] ys h = h
held_after j (x ∷ xs) ys h = go (held_after j xs ys h) (eqb (slot_of x) j)
  where
    go : held j (xs ++ ys) ≡ true → (t : Bool) → cond t true (held j (xs ++ ys)) ≡ true
    go ih true = refl
    go ih false = ih

pub held-before : (j : ℕ) (xs ys : List (List ℕ)) → held j xs ≡ true → held j (xs ++ ys) ≡ true
unfolding held
held-before j [] ys h = absurd (false≢true h)
held-before j (x ∷ xs) ys h = go (held-before j xs ys) (eqb (slot_of x) j) h
  where
    go : (held j xs ≡ true → held j (xs ++ ys) ≡ true) → (t : Bool) → cond t true (held j xs) ≡ true → cond t true (held j (xs ++ ys)) ≡ true
    go ih true q = refl
    go ih false q = ih q

pub held-here : (f : List ℕ) (fs : List (List ℕ)) → held (slot_of f) (f ∷ fs) ≡ true
unfolding held
held-here f fs = rw (eq-eqb (slot_of f) (slot_of f) refl)

pub sound-middle : (xs : List (List ℕ)) (f : List ℕ) (ys : List (List ℕ)) → Sound (xs ++ (f ∷ ys)) → (slot_of f < settings) × (held (slot_of f) xs ≡ false)
unfolding held
sound-middle [] f ys s = (s.0, refl)
sound-middle (x ∷ xs) f ys s = go (sound-middle xs f ys s.2) (eqb (slot_of x) (slot_of f)) refl
  where
    go : (slot_of f < settings) × (held (slot_of f) xs ≡ false) → (t : Bool) → eqb (slot_of x) (slot_of f) ≡ t
        → (slot_of f < settings) × (cond t true (held (slot_of f) xs) ≡ false)
    go ih false e = ih
    go ih true e =
        absurd (false≢true (sym s.1 ∙ ap (λ (j : ℕ). held j (xs ++ (f ∷ ys))) (eqb-true _ _ e) ∙ held_after (slot_of f) xs (f ∷ ys) (held-here f ys)))

pub within-middle : (m : ℕ) (xs : List (List ℕ)) (f : List ℕ) (ys : List (List ℕ)) → Within m (xs ++ (f ∷ ys)) → slot_of f < m
within-middle m [] f ys w = w.0
within-middle m (x ∷ xs) f ys w = within-middle m xs f ys w.1
