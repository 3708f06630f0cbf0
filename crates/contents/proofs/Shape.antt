-- A plain list of frames: each is a setting's and no slot comes twice (`Sound`), each slot is one of the layout's (`Within`); what is held and
-- where it stands (`place-..`), and how many slots are held (`count-..`).
-- Assumes nothing.
use mathlib.Core.Path.{ap, ap₂, refl, subst, sym, ◌∙◌, ◌≡◌}
use mathlib.Core.Bool.{Bool, cond, false, false≢true, not, true}
use mathlib.Core.List.{List, [], ◌++◌, ◌∷◌}
use Prim.Native.Nat.{suc, zero, ℕ, ◌+◌, ◌<◌, ◌≤◌}
use native.Mathlib.Nat.{le_refl}
use native.Mathlib.Omega.{arith}
use borrow.Author.Tests.{eqb-false, eqb-true, ne_eqb}
use lib.Dec.{eqb}
use lib.ListN.{length, length-append}
use Rattle.table.specs.Table.{settings}
use Rattle.settings.specs.Settings.{size_of, slot_of}
use Rattle.settings.proofs.Settings.{slot_of-length}
use Rattle.contents.specs.Frames.{flat, held, place}
use Rattle.contents.specs.Contents.{offset_at, present_from}

abbrev pub Sound : List (List ℕ) → Type 0
Sound [] = Unit
Sound (f ∷ fs) = (slot_of f < settings) × (held (slot_of f) fs ≡ false) × Sound fs

-- each frame's slot is one of the m that a layout has
abbrev pub Within : ℕ → List (List ℕ) → Type 0
Within m [] = Unit
Within m (f ∷ fs) = (slot_of f < m) × Within m fs

-- a layout with a slot for each setting has one for each frame
pub sound-within : (m : ℕ) → settings ≤ m → (fs : List (List ℕ)) → Sound fs → Within m fs
sound-within m h [] s = tt
sound-within m h (f ∷ fs) s = (omega (arith, s.0), sound-within m h fs s.2)

-- ---- place and held

pub place-ge : (p : ℕ) (fs : List (List ℕ)) (k : ℕ) → held k fs ≡ true → p ≤ place p fs k
unfolding place held
place-ge p [] k h = absurd (false≢true h)
place-ge p (f ∷ fs) k h = go (place-ge (p + length f) fs k) (eqb (slot_of f) k) h
  where
    go : (held k fs ≡ true → p + length f ≤ place (p + length f) fs k) → (t : Bool) → cond t true (held k fs) ≡ true → p ≤ cond t p (place (p + length f) fs k)
    go ih true q = le_refl p
    go ih false q = omega (arith, ih q)

pub place_none : (p : ℕ) (fs : List (List ℕ)) (k : ℕ) → held k fs ≡ false → place p fs k ≡ 0
unfolding place held
place_none p [] k h = refl
place_none p (f ∷ fs) k h = go (place_none (p + length f) fs k) (eqb (slot_of f) k) h
  where
    go : (held k fs ≡ false → place (p + length f) fs k ≡ 0) → (t : Bool) → cond t true (held k fs) ≡ false → cond t p (place (p + length f) fs k) ≡ 0
    go ih true q = absurd (false≢true (sym q))
    go ih false q = ih q

pub place-shift : (d p : ℕ) (fs : List (List ℕ)) (k : ℕ) → held k fs ≡ true → place (p + d) fs k ≡ place p fs k + d
unfolding place held
place-shift d p [] k h = absurd (false≢true h)
place-shift d p (f ∷ fs) k h = go (place-shift d (p + length f) fs k) (eqb (slot_of f) k) h
  where
    swap : p + d + length f ≡ p + length f + d
    swap = omega arith

    go : (held k fs ≡ true → place (p + length f + d) fs k ≡ place (p + length f) fs k + d) → (t : Bool) → cond t true (held k fs) ≡ true
        → cond t (p + d) (place (p + d + length f) fs k) ≡ cond t p (place (p + length f) fs k) + d
    go ih true q = refl
    go ih false q = ap (λ (x : ℕ). place x fs k) swap ∙ ih q

pub place-from : (p : ℕ) (fs : List (List ℕ)) (k : ℕ) → held k fs ≡ true → place p fs k ≡ place 0 fs k + p
place-from p fs k h = ap (λ (x : ℕ). place x fs k) (z p) ∙ place-shift p 0 fs k h
  where
    z : (p : ℕ) → p ≡ 0 + p
    z p = omega arith

-- the end of what is held stays within the frames
pub place_in : (p : ℕ) (fs : List (List ℕ)) (k : ℕ) → Sound fs → held k fs ≡ true → place p fs k + (size_of k) ≤ p + length (flat fs)
unfolding place held flat
place_in p [] k s h = absurd (false≢true h)
place_in p (f ∷ fs) k s h = go (place_in (p + length f) fs k s.2) (eqb (slot_of f) k) refl h
  where
    len : length (f ++ flat fs) ≡ length f + length (flat fs)
    len = length-append f (flat fs)

    own : length f ≡ size_of (slot_of f)
    own = slot_of-length f s.0

    go : (held k fs ≡ true → place (p + length f) fs k + (size_of k) ≤ p + length f + length (flat fs)) → (t : Bool) → eqb (slot_of f) k ≡ t
        → cond t true (held k fs) ≡ true → cond t p (place (p + length f) fs k) + (size_of k) ≤ p + length (f ++ flat fs)
    go ih true e q = omega (arith, len, own, ap size_of (eqb-true (slot_of f) k e))
    go ih false e q = omega (arith, len, ih q)

-- ---- counting

-- the sum of g over l slots from k on
unfoldable pub sum_from : ℕ → (ℕ → ℕ) → ℕ → ℕ
sum_from zero g k = 0
sum_from (suc l) g k = g k + sum_from l g (k + 1)

-- of those that pass the test q
abbrev pub sum_of : ℕ → (ℕ → Bool) → (ℕ → ℕ) → ℕ → ℕ
sum_of l q w k = sum_from l (λ j. cond (q j) (w j) 0) k

abbrev pub count_from : ℕ → (ℕ → Bool) → ℕ → ℕ
count_from l q k = sum_of l q (λ j. 1) k

sum_past : (l k s : ℕ) (q : ℕ → Bool) (w : ℕ → ℕ) → s < k → sum_of l (λ j. cond (eqb s j) true (q j)) w k ≡ sum_of l q w k
unfolding sum_from
sum_past zero k s q w h = refl
sum_past (suc l) k s q w h =
    ap₂ (λ (t : Bool) (n : ℕ). cond (cond t true (q k)) (w k) 0 + n) (ne_eqb s k (omega arith)) (sum_past l (k + 1) s q w (omega arith))

-- one slot more
sum-add : (l k s : ℕ) (q : ℕ → Bool) (w : ℕ → ℕ) → q s ≡ false → k ≤ s → s < k + l
    → sum_of l (λ j. cond (eqb s j) true (q j)) w k ≡ w s + sum_of l q w k
unfolding sum_from
sum-add zero k s q w n a b = absurd (omega arith)
sum-add (suc l) k s q w n a b = go (λ x y. sum-add l (k + 1) s q w n x y) (eqb s k) refl
  where
    go : (k + 1 ≤ s → s < k + 1 + l → sum_of l (λ j. cond (eqb s j) true (q j)) w (k + 1) ≡ w s + sum_of l q w (k + 1)) → (t : Bool) → eqb s k ≡ t
        → cond (cond (eqb s k) true (q k)) (w k) 0 + sum_of l (λ j. cond (eqb s j) true (q j)) w (k + 1) ≡ w s + (cond (q k) (w k) 0 + sum_of l q w (k + 1))
    go ih true e =
        let x : s ≡ k = eqb-true s k e in
        let y : q k ≡ false = subst (λ (z : ℕ). q z ≡ false) x n in
        let v : w s ≡ w k = ap w x in
        rw (e, y, sum_past l (k + 1) s q w (omega arith)) (omega arith)
    go ih false e =
        let x : s ≡ k → ⊥ = eqb-false s k e in
        rw (e, ih (omega arith) (omega arith)) (omega arith)

sum-none : (l k : ℕ) → sum_from l (λ j. 0) k ≡ 0
unfolding sum_from
sum-none zero k = refl
sum-none (suc l) k = omega (arith, sum-none l (k + 1))

-- as many slots are held as there are frames, and their lengths are the frames'
pub count_held : (m : ℕ) (fs : List (List ℕ)) → Sound fs → Within m fs → count_from m (λ j. held j fs) 0 ≡ length fs
unfolding held
count_held m [] s w = sum-none m 0
count_held m (f ∷ fs) s w =
    sum-add m 0 (slot_of f) (λ j. held j fs) (λ j. 1) s.1 (omega arith) (omega (arith, w.0)) ∙ one (count_held m fs s.2 w.1)
  where
    one : {x y : ℕ} → x ≡ y → 1 + x ≡ suc y
    one e = omega arith

pub sum-held : (fs : List (List ℕ)) → Sound fs → sum_of settings (λ j. held j fs) size_of 0 ≡ length (flat fs)
unfolding held flat
sum-held [] s = sum-none settings 0
sum-held (f ∷ fs) s =
    sum-add settings 0 (slot_of f) (λ j. held j fs) size_of s.1 (omega arith) (omega (arith, s.0))
    ∙ ap₂ (λ (x y : ℕ). x + y) (sym (slot_of-length f s.0)) (sum-held fs s.2)
    ∙ sym (length-append f (flat fs))

count-le : (l k : ℕ) (q r : ℕ → Bool) → ((j : ℕ) → q j ≡ true → r j ≡ true) → count_from l q k ≤ count_from l r k
unfolding sum_from
count-le zero k q r h = le_refl 0
count-le (suc l) k q r h = go (count-le l (k + 1) q r h) (q k) (r k) refl refl
  where
    go : count_from l q (k + 1) ≤ count_from l r (k + 1) → (a b : Bool) → q k ≡ a → r k ≡ b
        → cond (q k) 1 0 + count_from l q (k + 1) ≤ cond (r k) 1 0 + count_from l r (k + 1)
    go rest true true x y = rw (x, y) (omega arith)
    go rest true false x y = absurd (false≢true (sym y ∙ h k x))
    go rest false true x y = rw (x, y) (omega arith)
    go rest false false x y = rw (x, y) (omega arith)

-- where as many pass the weaker test as the stronger, what fails the stronger fails the weaker
pub count_same : (l k : ℕ) (q r : ℕ → Bool) → ((j : ℕ) → q j ≡ true → r j ≡ true) → count_from l q k ≡ count_from l r k
    → (j : ℕ) → k ≤ j → j < k + l → q j ≡ false → r j ≡ false
unfolding sum_from
count_same zero k q r h e j a b n = absurd (omega arith)
count_same (suc l) k q r h e j a b n = go (λ e' x y. count_same l (k + 1) q r h e' j x y n) (q k) (r k) refl refl (eqb k j) refl
  where
    rest : count_from l q (k + 1) ≤ count_from l r (k + 1)
    rest = count-le l (k + 1) q r h

    same : (x : Bool) → q k ≡ x → r k ≡ x → count_from l q (k + 1) ≡ count_from l r (k + 1)
    same true u v = let w = rw (u, v) at e in omega arith
    same false u v = let w = rw (u, v) at e in omega arith

    go : (count_from l q (k + 1) ≡ count_from l r (k + 1) → k + 1 ≤ j → j < k + 1 + l → r j ≡ false) → (x y : Bool) → q k ≡ x → r k ≡ y → (t : Bool)
        → eqb k j ≡ t → r j ≡ false
    go ih true false u v t z = absurd (false≢true (sym v ∙ h k u))
    go ih false true u v t z = let w = rw (u, v) at e in absurd (omega (arith, rest))
    go ih true true u v true z = absurd (false≢true (sym n ∙ ap q (sym (eqb-true k j z)) ∙ u))
    go ih true true u v false z = let x : k ≡ j → ⊥ = eqb-false k j z in ih (same true u v) (omega arith) (omega arith)
    go ih false false u v true z = ap r (sym (eqb-true k j z)) ∙ v
    go ih false false u v false z = let x : k ≡ j → ⊥ = eqb-false k j z in ih (same false u v) (omega arith) (omega arith)

pub present-count : (l k : ℕ) (b : List ℕ) → present_from l b k ≡ count_from l (λ j. not (eqb (offset_at b j) 0)) k
unfolding present_from sum_from
present-count zero k b = refl
present-count (suc l) k b = ap₂ (λ (x y : ℕ). x + y) (flip (eqb (offset_at b k) 0)) (present-count l (k + 1) b)
  where
    flip : (t : Bool) → ◌≡◌ {A = ℕ} (cond t 0 1) (cond (not t) 1 0)
    flip true = refl
    flip false = refl

pub count_most : (l k : ℕ) (q : ℕ → Bool) → count_from l q k ≤ l
unfolding sum_from
count_most zero k q = le_refl 0
count_most (suc l) k q = go (count_most l (k + 1) q) (q k)
  where
    go : count_from l q (k + 1) ≤ l → (t : Bool) → cond t 1 0 + count_from l q (k + 1) ≤ suc l
    go ih true = omega arith
    go ih false = omega arith
