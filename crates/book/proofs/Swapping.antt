-- A frame in the place of another, of any length: the list's bytes, room and places after it (`swap-..`), and that a refit with the frame
-- written where it made room gives the image of that list (`swapped-image`).
-- Assumes nothing.
use mathlib.Core.Path.{ap, ap₂, refl, sym, ◌∙◌, ◌≡◌}
use mathlib.Core.Bool.{Bool, cond, false, false≢true, true}
use mathlib.Core.List.{List, [], append_assoc, ◌++◌, ◌∷◌}
use Prim.Native.Nat.{suc, ℕ, ◌*◌, ◌+◌, ◌-◌, ◌<◌, ◌≤◌}
use native.Mathlib.Omega.{arith}
use borrow.Author.Tests.{eq-eqb, eqb-true, ne_eqb}
use lib.Dec.{eqb}
use lib.ListN.{drop, length, length-append, length-drop, length-replicate, replicate, take}
use lib.Seq.{drop-append-add, drop-append_seam, drop_at, length-take-le, paste, take-append-add}
use Rattle.settings.specs.Settings.{size_of, slot_of}
use Rattle.settings.proofs.Settings.{size_low, slot_of-length}
use Rattle.contents.specs.Frames.{flat, held, place}
use Rattle.contents.specs.Contents.{Layout, image, start}
use Rattle.contents.proofs.Headers.{head, head-length, header-head}
use Rattle.contents.proofs.Shape.{Sound, place-from, place-ge, place_in, place-shift}
use Rattle.spans.specs.Spans.{set_word, stored, written}
use Rattle.spans.proofs.Spans.{stored-fits, written-fits}
use Rattle.book.specs.Plain.{swap_in}
use Rattle.book.specs.Edits.{refitted, shifted_at, swapped}
use Rattle.filling.proofs.Pieces.{paste-at, paste-right}
use Rattle.book.proofs.Parts.{head-set}
use Rattle.book.proofs.Placed.{held_cons}
use Rattle.book.proofs.Refitting.{place-shifts, refit-image, shifted-kept}

-- ---- the list

pub swap-length : (k : ℕ) (f : List ℕ) (fs : List (List ℕ)) → length (swap_in k f fs) ≡ length fs
unfolding swap_in
swap-length k f [] = refl
swap-length k f (g ∷ fs) = go (swap-length k f fs) (eqb (slot_of g) k)
  where
    go : length (swap_in k f fs) ≡ length fs → (t : Bool) → length (cond t (f ∷ fs) (g ∷ swap_in k f fs)) ≡ suc (length fs)
    go ih true = refl
    go ih false = ap suc ih

pub swap-flat : (k : ℕ) (f : List ℕ) (fs : List (List ℕ)) → Sound fs → held k fs ≡ true
    → flat (swap_in k f fs) ≡ take (place 0 fs k) (flat fs) ++ (f ++ drop (place 0 fs k + size_of k) (flat fs))
unfolding flat swap_in place held
swap-flat k f [] s h = absurd (false≢true h)
swap-flat k f (g ∷ fs) s h = go (swap-flat k f fs s.2) (eqb (slot_of g) k) refl h
  where
    go : (held k fs ≡ true → flat (swap_in k f fs) ≡ take (place 0 fs k) (flat fs) ++ (f ++ drop (place 0 fs k + size_of k) (flat fs))) → (t : Bool)
        → eqb (slot_of g) k ≡ t → cond t true (held k fs) ≡ true
        → flat (cond t (f ∷ fs) (g ∷ swap_in k f fs))
        ≡ take (cond t 0 (place (0 + length g) fs k)) (g ++ flat fs) ++ (f ++ drop (cond t 0 (place (0 + length g) fs k) + size_of k) (g ++ flat fs))
    go ih true e q = ap (λ (x : List ℕ). f ++ x) (sym (drop-append_seam g (flat fs)) ∙ ap (λ (n : ℕ). drop n (g ++ flat fs)) same)
      where
        same : length g ≡ 0 + size_of k
        same = omega (arith, slot_of-length g s.0, ap size_of (eqb-true (slot_of g) k e))
    go ih false e q =
        ap (λ (x : List ℕ). g ++ x) (ih q)
        ∙ sym (append_assoc g (take (place 0 fs k) (flat fs)) (f ++ drop (place 0 fs k + size_of k) (flat fs)))
        ∙ ap₂ (λ (x y : List ℕ). x ++ (f ++ y))
        (sym (take-append-add g (flat fs) (place 0 fs k)) ∙ ap (λ (n : ℕ). take n (g ++ flat fs)) a)
        (sym (drop-append-add g (flat fs) (place 0 fs k + size_of k)) ∙ ap (λ (n : ℕ). drop n (g ++ flat fs)) b)
      where
        a : length g + place 0 fs k ≡ place (0 + length g) fs k
        a = omega (arith, place-shift (length g) 0 fs k q)

        b : length g + (place 0 fs k + size_of k) ≡ place (0 + length g) fs k + size_of k
        b = omega (arith, place-shift (length g) 0 fs k q)

pub swap-room : (k : ℕ) (f : List ℕ) (fs : List (List ℕ)) → Sound fs → held k fs ≡ true
    → length (flat (swap_in k f fs)) ≡ length (flat fs) - size_of k + length f
swap-room k f fs s h =
    let o : ℕ = place 0 fs k in
    let T : List ℕ = drop (place 0 fs k + size_of k) (flat fs) in
    let a : place 0 fs k + size_of k ≤ length (flat fs) = omega (arith, place_in 0 fs k s h) in
    omega (
      arith,
      a,
      ap length (swap-flat k f fs s h),
      length-append (take (place 0 fs k) (flat fs)) (f ++ drop (place 0 fs k + size_of k) (flat fs)),
      length-append f (drop (place 0 fs k + size_of k) (flat fs)),
      length-take-le (place 0 fs k) (flat fs) (omega arith),
      length-drop (place 0 fs k + size_of k) (flat fs),
    )

pub swap-place : (p k : ℕ) (f : List ℕ) (fs : List (List ℕ)) → 0 < p → Sound fs → held (slot_of f) fs ≡ false → held k fs ≡ true → (j : ℕ)
    → place p (swap_in k f fs) j ≡ cond (eqb (slot_of f) j) (place p fs k) (shifted_at (place p fs k) (size_of k) (length f) (place p fs j))
unfolding place swap_in held
swap-place p k f [] pos s r h j = absurd (false≢true h)
swap-place p k f (g ∷ fs) pos s r h j =
    let z = held_cons (slot_of f) g fs r in
    go z.0 (λ q. swap-place (p + length g) k f fs (omega arith) s.2 z.1 q j) (eqb (slot_of g) k) refl h (eqb (slot_of g) j) refl
  where
    Moves : ℕ → List (List ℕ) → List (List ℕ) → Type 0
    Moves p gs fs = place p gs j ≡ cond (eqb (slot_of f) j) (place p fs k) (shifted_at (place p fs k) (size_of k) (length f) (place p fs j))

    low : 3 ≤ length g
    low = omega (arith, slot_of-length g s.0, size_low (slot_of g) s.0)

    go : (slot_of g ≡ slot_of f → ⊥) → (held k fs ≡ true → Moves (p + length g) (swap_in k f fs) fs) → (t : Bool) → eqb (slot_of g) k ≡ t
        → cond t true (held k fs) ≡ true → (u : Bool) → eqb (slot_of g) j ≡ u
        → place p (cond t (f ∷ fs) (g ∷ swap_in k f fs)) j
        ≡ cond (eqb (slot_of f) j) (cond t p (place (p + length g) fs k))
        (shifted_at (cond t p (place (p + length g) fs k)) (size_of k) (length f) (cond (eqb (slot_of g) j) p (place (p + length g) fs j)))
    go n ih true e q u w = ap (λ (x : ℕ). cond (eqb (slot_of f) j) p x) (place-shifts p k (length f) g fs pos s.0 (eqb-true _ _ e) s.1 j)
    go n ih false e q true w =
        rw (w, ne_eqb (slot_of f) j (λ z. n (eqb-true _ _ w ∙ sym z)))
        (shifted-kept (place (p + length g) fs k) (size_of k) (length f) p (omega (arith, place-ge (p + length g) fs k q))
        (λ z. absurd (omega (arith, low, place-ge (p + length g) fs k q))))
    go n ih false e q false w = rw w (ih q)

-- ---- the bytes

-- a refit with the frame written where it made room gives the image of the list with the frame exchanged
pub swapped-image : (l : Layout) (n k : ℕ) (f : List ℕ) (fs : List (List ℕ)) → Sound fs → held (slot_of f) fs ≡ false → held k fs ≡ true → slot_of f < l.slots
    → start l.slots + length (flat fs) ≤ n → start l.slots + length (flat (swap_in k f fs)) ≤ n
    → swapped l.slots (image l n fs) (place (start l.slots) fs k) (size_of k) f (slot_of f) (start l.slots + length (flat fs))
    ≡ image l n (swap_in k f fs)
unfolding swapped image
swapped-image l n k f fs s r h a had fit =
    ap (λ (x : List ℕ). set_word (paste x at f new) (4 + 2 * slot_of f) at) (refit-image l n k new fs s h had (omega (arith, fit, room, in-F)))
    ∙ ap (λ (x : List ℕ). set_word x (4 + 2 * slot_of f) at)
    (ap (λ (i : ℕ). paste (hd ++ (H ++ (G ++ R))) i f new) at-h
    ∙ paste-right hd (H ++ (G ++ R)) o f new
    ∙ ap (λ (x : List ℕ). hd ++ x) (paste-at H (G ++ R) f o new hl refl ∙ ap (λ (x : List ℕ). H ++ (f ++ x)) (drop_at G R new gl)))
    ∙ head-set l (length fs) (E - old + new) h1 (place A (swap_in k f fs)) (H ++ (f ++ R)) (slot_of f) at a here there
    ∙ ap₂ (λ (c e : ℕ). head l c e (place A (swap_in k f fs)) ++ (H ++ (f ++ R))) (sym (swap-length k f fs)) ends
    ∙ ap₂ (λ (x y : List ℕ). x ++ y) (sym (header-head l (swap_in k f fs))) tail
  where
    A : ℕ
    A = start l.slots

    at : ℕ
    at = place (start l.slots) fs k

    o : ℕ
    o = place 0 fs k

    old : ℕ
    old = size_of k

    new : ℕ
    new = length f

    E : ℕ
    E = start l.slots + length (flat fs)

    z : ℕ
    z = n - (start l.slots + length (flat fs))

    h1 : ℕ → ℕ
    h1 x = shifted_at (place (start l.slots) fs k) (size_of k) new (place (start l.slots) fs x)

    hd : List ℕ
    hd = head l (length fs) (E - old + new) h1

    H : List ℕ
    H = take o (flat fs)

    D : List ℕ
    D = take old (drop o (flat fs))

    T : List ℕ
    T = drop (o + old) (flat fs)

    G : List ℕ
    G = take new (D ++ (T ++ replicate z 0))

    R : List ℕ
    R = T ++ replicate (z + old - new) 0

    in-F : o + old ≤ length (flat fs)
    in-F = omega (arith, place_in 0 fs k s h)

    room : length (flat (swap_in k f fs)) ≡ length (flat fs) - size_of k + length f
    room = swap-room k f fs s h

    at-o : place (start l.slots) fs k ≡ place 0 fs k + start l.slots
    at-o = place-from (start l.slots) fs k h

    hl : length H ≡ o
    hl = length-take-le o (flat fs) (omega (arith, in-F))

    dl : length D ≡ old
    dl = length-take-le old (drop o (flat fs)) (omega (arith, in-F, length-drop o (flat fs)))

    gl : length G ≡ new
    gl = length-take-le new (D ++ (T ++ replicate z 0)) (omega (
      arith,
      dl,
      in-F,
      room,
      fit,
      had,
      length-append D (T ++ replicate z 0),
      length-append T (replicate z 0),
      length-replicate {A = ℕ} z 0,
    ))

    at-h : at ≡ length hd + o
    at-h = omega (arith, at-o, head-length l (length fs) (E - old + new) h1)

    shift : (j : ℕ) → place A (swap_in k f fs) j ≡ cond (eqb (slot_of f) j) at (shifted_at at old new (place A fs j))
    shift j = swap-place A k f fs (omega arith) s r h j

    here : place A (swap_in k f fs) (slot_of f) ≡ at
    here = shift (slot_of f) ∙ rw (eq-eqb (slot_of f) (slot_of f) refl)

    there : (x : ℕ) → (slot_of f ≡ x → ⊥) → shifted_at at old new (place A fs x) ≡ place A (swap_in k f fs) x
    there x w = sym (shift x ∙ rw (ne_eqb (slot_of f) x w))

    ends : E - old + new ≡ start l.slots + length (flat (swap_in k f fs))
    ends = omega (arith, room, in-F)

    tail : H ++ (f ++ R) ≡ flat (swap_in k f fs) ++ replicate (n - (start l.slots + length (flat (swap_in k f fs)))) 0
    tail =
        ap (λ (x : List ℕ). H ++ x) (sym (append_assoc f T (replicate (z + old - new) 0)))
        ∙ sym (append_assoc H (f ++ T) (replicate (z + old - new) 0))
        ∙ ap₂ (λ (x : List ℕ) (i : ℕ). x ++ replicate i 0) (sym (swap-flat k f fs s h)) i
      where
        i : z + old - new ≡ n - (start l.slots + length (flat (swap_in k f fs)))
        i = omega (arith, room, in-F)

-- the edits of a swap, one after the other
pub swapped-is : (m : ℕ) (b x y z f : List ℕ) (at old s e : ℕ) → x ≡ refitted m b at old (length f) e → at + length f ≤ length x → y ≡ written x at f
    → at < 65536 → 4 + 2 * s + 2 ≤ length y → z ≡ stored y (4 + 2 * s) at → z ≡ swapped m b at old f s e
unfolding swapped
swapped-is m b x y z f at old s e p h q low room r =
    r
    ∙ stored-fits y (4 + 2 * s) at low room
    ∙ ap (λ (w : List ℕ). set_word w (4 + 2 * s) at) (q ∙ written-fits x at f h ∙ ap (λ (w : List ℕ). paste w at f (length f)) p)
