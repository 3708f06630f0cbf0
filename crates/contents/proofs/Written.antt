-- The image of a sound list reads back as that list (`image-judge`), with the parts of an image that it takes (`image-length`, `image-offset`,
-- `image-end` and the like).
-- Assumes nothing.
use mathlib.Core.Path.{ap, ap₂, refl, sym, ◌∙◌, ◌≡◌}
use mathlib.Core.Bool.{Bool, cond, false, false≢true, not, true}
use mathlib.Core.List.{List, [], append_assoc, ◌++◌, ◌∷◌}
use Prim.Native.Nat.{suc, zero, ℕ, ◌%◌, ◌*◌, ◌+◌, ◌-◌, ◌/◌, ◌<◌, ◌≤◌}
use native.Mathlib.Nat.{le_refl}
use native.Mathlib.Omega.{arith}
use borrow.Author.Tests.{eq-eqb, eqb-false, eqb-true, le-leb, lt-ltb, ne_eqb}
use lib.Dec.{eqb}
use lib.ListN.{drop, get_or, length, length-append, length-replicate, replicate, take}
use lib.Seq.{drop_at, drop-drop, take_at}
use Rattle.table.specs.Table.{settings}
use Rattle.settings.specs.Settings.{size_of, slot_of}
use Rattle.settings.proofs.Settings.{size_low, slot_of-length}
use Rattle.contents.specs.Frames.{flat, held, place}
use Rattle.contents.specs.Contents.{Layout, all_zero, before, frames_from, header, holds, image, judge, length_at, length_by, longest, offset_at}
use Rattle.contents.specs.Contents.{present_from, slot_from, start, word_at}
use Rattle.contents.proofs.Shape.{Sound, Within, count_held, count_from, place-ge, place_none, present-count, sum_from}
use Rattle.contents.proofs.Headers.{head, head-get, header-length}
use Rattle.contents.proofs.Loops.{judge-all}

slot_from-is : (l : ℕ) (b : List ℕ) (p k s : ℕ) → k ≤ s → s < k + l → offset_at b s ≡ p → ((j : ℕ) → j < s → offset_at b j ≡ p → ⊥) → slot_from l b p k ≡ s
unfolding slot_from
slot_from-is zero b p k s a c e n = absurd (omega arith)
slot_from-is (suc l) b p k s a c e n = go (λ x. slot_from-is l b p (k + 1) s x (omega arith) e n) (eqb k s) refl
  where
    go : (k + 1 ≤ s → slot_from l b p (k + 1) ≡ s) → (t : Bool) → eqb k s ≡ t → cond (eqb (offset_at b k) p) k (slot_from l b p (k + 1)) ≡ s
    go ih true w = let q : k ≡ s = eqb-true k s w in rw (eq-eqb (offset_at b k) p (ap (offset_at b) q ∙ e)) q
    go ih false w = let q : k ≡ s → ⊥ = eqb-false k s w in rw (ne_eqb (offset_at b k) p (n k (omega arith))) (ih (omega arith))

length_at-is : (m : ℕ) (b : List ℕ) (p e : ℕ) (f r : List ℕ) → slot_of f < settings → slot_of f < m → p + length f ≤ e → drop p b ≡ f ++ r
    → slot_from m b p 0 ≡ slot_of f → length_at m b p e ≡ length f
unfolding length_at length_by
length_at-is m b p e f r a am w d s =
    rw (s, lt-ltb _ _ am, le-leb (p + (size_of (slot_of f))) e (omega (arith, len)), eq-eqb _ _ slot) (sym len)
  where
    len : length f ≡ size_of (slot_of f)
    len = slot_of-length f a

    slot : slot_of (take (size_of (slot_of f)) (drop p b)) ≡ slot_of f
    slot = ap (λ (x : List ℕ). slot_of (take (size_of (slot_of f)) x)) d ∙ ap slot_of (take_at f r (size_of (slot_of f)) len)

-- the frames, where each stands at its offset and what is not among them stands before p
frames-of : (m : ℕ) (b : List ℕ) (fs : List (List ℕ)) (p e : ℕ) (r : List ℕ) → Sound fs → Within m fs → p + length (flat fs) ≡ e → drop p b ≡ flat fs ++ r
    → ((j : ℕ) → j < m → held j fs ≡ true → offset_at b j ≡ place p fs j) → ((j : ℕ) → j < m → held j fs ≡ false → offset_at b j < p)
    → frames_from m (length fs) b p e ≡ holds fs
unfolding frames_from flat held place
frames-of m b [] p e r s v t d at out = rw (eq-eqb p e (omega arith))
frames-of m b (f ∷ fs) p e r s v t d at out =
    rw (one, ne_eqb (length f) 0 (λ z. absurd (omega (arith, len, size_low (slot_of f) s.0))), start)
    (ap (before f) (frames-of m b fs (p + length f) e r s.2 v.1 (omega (arith, total)) next at' out'))
  where
    len : length f ≡ size_of (slot_of f)
    len = slot_of-length f s.0

    total : length (f ++ flat fs) ≡ length f + length (flat fs)
    total = length-append f (flat fs)

    here : offset_at b (slot_of f) ≡ p
    here = at (slot_of f) v.0 (rw (eq-eqb (slot_of f) (slot_of f) refl)) ∙ rw (eq-eqb (slot_of f) (slot_of f) refl)

    -- another slot stands elsewhere
    other : (j : ℕ) → j < m → (slot_of f ≡ j → ⊥) → offset_at b j ≡ p → ⊥
    other j a n q = go (held j fs) refl
      where
        go : (x : Bool) → held j fs ≡ x → ⊥
        go true w =
            let z : offset_at b j ≡ place (p + length f) fs j = at j a (rw (ne_eqb (slot_of f) j n) w) ∙ rw (ne_eqb (slot_of f) j n) in
            omega (arith, len, size_low (slot_of f) s.0, place-ge (p + length f) fs j w)
        go false w = omega (arith, out j a (rw (ne_eqb (slot_of f) j n) w))

    found : slot_from m b p 0 ≡ slot_of f
    found = slot_from-is m b p 0 (slot_of f) (omega arith) (omega (arith, v.0)) here (λ j a q. other j (omega (arith, v.0)) (λ w. absurd (omega arith)) q)

    shape : drop p b ≡ f ++ (flat fs ++ r)
    shape = d ∙ append_assoc f (flat fs) r

    one : length_at m b p e ≡ length f
    one = length_at-is m b p e f (flat fs ++ r) s.0 v.0 (omega (arith, total)) shape found

    start : take (length f) (drop p b) ≡ f
    start = ap (take (length f)) shape ∙ take_at f (flat fs ++ r) (length f) refl

    next : drop (p + length f) b ≡ flat fs ++ r
    next = sym (drop-drop (length f) p b) ∙ ap (drop (length f)) shape ∙ drop_at f (flat fs ++ r) (length f) refl

    at' : (j : ℕ) → j < m → held j fs ≡ true → offset_at b j ≡ place (p + length f) fs j
    at' j a w = go (eqb (slot_of f) j) refl
      where
        go : (x : Bool) → eqb (slot_of f) j ≡ x → offset_at b j ≡ place (p + length f) fs j
        go true q = absurd (false≢true (sym s.1 ∙ ap (λ (i : ℕ). held i fs) (eqb-true _ _ q) ∙ w))
        go false q = at j a (rw q w) ∙ rw q

    out' : (j : ℕ) → j < m → held j fs ≡ false → offset_at b j < p + length f
    out' j a w = go (eqb (slot_of f) j) refl
      where
        go : (x : Bool) → eqb (slot_of f) j ≡ x → offset_at b j < p + length f
        go true q = omega (arith, len, size_low (slot_of f) s.0, ap (offset_at b) (sym (eqb-true (slot_of f) j q)) ∙ here)
        go false q = omega (arith, out j a (rw q w))

-- ---- the image's parts

pub image-length : (l : Layout) (n : ℕ) (fs : List (List ℕ)) → start l.slots + length (flat fs) ≤ n → length (image l n fs) ≡ n
unfolding image
image-length l n fs h =
    omega (
      arith,
      length-append (header l fs) (flat fs ++ replicate (n - (start l.slots + length (flat fs))) 0),
      length-append (flat fs)
          (replicate (n - (start l.slots + length (flat fs))) 0),
      header-length l fs,
      length-replicate {A = ℕ} (n - (start l.slots + length (flat fs))) 0,
    )

pub image-offset : (l : Layout) (n : ℕ) (fs : List (List ℕ)) (k : ℕ) → k < l.slots → offset_at (image l n fs) k ≡ place (start l.slots) fs k
unfolding image header head
image-offset l n fs k a = head-get l (length fs) (start l.slots + length (flat fs)) (place (start l.slots) fs)
    (flat fs ++ replicate (n - (start l.slots + length (flat fs))) 0) k a

pub image-end : (l : Layout) (n : ℕ) (fs : List (List ℕ)) → word_at (image l n fs) 2 ≡ start l.slots + length (flat fs)
unfolding image header word_at
image-end l n fs = whole (start l.slots + length (flat fs))
  where
    whole : (n : ℕ) → n / 256 * 256 + n % 256 ≡ n
    whole n = omega arith

pub image-count : (l : Layout) (n : ℕ) (fs : List (List ℕ)) → get_or (image l n fs) 1 0 ≡ length fs
unfolding image header
image-count l n fs = refl

image-version : (l : Layout) (n : ℕ) (fs : List (List ℕ)) → get_or (image l n fs) 0 0 ≡ l.version
unfolding image header
image-version l n fs = refl

image-drop : (l : Layout) (n : ℕ) (fs : List (List ℕ)) → drop (start l.slots) (image l n fs) ≡ flat fs ++ replicate
    (n - (start l.slots + length (flat fs))) 0
unfolding image
image-drop l n fs = drop_at (header l fs) (flat fs ++ replicate (n - (start l.slots + length (flat fs))) 0) (start l.slots) (header-length l fs)

zeros-zero : (m : ℕ) → all_zero (replicate m 0) ≡ true
unfolding all_zero
zeros-zero zero = refl
zeros-zero (suc m) = zeros-zero m

image-tail : (l : Layout) (n : ℕ) (fs : List (List ℕ)) → all_zero (drop (start l.slots + length (flat fs)) (image l n fs)) ≡ true
image-tail l n fs =
    ap all_zero (sym (drop-drop (length (flat fs)) (start l.slots) (image l n fs)) ∙ ap (drop (length (flat fs))) (image-drop l n fs)
    ∙ drop_at (flat fs) (replicate (n - (start l.slots + length (flat fs))) 0) (length (flat fs)) refl)
    ∙ zeros-zero (n - (start l.slots + length (flat fs)))

count-cong : (l k : ℕ) (q r : ℕ → Bool) → ((j : ℕ) → k ≤ j → j < k + l → q j ≡ r j) → count_from l q k ≡ count_from l r k
unfolding sum_from
count-cong zero k q r e = refl
count-cong (suc l) k q r e =
    ap₂ (λ (t : Bool) (n : ℕ). cond t 1 0 + n) (e k (le_refl k) (omega arith)) (count-cong l (k + 1) q r (λ j a b. e j (omega arith) (omega arith)))

image-present : (l : Layout) (n : ℕ) (fs : List (List ℕ)) → Sound fs → Within l.slots fs → present_from l.slots (image l n fs) 0 ≡ length fs
image-present l n fs s v =
    present-count l.slots 0 (image l n fs)
    ∙ count-cong l.slots 0 (λ j. not (eqb (offset_at (image l n fs) j) 0)) (λ j. held j fs)
    (λ j a b. ap (λ (x : ℕ). not (eqb x 0)) (image-offset l n fs j (omega arith)) ∙ go j (held j fs) refl)
    ∙ count_held l.slots fs s v
  where
    go : (j : ℕ) (x : Bool) → held j fs ≡ x → not (eqb (place (start l.slots) fs j) 0) ≡ held j fs
    go j true w = ap not (ne_eqb (place (start l.slots) fs j) 0 (λ z. absurd (omega (arith, place-ge (start l.slots) fs j w)))) ∙ sym w
    go j false w = ap not (eq-eqb (place (start l.slots) fs j) 0 (place_none (start l.slots) fs j w)) ∙ sym w

pub image-judge : (l : Layout) (n : ℕ) (fs : List (List ℕ)) → Sound fs → Within l.slots fs → start l.slots + length (flat fs) ≤ n → n ≤ longest
    → judge l (image l n fs) ≡ holds fs
image-judge l n fs s v h big =
    judge-all l (image l n fs) (omega (arith, len)) (omega (arith, len)) (image-version l n fs) (omega (arith, image-end l n fs))
    (omega (arith, len, image-end l n fs))
    (image-present l n fs s v ∙ sym (image-count l n fs)) (ap (λ (e : ℕ). all_zero (drop e (image l n fs))) (image-end l n fs) ∙ image-tail l n fs)
    ∙ ap₂ (λ (c e : ℕ). frames_from l.slots c (image l n fs) (start l.slots) e) (image-count l n fs) (image-end l n fs)
    ∙ frames-of l.slots (image l n fs) fs (start l.slots) (start l.slots + length (flat fs))
    (replicate (n - (start l.slots + length (flat fs))) 0) s v refl (image-drop l n fs)
    (λ j a w. image-offset l n fs j a) (λ j a w. omega (arith, image-offset l n fs j a, place_none (start l.slots) fs j w))
  where
    len : length (image l n fs) ≡ n
    len = image-length l n fs h
