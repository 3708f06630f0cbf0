-- The edits of a filling give images of lists: the empty book (`blank-image`), and one frame more behind the others (`app-image`).
-- Assumes nothing.
use mathlib.Core.Path.{ap, ap₂, refl, sym, ◌∙◌, ◌≡◌}
use mathlib.Core.Bool.{Bool, cond, false, false≢true, true}
use mathlib.Core.List.{List, [], append_assoc, append-nil, ◌++◌, ◌∷◌}
use Prim.Native.Nat.{suc, zero, ℕ, ◌%◌, ◌*◌, ◌+◌, ◌-◌, ◌/◌, ◌<◌, ◌≤◌}
use native.Mathlib.Omega.{arith}
use borrow.Author.Tests.{eq-eqb, ne_eqb}
use lib.Dec.{eqb}
use lib.ListN.{drop, length, length-append, length-replicate, length-set, replicate, replicate-append-replicate, set, take}
use lib.Seq.{drop-length, paste, set-append_left, take_all, take-length}
use Rattle.spans.specs.Spans.{set_word}
use Rattle.settings.specs.Settings.{slot_of}
use Rattle.contents.specs.Frames.{flat, held, place}
use Rattle.contents.specs.Contents.{Layout, header, image, start, words}
use Rattle.contents.proofs.Headers.{header-length}
use Rattle.filling.proofs.Pieces.{drop-replicate, length-set_word, paste-right, set_word-left, set_word-skip, words-set}
use Rattle.contents.proofs.Lists.{flat_append, length-one}

-- ---- the empty book

words-none : (p l k : ℕ) → words l k (place p []) ≡ replicate (2 * l) 0
unfolding words place
words-none p zero k = refl
words-none p (suc l) k = ap (λ (r : List ℕ). 0 ∷ 0 ∷ r) (words-none p l (k + 1)) ∙ ap (λ (n : ℕ). replicate n 0) (two l)
  where
    two : (l : ℕ) → suc (suc (2 * l)) ≡ 2 * suc l
    two l = omega arith

-- zeros, with the version and where the frames start stored in front
pub blank-image : (l : Layout) (b : List ℕ) → start l.slots ≤ length b
    → set_word (set (paste b 0 (replicate (length b) 0) (length b)) 0 l.version) 2 (start l.slots) ≡ image l (length b) []
unfolding image header flat set_word
blank-image l b h =
    ap (λ (x : List ℕ). set_word (set x 0 l.version) 2 (start l.slots)) whole
    ∙ ap (λ (n : ℕ). set_word (set (replicate n 0) 0 l.version) 2 (start l.slots)) (four (length b) (omega arith))
    ∙ ap (λ (r : List ℕ). l.version ∷ 0 ∷ start l.slots / 256 ∷ start l.slots % 256 ∷ r) rest
    ∙ ap (λ (n : ℕ). l.version ∷ 0 ∷ n / 256 ∷ n % 256 ∷ (words l.slots 0 (place (start l.slots) []) ++ replicate (length b - n) 0)) plain
  where
    plain : start l.slots ≡ start l.slots + 0
    plain = omega arith

    four : (n : ℕ) → 4 ≤ n → n ≡ suc (suc (suc (suc (n - 4))))
    four n q = omega arith

    rest : replicate {A = ℕ} (length b - 4) 0 ≡ words l.slots 0 (place (start l.slots) []) ++ replicate (length b - start l.slots) 0
    rest =
        ap (λ (n : ℕ). replicate n 0) split
        ∙ sym (replicate-append-replicate (2 * l.slots) (length b - start l.slots) 0)
        ∙ ap (λ (r : List ℕ). r ++ replicate (length b - start l.slots) 0) (sym (words-none (start l.slots) l.slots 0))
      where
        split : length b - 4 ≡ 2 * l.slots + (length b - start l.slots)
        split = omega arith

    whole : take 0 b ++ take (length b) (replicate (length b) 0) ++ drop (0 + length b) b ≡ replicate (length b) 0
    whole =
        ap₂ (λ (x y : List ℕ). x ++ y) (take_all (length b) (replicate (length b) 0) (omega (arith, length-replicate {A = ℕ} (length b) 0)))
        (ap (λ (n : ℕ). drop n b) zl ∙ drop-length b)
        ∙ append-nil (replicate (length b) 0)
      where
        zl : 0 + length b ≡ length b
        zl = omega arith

-- ---- one frame more

place-append : (p : ℕ) (fs : List (List ℕ)) (f : List ℕ) → held (slot_of f) fs ≡ false → place p (fs ++ (f ∷ [])) (slot_of f) ≡ p + length (flat fs)
unfolding place held flat
place-append p [] f h = ap (λ (t : Bool). cond t p 0) (eq-eqb (slot_of f) (slot_of f) refl) ∙ e p
  where
    e : (p : ℕ) → p ≡ p + 0
    e p = omega arith
place-append p (g ∷ fs) f h = go (place-append (p + length g) fs f) (eqb (slot_of g) (slot_of f)) h
  where
    go : (held (slot_of f) fs ≡ false → place (p + length g) (fs ++ (f ∷ [])) (slot_of f) ≡ p + length g + length (flat fs)) → (t : Bool)
        → cond t true (held (slot_of f) fs) ≡ false
        → cond t p (place (p + length g) (fs ++ (f ∷ [])) (slot_of f)) ≡ p + length (g ++ flat fs)
    go ih true q = absurd (false≢true (sym q))
    go ih false q = omega (arith, ih q, length-append g (flat fs))

place_other : (p : ℕ) (fs : List (List ℕ)) (f : List ℕ) (j : ℕ) → (slot_of f ≡ j → ⊥) → place p (fs ++ (f ∷ [])) j ≡ place p fs j
unfolding place
place_other p [] f j n = ap (λ (t : Bool). cond t p 0) (ne_eqb (slot_of f) j n)
place_other p (g ∷ fs) f j n = ap (λ (x : ℕ). cond (eqb (slot_of g) j) p x) (place_other (p + length g) fs f j n)

-- the header, with one more frame
header-append : (l : Layout) (fs : List (List ℕ)) (f : List ℕ) → held (slot_of f) fs ≡ false → slot_of f < l.slots
    → set_word (set_word (set (header l fs) 1 (length fs + 1)) 2 (start l.slots + length (flat fs) + length f)) (4 + 2 * slot_of f)
    (start l.slots + length (flat fs)) ≡ header l (fs ++ (f ∷ []))
unfolding header set_word
header-append l fs f fresh a =
    let c : ℕ = length fs + 1 in
    let h : ℕ = (start l.slots + length (flat fs) + length f) / 256 in
    let w : ℕ = (start l.slots + length (flat fs) + length f) % 256 in
    ap (λ (i : ℕ). set_word (l.version ∷ c ∷ h ∷ w ∷ words l.slots 0 (place (start l.slots) fs)) i (start l.slots + length (flat fs)))
    (four (2 * slot_of f))
    ∙ set_word-skip l.version c (h ∷ w ∷ words l.slots 0 (place (start l.slots) fs)) (suc (suc (2 * slot_of f))) (start l.slots + length (flat fs))
    ∙ ap (λ (r : List ℕ). l.version ∷ c ∷ r) (set_word-skip h w (words l.slots 0 (place (start l.slots) fs)) (2 * slot_of f)
    (start l.slots + length (flat fs)))
    ∙ ap₂ (λ (c : ℕ) (r : List ℕ). l.version ∷ c ∷ r) (sym (length-one fs f))
    (ap₂ (λ (x : ℕ) (r : List ℕ). x / 256 ∷ x % 256 ∷ r) total
    (words-set l.slots 0 (place (start l.slots) fs) (place (start l.slots) (fs ++ (f ∷ []))) (slot_of f) (start l.slots + length (flat fs)) a
    (ap (place (start l.slots) (fs ++ (f ∷ []))) (z (slot_of f)) ∙ place-append (start l.slots) fs f fresh)
    (λ x n. sym (place_other (start l.slots) fs f x (λ u. n (z (slot_of f) ∙ u))))))
  where
    four : (n : ℕ) → 4 + n ≡ suc (suc (suc (suc n)))
    four n = omega arith

    z : (n : ℕ) → 0 + n ≡ n
    z n = omega arith

    total : start l.slots + length (flat fs) + length f ≡ start l.slots + length (flat (fs ++ (f ∷ [])))
    total = omega (arith, ap length (flat_append fs f), length-append (flat fs) f)

pub app-image : (l : Layout) (n : ℕ) (f : List ℕ) (fs : List (List ℕ)) → held (slot_of f) fs ≡ false → slot_of f < l.slots
    → start l.slots + length (flat fs) + length f ≤ n
    → set_word (set_word (set (paste (image l n fs) (start l.slots + length (flat fs)) f (length f)) 1 (length fs + 1)) 2
    (start l.slots + length (flat fs) + length f)) (4 + 2 * slot_of f) (start l.slots + length (flat fs)) ≡ image l n (fs ++ (f ∷ []))
unfolding image
app-image l n f fs h a room =
    ap (λ (x : List ℕ). set_word (set_word (set x 1 (length fs + 1)) 2 e') (4 + 2 * slot_of f) e) pasted
    ∙ ap (λ (x : List ℕ). set_word (set_word x 2 e') (4 + 2 * slot_of f) e)
    (set-append_left (header l fs) rest 1 (length fs + 1) (omega (arith, header-length l fs)))
    ∙ ap (λ (x : List ℕ). set_word x (4 + 2 * slot_of f) e) (set_word-left (set (header l fs) 1 (length fs + 1)) rest 2 e'
    (simp length-set (omega (arith, header-length l fs))))
    ∙ set_word-left (set_word (set (header l fs) 1 (length fs + 1)) 2 e') rest (4 + 2 * slot_of f) e (omega (arith, len))
    ∙ ap₂ (λ (u v : List ℕ). u ++ v) (header-append l fs f h a) tail
  where
    e : ℕ
    e = start l.slots + length (flat fs)

    e' : ℕ
    e' = start l.slots + length (flat fs) + length f

    z : ℕ
    z = n - (start l.slots + length (flat fs))

    rest : List ℕ
    rest = flat fs ++ (f ++ replicate (z - length f) 0)

    ends : start l.slots + length (flat fs) ≡ length (header l fs) + (length (flat fs) + 0)
    ends = omega (arith, header-length l fs)

    len : length (set_word (set (header l fs) 1 (length fs + 1)) 2 e') ≡ start l.slots
    len = length-set_word (set (header l fs) 1 (length fs + 1)) 2 e' ∙ length-set (header l fs) 1 (length fs + 1) ∙ header-length l fs

    front : paste (replicate z 0) 0 f (length f) ≡ f ++ replicate (z - length f) 0
    front = ap₂ (λ (u v : List ℕ). u ++ v) (take-length f) (ap (λ (i : ℕ). drop {A = ℕ} i (replicate z 0)) (zz (length f)) ∙ drop-replicate z (length f))
      where
        zz : (m : ℕ) → 0 + m ≡ m
        zz m = omega arith

    pasted : paste (header l fs ++ (flat fs ++ replicate z 0)) (start l.slots + length (flat fs)) f (length f) ≡ header l fs ++ rest
    pasted =
        ap (λ (i : ℕ). paste (header l fs ++ (flat fs ++ replicate z 0)) i f (length f)) ends
        ∙ paste-right (header l fs) (flat fs ++ replicate z 0) (length (flat fs) + 0) f (length f)
        ∙ ap (λ (r : List ℕ). header l fs ++ r) (paste-right (flat fs) (replicate z 0) 0 f (length f) ∙ ap (λ (r : List ℕ). flat fs ++ r) front)

    left : z - length f ≡ n - (start l.slots + length (flat (fs ++ (f ∷ []))))
    left = omega (arith, ap length (flat_append fs f), length-append (flat fs) f)

    tail : rest ≡ flat (fs ++ (f ∷ [])) ++ replicate (n - (start l.slots + length (flat (fs ++ (f ∷ []))))) 0
    tail =
        sym (append_assoc (flat fs) f (replicate (z - length f) 0))
        ∙ ap₂ (λ (u : List ℕ) (m : ℕ). u ++ replicate m 0) (sym (flat_append fs f)) left
