-- A removal as edits of a book's bytes: the refit with no bytes where the frame stood, and one frame less, gives the image of the list without
-- the frame (`taken-image`). And what `remove` returns (`remove-..`).
-- Assumes nothing.
use mathlib.Core.Path.{ap, ap₂, refl, sym, ◌∙◌, ◌≡◌}
use mathlib.Core.Bool.{Bool, cond, false, false≢true, true}
use mathlib.Core.List.{List, [], append_assoc, ◌++◌, ◌∷◌}
use Prim.Native.Nat.{suc, ℕ, ◌+◌, ◌-◌, ◌<◌, ◌≤◌}
use native.Mathlib.Omega.{arith}
use borrow.Author.Tests.{eqb-true, le-ltb, lt-ltb}
use lib.Dec.{eqb}
use lib.ListN.{drop, get_or, length, length-append, length-drop, replicate, set, take}
use lib.Seq.{length-take-le}
use Rattle.refusal.specs.declared.Refusal.TheVariants.{NotAKind, NotHeld}
use Rattle.table.specs.Table.{settings}
use Rattle.settings.specs.Settings.{size_of, slot_for, slot_of}
use Rattle.settings.proofs.Settings.{size_low, slot_of-length}
use Rattle.contents.specs.Frames.{flat, held, place}
use Rattle.contents.specs.Contents.{Layout, header, image, offset_at, room_of, start, word_at}
use Rattle.contents.proofs.Headers.{head, header-head}
use Rattle.contents.proofs.Shape.{Sound, place-ge, place_in}
use Rattle.contents.proofs.Judged.{Bytes, offsets}
use Rattle.book.specs.Plain.{become, refuse, remove_on, swap_in, without}
use Rattle.book.specs.Book.{call}
use Rattle.std.specs.Prelude.{Ok, Err}
use Rattle.book.specs.Edits.{shifted_at, taken_out}
use Rattle.book.proofs.Calls.{Gives, Holds, accept, holds-reads}
use Rattle.book.proofs.Known.{count-is, end_is, is_held, is-image, not-held, stay, tiling}
use Rattle.book.proofs.Parts.{head-count, head-same}
use Rattle.book.proofs.Refitting.{place-shifts, refit-image, shifted-kept}
use Rattle.book.proofs.Swapping.{swap-flat}

-- ---- the list, with a slot out

-- a removal leaves the bytes that a swap for an empty frame does
flat-gone : (k : ℕ) (fs : List (List ℕ)) → flat (without k fs) ≡ flat (swap_in k [] fs)
unfolding flat without swap_in
flat-gone k [] = refl
flat-gone k (g ∷ fs) = go (flat-gone k fs) (eqb (slot_of g) k)
  where
    go : flat (without k fs) ≡ flat (swap_in k [] fs) → (t : Bool) → flat (cond t fs (g ∷ without k fs)) ≡ flat (cond t ([] ∷ fs) (g ∷ swap_in k [] fs))
    go ih true = refl
    go ih false = ap (λ (x : List ℕ). g ++ x) ih

pub flat-without : (k : ℕ) (fs : List (List ℕ)) → Sound fs → held k fs ≡ true
    → flat (without k fs) ≡ take (place 0 fs k) (flat fs) ++ drop (place 0 fs k + size_of k) (flat fs)
flat-without k fs s h = flat-gone k fs ∙ swap-flat k [] fs s h

pub length_without : (k : ℕ) (fs : List (List ℕ)) → held k fs ≡ true → length fs ≡ suc (length (without k fs))
unfolding without held
length_without k [] h = absurd (false≢true h)
length_without k (g ∷ fs) h = go (length_without k fs) (eqb (slot_of g) k) h
  where
    go : (held k fs ≡ true → length fs ≡ suc (length (without k fs))) → (t : Bool) → cond t true (held k fs) ≡ true
        → suc (length fs) ≡ suc (length (cond t fs (g ∷ without k fs)))
    go ih true q = refl
    go ih false q = ap suc (ih q)

pub place-without : (p k : ℕ) (fs : List (List ℕ)) → 0 < p → Sound fs → held k fs ≡ true → (j : ℕ)
    → place p (without k fs) j ≡ shifted_at (place p fs k) (size_of k) 0 (place p fs j)
unfolding place without held
place-without p k [] pos s h j = absurd (false≢true h)
place-without p k (g ∷ fs) pos s h j = go (λ q. place-without (p + length g) k fs (omega arith) s.2 q j) (eqb (slot_of g) k) refl h (eqb (slot_of g) j) refl
  where
    len : length g ≡ size_of (slot_of g)
    len = slot_of-length g s.0

    past-zero : (n : ℕ) → n ≡ n + 0
    past-zero n = omega arith

    go : (held k fs ≡ true → place (p + length g) (without k fs) j ≡ shifted_at (place (p + length g) fs k) (size_of k) 0 (place (p + length g) fs j))
        → (t : Bool) → eqb (slot_of g) k ≡ t → cond t true (held k fs) ≡ true
        → (u : Bool) → eqb (slot_of g) j ≡ u
        → place p (cond t fs (g ∷ without k fs)) j ≡ shifted_at (cond t p (place (p + length g) fs k)) (size_of k) 0
        (cond (eqb (slot_of g) j) p (place (p + length g) fs j))
    go ih true e q u w = ap (λ (x : ℕ). place x fs j) (past-zero p) ∙ place-shifts p k 0 g fs pos s.0 (eqb-true _ _ e) s.1 j
    go ih false e q true w =
        rw w (shifted-kept (place (p + length g) fs k) (size_of k) 0 p (omega (arith, place-ge (p + length g) fs k q))
        (λ z. absurd (omega (arith, len, size_low (slot_of g) s.0, place-ge (p + length g) fs k q))))
    go ih false e q false w = rw w (ih q)

pub taken-image : (l : Layout) (n k : ℕ) (fs : List (List ℕ)) → Sound fs → held k fs ≡ true → start l.slots + length (flat fs) ≤ n
    → taken_out l.slots (image l n fs) (place (start l.slots) fs k) (size_of k) (start l.slots + length (flat fs)) ≡ image l n (without k fs)
unfolding image taken_out header
taken-image l n k fs s h fits =
    ap (λ (y : List ℕ). set y 1 (length fs - 1)) (refit-image l n k 0 fs s h fits (omega (arith, room, fits)))
    ∙ head-count l (length fs) (E - L + 0) (length fs - 1) h1 rest
    ∙ ap (λ (y : List ℕ). y ++ rest) (head-same l (length fs - 1) (E - L + 0) h1 (place (start l.slots) (without k fs))
    (λ x. sym (place-without (start l.slots) k fs (omega arith) s h x)))
    ∙ ap₂ (λ (c e : ℕ). head l c e (place (start l.slots) (without k fs)) ++ rest) count ends
    ∙ ap₂ (λ (x y : List ℕ). x ++ y) (sym (header-head l (without k fs))) tail
  where
    L : ℕ
    L = size_of k

    E : ℕ
    E = start l.slots + length (flat fs)

    o : ℕ
    o = place 0 fs k

    T : List ℕ
    T = drop (place 0 fs k + size_of k) (flat fs)

    h1 : ℕ → ℕ
    h1 x = shifted_at (place (start l.slots) fs k) (size_of k) 0 (place (start l.slots) fs x)

    room : o + L ≤ length (flat fs)
    room = omega (arith, place_in 0 fs k s h)

    rest : List ℕ
    rest = take o (flat fs) ++ (T ++ replicate (n - (start l.slots + length (flat fs)) + size_of k - 0) 0)

    gone : length (flat (without k fs)) ≡ o + (length (flat fs) - (o + L))
    gone = ap length (flat-without k fs s h) ∙ length-append (take o (flat fs)) T
        ∙ ap₂ (λ (x y : ℕ). x + y) (length-take-le o (flat fs) (omega (arith, room))) (length-drop (o + L) (flat fs))

    count : length fs - 1 ≡ length (without k fs)
    count = omega (arith, length_without k fs h)

    ends : E - L + 0 ≡ start l.slots + length (flat (without k fs))
    ends = omega (arith, gone, room)

    tail : rest ≡ flat (without k fs) ++ replicate (n - (start l.slots + length (flat (without k fs)))) 0
    tail =
        sym (append_assoc (take o (flat fs)) T (replicate (n - (start l.slots + length (flat fs)) + size_of k - 0) 0))
        ∙ ap₂ (λ (x : List ℕ) (i : ℕ). x ++ replicate i 0) (sym (flat-without k fs s h)) i
      where
        i : n - (start l.slots + length (flat fs)) + size_of k - 0 ≡ n - (start l.slots + length (flat (without k fs)))
        i = omega (arith, gone, room)

-- ---- what a removal answers

module _ (k s : ℕ) (own : s ≡ slot_for k) (o : List ℕ) (n : ℕ) (fs : List (List ℕ)) where
  remove_on-none : settings ≤ s → remove_on k o n fs ≡ refuse NotAKind o fs
  unfolding remove_on
  remove_on-none a = rw (← own, le-ltb _ _ a)

  remove_on-absent : s < settings → held s fs ≡ false → remove_on k o n fs ≡ refuse NotHeld o fs
  unfolding remove_on
  remove_on-absent a h = rw (← own, lt-ltb _ _ a, h)

  remove_on-done : s < settings → held s fs ≡ true → remove_on k o n fs ≡ become o (without s fs)
  unfolding remove_on
  remove_on-done a h = rw (← own, lt-ltb _ _ a, h)

module _ (l : Layout) (b : List ℕ) (B : Bytes b) (h : Holds l b) (k s : ℕ) (own : s ≡ slot_for k) where
  pub remove-none : settings ≤ s → Gives (call l (remove_on k) [] b) (Err NotAKind) [] b
  remove-none a = stay l b B h (remove_on k) [] (Err NotAKind) [] (remove_on-none k s own [] (room_of l (length b)) h.frames a)

  module _ (a : s < settings) (am : s < l.slots) (at : ℕ) (o : at ≡ offset_at b s) where
    pub remove_absent : at ≡ 0 → Gives (call l (remove_on k) [] b) (Err NotHeld) [] b
    remove_absent z = stay l b B h (remove_on k) [] (Err NotHeld) []
        (remove_on-absent k s own [] (room_of l (length b)) h.frames a (not-held l b B h s at am o z))

    module _ (n : at ≡ 0 → ⊥) where
      pub some-held : 0 < get_or b 1 0
      some-held = omega (arith, count-is l b B h, length_without s h.frames (is_held l b B h s at am o n))

      pub remove-done : (e : ℕ) (y : List ℕ) → e ≡ word_at b 2 → y ≡ taken_out l.slots b at (size_of s) e → Gives (call l (remove_on k) [] b) (Ok 0) [] y
      remove-done e y q p =
          accept l (remove_on k) [] b h (become [] (without s h.frames)) y
          (remove_on-done k s own [] (room_of l (length b)) h.frames a hk)
          (p
          ∙ ap₂ (λ (i j : ℕ). taken_out l.slots b i (size_of s) j) (o ∙ offsets l b h.frames (holds-reads l b h) s am) (q ∙ end_is l b B h)
          ∙ ap (λ (x : List ℕ). taken_out l.slots x (place (start l.slots) h.frames s) (size_of s) (start l.slots + length (flat h.frames)))
          (is-image l b B h)
          ∙ taken-image l (length b) s h.frames (tiling l b B h).sound hk (omega (arith, end_is l b B h, (holds-reads l b h).high)))
        where
          hk : held s h.frames ≡ true
          hk = is_held l b B h s at am o n
