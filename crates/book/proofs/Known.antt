-- What is known of the bytes of a sound book, by the list that they hold: its offsets, its end, its count; and a step that leaves the list
-- (`stay`).
-- Assumes nothing.
use mathlib.Core.Path.{ap, refl, sym, ◌∙◌, ◌≡◌}
use mathlib.Core.Bool.{Bool, false, not, true}
use mathlib.Core.List.{List}
use Prim.Native.Nat.{ℕ, ◌+◌, ◌<◌, ◌≤◌}
use native.Mathlib.Omega.{arith}
use borrow.Author.Tests.{eq-eqb, ne_eqb}
use lib.Dec.{eqb}
use lib.ListN.{get_or, length}
use Rattle.settings.specs.Settings.{size_of}
use Rattle.contents.specs.Frames.{flat, held}
use Rattle.contents.specs.Contents.{Layout, image, longest, offset_at, offset_for, room_of, start, word_at}
use Rattle.contents.proofs.Shape.{count_most, place-ge, place_in, place_none, present-count}
use Rattle.contents.proofs.Judged.{Bytes, Reads, Tiled, frames_from-tiled, judge-image, offsets}
use Rattle.contents.proofs.Offsets.{present-tells}
use Rattle.book.specs.Plain.{Turn, Answer}
use Rattle.book.specs.Book.{call}
use Rattle.book.specs.Edits.{Low}
use Rattle.book.proofs.Calls.{Gives, Holds, accept, holds-reads, present-held}

module _ (l : Layout) (b : List ℕ) (B : Bytes b) (h : Holds l b) where
  pub tiling : Tiled l.slots b (start l.slots) (word_at b 2) (get_or b 1 0) h.frames
  tiling = frames_from-tiled l.slots (get_or b 1 0) b (start l.slots) (word_at b 2) h.frames (holds-reads l b h).tiled

  pub is-image : b ≡ image l (length b) h.frames
  is-image = judge-image l b h.frames B h.reads

  -- a slot's offset is 0 exactly where it is not held
  pub is_held : (k at : ℕ) → k < l.slots → at ≡ offset_at b k → (at ≡ 0 → ⊥) → held k h.frames ≡ true
  is_held k at a o n = sym (present-held l b h.frames h.reads k a) ∙ ap not (ne_eqb (offset_at b k) 0 (λ z. n (o ∙ z)))

  pub not-held : (k at : ℕ) → k < l.slots → at ≡ offset_at b k → at ≡ 0 → held k h.frames ≡ false
  not-held k at a o z = sym (present-held l b h.frames h.reads k a) ∙ ap not (eq-eqb (offset_at b k) 0 (sym o ∙ z))

  -- nor is a slot that the layout has no offset for
  pub none-held : (k at : ℕ) → at ≡ offset_for l.slots b k → at ≡ 0 → held k h.frames ≡ false
  none-held k at o z = sym (present-tells l b h.frames h.reads k) ∙ ap not (eq-eqb (offset_for l.slots b k) 0 (sym o ∙ z))

  pub end_is : word_at b 2 ≡ start l.slots + length (flat h.frames)
  end_is = sym tiling.ends

  pub count-is : get_or b 1 0 ≡ length h.frames
  count-is = sym tiling.many

  pub count-few : get_or b 1 0 ≤ l.slots
  count-few = omega (arith, (holds-reads l b h).count, present-count l.slots 0 b, count_most l.slots 0 (λ j. not (eqb (offset_at b j) 0)))

  -- what is held stands behind the header
  pub held-past : (k at : ℕ) → k < l.slots → at ≡ offset_at b k → (at ≡ 0 → ⊥) → start l.slots ≤ at
  held-past k at a o n = omega (
    arith,
    offsets l b h.frames (holds-reads l b h) k a,
    place-ge (start l.slots) h.frames k (is_held k at a o n),
  )

  -- and ends within the frames
  pub held-within : (k at : ℕ) → k < l.slots → at ≡ offset_at b k → (at ≡ 0 → ⊥) → at + (size_of k) ≤ word_at b 2
  held-within k at a o n = omega (
    arith,
    offsets l b h.frames (holds-reads l b h) k a,
    place_in (start l.slots) h.frames k tiling.sound
        (is_held k at a o n),
    tiling.ends,
  )

-- a step that leaves the list leaves the bytes
pub stay : (l : Layout) (b : List ℕ) (B : Bytes b) (h : Holds l b) (s : List ℕ → ℕ → List (List ℕ) → Turn) (o : List ℕ) (a : Answer) (x : List ℕ)
    → s o (room_of l (length b)) h.frames ≡ record { answer = a; output = x; frames = h.frames } → Gives (call l s o b) a x b
stay l b B h s o a x e = accept l s o b h (record { answer = a; output = x; frames = h.frames }) b e (is-image l b B h)

-- no offset of a book is past what a buffer can have
pub low-offsets : (l : Layout) (b : List ℕ) (B : Bytes b) (h : Holds l b) → Low l.slots b
low-offsets l b B h = record { low = λ s a. go s a (held s h.frames) refl }
  where
    r : Reads l b h.frames
    r = holds-reads l b h

    go : (s : ℕ) → s < l.slots → (t : Bool) → held s h.frames ≡ t → offset_at b s ≤ longest
    go s a true w = omega (
      arith,
      offsets l b h.frames r s a,
      place_in (start l.slots) h.frames s (tiling l b B h).sound w,
      end_is l b B h,
      r.high,
      r.big,
    )
    go s a false w = omega (arith, offsets l b h.frames r s a, place_none (start l.slots) h.frames s w)
