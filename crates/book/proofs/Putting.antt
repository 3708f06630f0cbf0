-- A put as edits of a book's bytes: a paste in place gives the image of the list after the put (`over-image`), as a swap does (proofs/Swapping.antt)
-- and a frame behind the others (`append-image` of `filling`); and what `put` returns (`put-..`).
-- Assumes nothing.
use mathlib.Core.Path.{ap, ap₂, refl, subst, sym, ◌∙◌, ◌≡◌}
use mathlib.Core.Bool.{Bool, cond, false, true}
use mathlib.Core.List.{List, [], append_assoc, ◌++◌, ◌∷◌}
use Prim.Native.Nat.{ℕ, ◌%◌, ◌+◌, ◌-◌, ◌/◌, ◌<◌, ◌≤◌}
use native.Mathlib.Omega.{arith}
use borrow.Author.Tests.{eqb-true, le-leb, le-ltb, lt-leb, lt-ltb}
use lib.Dec.{eqb}
use lib.ListN.{drop, length, length-append, replicate, take}
use lib.Seq.{paste, take-length}
use Rattle.refusal.specs.declared.Refusal.{Refusal}
use Rattle.spans.specs.Spans.{written}
use Rattle.spans.proofs.Spans.{written-fits}
use Rattle.refusal.specs.declared.Refusal.TheVariants.{NoRoom}
use Rattle.decoder.specs.Decoding.{decode}
use Rattle.std.specs.Prelude.{Ok, Err}
use Rattle.table.specs.Table.{settings}
use Rattle.settings.specs.Settings.{lacks, size_of, slot_of}
use Rattle.settings.proofs.Settings.{slot_of-length}
use Rattle.contents.specs.Frames.{flat, held, place}
use Rattle.contents.specs.Contents.{Layout, header, image, offset_at, room_of, start, word_at}
use Rattle.contents.proofs.Shape.{Sound, place-from, place_in}
use Rattle.contents.proofs.Judged.{Bytes, offsets}
use Rattle.contents.proofs.Headers.{header-length, words-cong}
use Rattle.filling.specs.Filling.{appended_to}
use Rattle.filling.proofs.Pieces.{paste-left, paste-right}
use Rattle.contents.proofs.Lists.{flat_append}
use Rattle.filling.proofs.Filling.{append-image}
use Rattle.forms.specs.Forms.{other}
use Rattle.book.specs.Plain.{become, placed, put_on, refuse, swap_in}
use Rattle.book.specs.Book.{call}
use Rattle.book.specs.Edits.{swapped}
use Rattle.book.proofs.Known.{count-few, count-is, end_is, held-within, is_held, is-image, not-held, stay, tiling}
use Rattle.book.proofs.Calls.{Gives, Holds, accept, holds-reads}
use Rattle.book.proofs.Placed.{placed-last, placed-over, placed-swap}
use Rattle.book.proofs.Swapping.{swap-flat, swap-length, swap-room, swapped-image}

-- ---- in place

module _ (k : ℕ) (f : List ℕ) (own : slot_of f ≡ k) (len : length f ≡ size_of k) where
  over-place : (p : ℕ) (fs : List (List ℕ)) → Sound fs → (j : ℕ) → place p (swap_in k f fs) j ≡ place p fs j
  unfolding swap_in place
  over-place p [] s j = refl
  over-place p (g ∷ fs) s j = go (over-place (p + length g) fs s.2 j) (eqb (slot_of g) k) refl
    where
      go : place (p + length g) (swap_in k f fs) j ≡ place (p + length g) fs j → (t : Bool) → eqb (slot_of g) k ≡ t
          → place p (cond t (f ∷ fs) (g ∷ swap_in k f fs)) j ≡ cond (eqb (slot_of g) j) p (place (p + length g) fs j)
      go ih true e =
          ap₂ (λ (x y : ℕ). cond (eqb x j) p (place (p + y) fs j)) (own ∙ sym (eqb-true _ _ e))
          (len ∙ ap (λ (x : ℕ). size_of x) (sym (eqb-true (slot_of g) k e)) ∙ sym (slot_of-length g s.0))
      go ih false e = ap (λ (x : ℕ). cond (eqb (slot_of g) j) p x) ih

  module _ (fs : List (List ℕ)) (s : Sound fs) (h : held k fs ≡ true) where
    over-flat : flat (swap_in k f fs) ≡ paste (flat fs) (place 0 fs k) f (length f)
    over-flat =
        swap-flat k f fs s h
        ∙ sym (append_assoc (take (place 0 fs k) (flat fs)) f (drop (place 0 fs k + size_of k) (flat fs)))
        ∙ ap₂ (λ (x : List ℕ) (n : ℕ). (take (place 0 fs k) (flat fs) ++ x) ++ drop (place 0 fs k + n) (flat fs)) (sym (take-length f)) (sym len)

    pub over-room : length (flat (swap_in k f fs)) ≡ length (flat fs)
    over-room = omega (arith, swap-room k f fs s h, len, place_in 0 fs k s h)

header-swap : (l : Layout) (k : ℕ) (f : List ℕ) → slot_of f ≡ k → length f ≡ size_of k → (fs : List (List ℕ)) → Sound fs
    → length (flat (swap_in k f fs)) ≡ length (flat fs) → header l (swap_in k f fs) ≡ header l fs
unfolding header
header-swap l k f own len fs s e =
    ap₂ (λ (c : ℕ) (r : List ℕ). l.version ∷ c ∷ r) (swap-length k f fs)
    (ap₂ (λ (x : ℕ) (r : List ℕ). (start l.slots + x) / 256 ∷ (start l.slots + x) % 256 ∷ r) e
    (words-cong l.slots 0 (place (start l.slots) (swap_in k f fs)) (place (start l.slots) fs)
    (λ j a b. over-place k f own len (start l.slots) fs s j)))

pub over-image : (l : Layout) (n k : ℕ) (f : List ℕ) (fs : List (List ℕ)) → slot_of f ≡ k → length f ≡ size_of k → Sound fs → held k fs ≡ true
    → paste (image l n fs) (place (start l.slots) fs k) f (length f) ≡ image l n (swap_in k f fs)
unfolding image
over-image l n k f fs own len s h =
    ap (λ (i : ℕ). paste (header l fs ++ (flat fs ++ z)) i f (length f)) at
    ∙ paste-right (header l fs) (flat fs ++ z) (place 0 fs k) f (length f)
    ∙ ap (λ (r : List ℕ). header l fs ++ r) (paste-left (flat fs) z (place 0 fs k) f (length f) room)
    ∙ ap₂ (λ (r u : List ℕ). r ++ (u ++ z)) (sym (header-swap l k f own len fs s same)) (sym body)
    ∙ ap (λ (m : ℕ). header l (swap_in k f fs) ++ (flat (swap_in k f fs) ++ replicate (n - (start l.slots + m)) 0)) (sym same)
  where
    z : List ℕ
    z = replicate (n - (start l.slots + length (flat fs))) 0

    at : place (start l.slots) fs k ≡ length (header l fs) + place 0 fs k
    at = omega (arith, place-from (start l.slots) fs k h, header-length l fs)

    room : place 0 fs k + length f ≤ length (flat fs)
    room = omega (arith, place_in 0 fs k s h)

    body : flat (swap_in k f fs) ≡ paste (flat fs) (place 0 fs k) f (length f)
    body = over-flat k f own len fs s h

    same : length (flat (swap_in k f fs)) ≡ length (flat fs)
    same = over-room k f own len fs s h

-- ---- what a put answers

module _ (f o : List ℕ) (n : ℕ) (fs : List (List ℕ)) where
  put_on-bad : settings ≤ slot_of f → put_on f o n fs ≡ refuse (lacks (decode f)) o fs
  unfolding put_on
  put_on-bad a = rw (le-ltb _ _ a)

  -- the list after the put fits the room, or it does not
  module _ (a : slot_of f < settings) (gs : List (List ℕ)) (e : placed f fs ≡ gs) where
    pub put_on-fits : length (flat gs) ≤ n → put_on f o n fs ≡ become o gs
    unfolding put_on
    put_on-fits r = rw (lt-ltb _ _ a, e, le-leb _ _ r)

    pub put_on-full : n < length (flat gs) → put_on f o n fs ≡ refuse NoRoom o fs
    unfolding put_on
    put_on-full r = rw (lt-ltb _ _ a, e, lt-leb _ _ r)

module _ (l : Layout) (b : List ℕ) (B : Bytes b) (h : Holds l b) (f : List ℕ) (k : ℕ) (own : k ≡ slot_of f) where
  pub put-bad : settings ≤ k → (x : Refusal) → lacks (decode f) ≡ x → Gives (call l (put_on f) [] b) (Err x) [] b
  put-bad a x e =
      stay l b B h (put_on f) [] (Err x) []
      (put_on-bad f [] (room_of l (length b)) h.frames (omega arith) ∙ ap (λ (y : Refusal). refuse y [] h.frames) e)

  module _ (a : k < settings) (am : k < l.slots) (at : ℕ) (o : at ≡ offset_at b k) where
    frame-len : length f ≡ size_of k
    frame-len = slot_of-length f (omega arith) ∙ ap (λ (x : ℕ). size_of x) (sym own)

    pub put-room : (at ≡ 0 → ⊥) → at + length f ≤ length b
    put-room n = omega (arith, frame-len, held-within l b B h k at am o n, (holds-reads l b h).high)

    pub put-over : (y : List ℕ) → (at ≡ 0 → ⊥) → y ≡ written b at f → Gives (call l (put_on f) [] b) (Ok 0) [] y
    put-over y n e =
        accept l (put_on f) [] b h (become [] (swap_in (slot_of f) f h.frames)) y
        (put_on-fits f [] (room_of l (length b)) h.frames (omega arith) _ (placed-over f h.frames hf)
        (omega (
          arith,
          over-room (slot_of f) f refl (slot_of-length f (omega arith)) h.frames (tiling l b B h).sound hf,
          end_is l b B h,
          (holds-reads l b h).high,
        )))
        (e
        ∙ written-fits b at f (put-room n)
        ∙ ap₂ (λ (x : List ℕ) (i : ℕ). paste x i f (length f)) (is-image l b B h) (o ∙ offsets l b h.frames (holds-reads l b h) k am)
        ∙ over-image l (length b) k f h.frames (sym own) frame-len (tiling l b B h).sound hk
        ∙ ap (λ (i : ℕ). image l (length b) (swap_in i f h.frames)) own)
      where
        hk : held k h.frames ≡ true
        hk = is_held l b B h k at am o n

        hf : held (slot_of f) h.frames ≡ true
        hf = subst (λ (x : ℕ). held x h.frames ≡ true) own hk

-- a frame f, of a slot k that a book's bytes b do not hold; its other form has the slot t with the offset at, and the frames end at e
pub record New (l : Layout) (b f : List ℕ) (k t at e : ℕ) : Type 0 where
  pub own : k ≡ slot_of f
  pub small : k < settings
  pub among : k < l.slots
  pub absent : 0 ≡ offset_at b k
  pub twin : t ≡ other k
  pub twin-among : t < l.slots
  pub stands : at ≡ offset_at b t
  pub ends : e ≡ word_at b 2

module _ (l : Layout) (b : List ℕ) (B : Bytes b) (h : Holds l b) (f : List ℕ) (k t at e : ℕ) (N : New l b f k t at e) where
  twin-is : t ≡ other (slot_of f)
  twin-is = N.twin ∙ ap other N.own

  fresh : held (slot_of f) h.frames ≡ false
  fresh = ap (λ (x : ℕ). held x h.frames) (sym N.own) ∙ not-held l b B h k 0 N.among N.absent refl

  -- the other form is not held either: the frame goes behind the others
  module _ (z : at ≡ 0) where
    behind : placed f h.frames ≡ h.frames ++ (f ∷ [])
    behind = placed-last f h.frames fresh (ap (λ (x : ℕ). held x h.frames) (sym twin-is) ∙ not-held l b B h t at N.twin-among N.stands z)

    more : length (flat (h.frames ++ (f ∷ []))) ≡ length (flat h.frames) + length f
    more = ap length (flat_append h.frames f) ∙ length-append (flat h.frames) f

    pub put_full : length b - e < length f → Gives (call l (put_on f) [] b) (Err NoRoom) [] b
    put_full r = stay l b B h (put_on f) [] (Err NoRoom) []
        (put_on-full f [] (room_of l (length b)) h.frames (omega (arith, N.own, N.small)) _ behind
        (omega (arith, more, N.ends, end_is l b B h, (holds-reads l b h).high)))

    pub put-app : (y : List ℕ) → l.slots < 255 → length f ≤ length b - e → y ≡ appended_to l.slots k f b → Gives (call l (put_on f) [] b) (Ok 0) [] y
    put-app y few r p =
        accept l (put_on f) [] b h (become [] (h.frames ++ (f ∷ []))) y
        (put_on-fits f [] (room_of l (length b)) h.frames (omega (arith, N.own, N.small)) _ behind (omega (arith, more, room)))
        (p
        ∙ ap₂ (λ (s : ℕ) (x : List ℕ). appended_to l.slots s f x) N.own (is-image l b B h)
        ∙ append-image l (length b) f h.frames (holds-reads l b h).big (omega (arith, N.own, N.small)) fresh (omega (arith, N.own, N.among))
        (omega (arith, count-is l b B h, count-few l b B h)) room)
      where
        room : start l.slots + length (flat h.frames) + length f ≤ length b
        room = omega (arith, N.ends, end_is l b B h, (holds-reads l b h).high)

  -- it is held: the frame takes its place
  module _ (n : at ≡ 0 → ⊥) where
    twin-held : held t h.frames ≡ true
    twin-held = is_held l b B h t at N.twin-among N.stands n

    instead : placed f h.frames ≡ swap_in (other (slot_of f)) f h.frames
    instead = placed-swap f h.frames fresh (ap (λ (x : ℕ). held x h.frames) (sym twin-is) ∙ twin-held)

    twin-in : size_of t ≤ length (flat h.frames)
    twin-in = omega (arith, place_in 0 h.frames t (tiling l b B h).sound twin-held)

    pub twin-size : size_of t ≤ e
    twin-size = omega (arith, twin-in, N.ends, end_is l b B h)

    after : length (flat (swap_in t f h.frames)) ≡ length (flat h.frames) - size_of t + length f
    after = swap-room t f h.frames (tiling l b B h).sound twin-held

    same : swap_in t f h.frames ≡ swap_in (other (slot_of f)) f h.frames
    same = ap (λ (i : ℕ). swap_in i f h.frames) twin-is

    pub put-tight : length b - (e - size_of t) < length f → Gives (call l (put_on f) [] b) (Err NoRoom) [] b
    put-tight r =
        stay l b B h (put_on f) [] (Err NoRoom) []
        (put_on-full f [] (room_of l (length b)) h.frames (omega (arith, N.own, N.small)) _ (instead ∙ sym same)
        (omega (arith, r, N.ends, after, twin-in, end_is l b B h, (holds-reads l b h).high)))

    pub put-swap : (y : List ℕ) → length f ≤ length b - (e - size_of t) → y ≡ swapped l.slots b at (size_of t) f k e → Gives (call l (put_on f) [] b) (Ok 0) [] y
    put-swap y r p =
        accept l (put_on f) [] b h (become [] (swap_in t f h.frames)) y
        (put_on-fits f [] (room_of l (length b)) h.frames (omega (arith, N.own, N.small)) _ (instead ∙ sym same)
        (omega (arith, r, N.ends, after, twin-in, end_is l b B h, (holds-reads l b h).high)))
        (p
        ∙ ap (λ (i : ℕ). swapped l.slots b i (size_of t) f k e) (N.stands ∙ offsets l b h.frames (holds-reads l b h) t N.twin-among)
        ∙ ap₂ (λ (s i : ℕ). swapped l.slots b (place (start l.slots) h.frames t) (size_of t) f s i) N.own (N.ends ∙ end_is l b B h)
        ∙ ap (λ (x : List ℕ). swapped l.slots x (place (start l.slots) h.frames t) (size_of t) f (slot_of f)
        (start l.slots + length (flat h.frames))) (is-image l b B h)
        ∙ swapped-image l (length b) t f h.frames (tiling l b B h).sound fresh twin-held (omega (arith, N.own, N.among))
        (omega (arith, end_is l b B h, (holds-reads l b h).high)) (omega (arith, r, N.ends, after, twin-in, end_is l b B h, (holds-reads l b h).high)))
