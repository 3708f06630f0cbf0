-- Ask and replay: what they write is laid over the front of the output (`lay`), a frame or the reel of the list; and what they return
-- (`ask-..`, `replay-..`).
-- Assumes nothing.
use mathlib.Core.Path.{ap, ap₂, refl, subst, sym, ◌∙◌, ◌≡◌}
use mathlib.Core.Bool.{Bool, cond, false, false≢true, true}
use mathlib.Core.List.{List, [], append_assoc, ◌++◌, ◌∷◌}
use Prim.Native.Nat.{suc, zero, ℕ, ◌+◌, ◌-◌, ◌<◌, ◌≤◌}
use native.Mathlib.Numerals.{add-one}
use native.Mathlib.Omega.{arith}
use borrow.Author.Tests.{eqb-true, le-leb, le-ltb, lt-leb, lt-ltb}
use lib.Dec.{eqb}
use lib.ListN.{drop, get_or, length, length-append, length-drop, length-set, replicate, set, take, take-append-drop}
use lib.Seq.{drop-append-add, drop-append-le, drop-drop, length-paste, length-take-le, paste, set_split, take-append-le, take_at, take-length}
use Rattle.refusal.specs.declared.Refusal.TheVariants.{NotAKind, NotHeld, OutputShort}
use Rattle.reel.specs.Reel.{reel_of}
use Rattle.spans.specs.Spans.{written}
use Rattle.spans.proofs.Spans.{written-fits}
use Rattle.std.specs.Prelude.{Ok, Err}
use Rattle.table.specs.Table.{settings}
use Rattle.settings.specs.Settings.{size_of, slot_for, slot_of}
use Rattle.settings.proofs.Settings.{slot_of-length}
use Rattle.contents.specs.Frames.{flat, held, place}
use Rattle.contents.specs.Contents.{Layout, frames_from, header, holds, image, length_at, offset_at, offset_for, room_of, slot_at, start, word_at}
use Rattle.contents.proofs.Shape.{Sound, place-from, place_in, place-shift}
use Rattle.contents.proofs.Judged.{Bytes, Split, frames_from-none, frames_from-split, offsets}
use Rattle.contents.proofs.Offsets.{offset-among, offset-slot}
use Rattle.contents.proofs.Headers.{header-length}
use Rattle.contents.proofs.Loops.{minus-end, minus-step, slot-fits}
use Rattle.book.specs.Plain.{ask_on, frame_of, refuse, replay_on, tell}
use Rattle.book.specs.Book.{call}
use Rattle.book.proofs.Known.{count-is, end_is, held-within, is_held, is-image, none-held, stay, tiling}
use Rattle.book.specs.Edits.{Tiles, reel_from}
use Rattle.book.proofs.Calls.{Gives, Holds, holds-reads}

-- s laid over o from w on
abbrev lay : List ℕ → ℕ → List ℕ → List ℕ
lay o w s = take w o ++ (s ++ drop (w + length s) o)

paste-lay : (o : List ℕ) (w : ℕ) (s : List ℕ) (n : ℕ) → length s ≡ n → paste o w s n ≡ lay o w s
paste-lay o w s n e =
    subst (λ (m : ℕ). paste o w s m ≡ lay o w s) e
    (ap (λ (x : List ℕ). take w o ++ x ++ drop (w + length s) o) (take-length s) ∙ append_assoc (take w o) s (drop (w + length s) o))

lay-lay : (o : List ℕ) (w : ℕ) (s t : List ℕ) → w + length s ≤ length o → lay (lay o w s) (w + length s) t ≡ lay o w (s ++ t)
lay-lay o w s t h =
    ap₂ (λ (x y : List ℕ). x ++ (t ++ y)) front back
    ∙ append_assoc (take w o) s (t ++ drop (w + length (s ++ t)) o)
    ∙ ap (λ (x : List ℕ). take w o ++ x) (sym (append_assoc s t (drop (w + length (s ++ t)) o)))
  where
    len : length (take w o ++ s) ≡ w + length s
    len = length-append (take w o) s ∙ ap (λ (x : ℕ). x + length s) (length-take-le w o (omega arith))

    grouped : take w o ++ (s ++ drop (w + length s) o) ≡ (take w o ++ s) ++ drop (w + length s) o
    grouped = sym (append_assoc (take w o) s (drop (w + length s) o))

    front : take (w + length s) (take w o ++ (s ++ drop (w + length s) o)) ≡ take w o ++ s
    front = ap (take (w + length s)) grouped ∙ take_at (take w o ++ s) (drop (w + length s) o) (w + length s) len

    back : drop (w + length s + length t) (take w o ++ (s ++ drop (w + length s) o)) ≡ drop (w + length (s ++ t)) o
    back =
        ap (drop (w + length s + length t)) grouped
        ∙ ap (λ (i : ℕ). drop i ((take w o ++ s) ++ drop (w + length s) o)) i
        ∙ drop-append-add (take w o ++ s) (drop (w + length s) o) (length t)
        ∙ drop-drop (length t) (w + length s) o
        ∙ ap (λ (n : ℕ). drop n o) j
      where
        i : w + length s + length t ≡ length (take w o ++ s) + length t
        i = omega (arith, len)

        j : w + length s + length t ≡ w + length (s ++ t)
        j = omega (arith, length-append s t)

set-lay : (o : List ℕ) (w v : ℕ) → w < length o → set o w v ≡ lay o w (v ∷ [])
set-lay o w v h = set_split o w v h ∙ ap (λ (n : ℕ). take w o ++ v ∷ drop n o) (sym (add-one w))

-- ---- tell

tell-fits : (x o : List ℕ) (fs : List (List ℕ)) (n : ℕ) → length x ≡ n → n ≤ length o
    → tell x o fs ≡ record { answer = Ok n; output = lay o 0 x; frames = fs }
tell-fits x o fs n e h =
    subst (λ (m : ℕ). tell x o fs ≡ record { answer = Ok m; output = lay o 0 x; frames = fs }) e
    (rw (le-leb (length x) (length o) (omega arith)) (ap (λ (i : ℕ). record { answer = Ok (length x); output = x ++ drop i o; frames = fs }) (z (length x))))
  where
    z : (n : ℕ) → n ≡ 0 + n
    z n = omega arith

tell-short : (x o : List ℕ) (fs : List (List ℕ)) → length o < length x → tell x o fs ≡ refuse OutputShort o fs
tell-short x o fs h = rw (lt-leb (length x) (length o) h)

-- ---- ask

frame-flat : (k : ℕ) (fs : List (List ℕ)) → Sound fs → held k fs ≡ true → take (size_of k) (drop (place 0 fs k) (flat fs)) ≡ frame_of k fs
unfolding flat held place frame_of
frame-flat k [] s h = absurd (false≢true h)
frame-flat k (g ∷ fs) s h = go (frame-flat k fs s.2) (eqb (slot_of g) k) refl h
  where
    go : (held k fs ≡ true → take (size_of k) (drop (place 0 fs k) (flat fs)) ≡ frame_of k fs) → (t : Bool) → eqb (slot_of g) k ≡ t
        → cond t true (held k fs) ≡ true
        → take (size_of k) (drop (cond t 0 (place (0 + length g) fs k)) (g ++ flat fs)) ≡ cond t g (frame_of k fs)
    go ih true e q = take_at g (flat fs) (size_of k) (omega (arith, slot_of-length g s.0, ap size_of (eqb-true (slot_of g) k e)))
    go ih false e q = ap (λ (i : ℕ). take (size_of k) (drop i (g ++ flat fs))) i ∙ ap (take (size_of k)) (drop-append-add g (flat fs) (place 0 fs k)) ∙ ih q
      where
        i : place (0 + length g) fs k ≡ length g + place 0 fs k
        i = omega (arith, place-shift (length g) 0 fs k q)

frame-image : (l : Layout) (n k : ℕ) (fs : List (List ℕ)) → Sound fs → held k fs ≡ true
    → take (size_of k) (drop (place (start l.slots) fs k) (image l n fs)) ≡ frame_of k fs
unfolding image
frame-image l n k fs s h =
    ap (λ (i : ℕ). take (size_of k) (drop i (header l fs ++ (flat fs ++ Z)))) i
    ∙ ap (take (size_of k)) (drop-append-add (header l fs) (flat fs ++ Z) (place 0 fs k)
    ∙ drop-append-le (place 0 fs k) (flat fs) Z (omega (arith, place_in 0 fs k s h)))
    ∙ take-append-le (size_of k) (drop (place 0 fs k) (flat fs)) Z (omega (arith, place_in 0 fs k s h, length-drop (place 0 fs k) (flat fs)))
    ∙ frame-flat k fs s h
  where
    Z : List ℕ
    Z = replicate (n - (start l.slots + length (flat fs))) 0

    i : place (start l.slots) fs k ≡ length (header l fs) + place 0 fs k
    i = omega (arith, place-from (start l.slots) fs k h, header-length l fs)

module _ (k s : ℕ) (own : s ≡ slot_for k) (o : List ℕ) (n : ℕ) (fs : List (List ℕ)) where
  ask_on-none : settings ≤ s → ask_on k o n fs ≡ refuse NotAKind o fs
  unfolding ask_on
  ask_on-none a = rw (← own, le-ltb _ _ a)

  ask_on-absent : s < settings → held s fs ≡ false → ask_on k o n fs ≡ refuse NotHeld o fs
  unfolding ask_on
  ask_on-absent a h = rw (← own, lt-ltb _ _ a, h)

  ask_on-held : s < settings → held s fs ≡ true → ask_on k o n fs ≡ tell (frame_of s fs) o fs
  unfolding ask_on
  ask_on-held a h = rw (← own, lt-ltb _ _ a, h)

module _ (l : Layout) (b : List ℕ) (B : Bytes b) (h : Holds l b) (o : List ℕ) (k s : ℕ) (own : s ≡ slot_for k) where
  pub ask-none : settings ≤ s → Gives (call l (ask_on k) o b) (Err NotAKind) o b
  ask-none a = stay l b B h (ask_on k) o (Err NotAKind) o (ask_on-none k s own o (room_of l (length b)) h.frames a)

  module _ (a : s < settings) (at : ℕ) (told : at ≡ offset_for l.slots b s) where
    pub ask-absent : at ≡ 0 → Gives (call l (ask_on k) o b) (Err NotHeld) o b
    ask-absent z = stay l b B h (ask_on k) o (Err NotHeld) o (ask_on-absent k s own o (room_of l (length b)) h.frames a (none-held l b B h s at told z))

    module _ (n : at ≡ 0 → ⊥) where
      -- a slot that has an offset is among the layout's
      among : s < l.slots
      among = offset-slot l.slots b s (λ z. n (told ∙ z))

      stands : at ≡ offset_at b s
      stands = told ∙ offset-among l.slots b s among

      pub ask-inside : at + size_of s ≤ length b
      ask-inside = omega (arith, held-within l b B h s at among stands n, (holds-reads l b h).high)

      frame_at : take (size_of s) (drop at b) ≡ frame_of s h.frames
      frame_at =
          ap₂ (λ (i : ℕ) (y : List ℕ). take (size_of s) (drop i y)) (stands ∙ offsets l b h.frames (holds-reads l b h) s among) (is-image l b B h)
          ∙ frame-image l (length b) s h.frames (tiling l b B h).sound (is_held l b B h s at among stands n)

      frame-length : at + (size_of s) ≤ length b → length (frame_of s h.frames) ≡ size_of s
      frame-length r = ap length (sym frame_at) ∙ length-take-le (size_of s) (drop at b) (omega (arith, length-drop at b))

      pub ask-short : at + (size_of s) ≤ length b → length o < size_of s → Gives (call l (ask_on k) o b) (Err OutputShort) o b
      ask-short r w =
          stay l b B h (ask_on k) o (Err OutputShort) o
          (ask_on-held k s own o (room_of l (length b)) h.frames a (is_held l b B h s at among stands n)
          ∙ tell-short (frame_of s h.frames) o h.frames (omega (arith, frame-length r)))

      pub ask-done : (x r : List ℕ) → at + (size_of s) ≤ length b → size_of s ≤ length o → r ≡ take (at + (size_of s) - at) (drop at b) → x ≡ written o 0 r
          → Gives (call l (ask_on k) o b) (Ok (size_of s)) x b
      ask-done x r i w e p =
          stay l b B h (ask_on k) o (Ok (size_of s)) x
          (ask_on-held k s own o (room_of l (length b)) h.frames a (is_held l b B h s at among stands n)
          ∙ tell-fits (frame_of s h.frames) o h.frames (size_of s) (frame-length i) w
          ∙ ap (λ (y : List ℕ). record { answer = Ok (size_of s); output = y; frames = h.frames })
          (sym (p ∙ written-fits o 0 r (omega (arith, size)) ∙ paste-lay o 0 r (length r) refl
          ∙ ap (lay o 0) (e ∙ ap (λ (n : ℕ). take n (drop at b)) (c at (size_of s)) ∙ frame_at))))
        where
          c : (x y : ℕ) → x + y - x ≡ y
          c x y = omega arith

          size : length r ≡ size_of s
          size = ap length e ∙ length-take-le (at + size_of s - at) (drop at b) (omega (arith, length-drop at b)) ∙ c at (size_of s)

-- ---- replay

pub reel-length : (fs : List (List ℕ)) → length (reel_of fs) ≡ length (flat fs) + length fs
unfolding reel_of flat
reel-length [] = refl
reel-length (f ∷ fs) = omega (arith, reel-length fs, length-append f (reel_of fs), length-append f (flat fs))

pub reel_from-step : (m n : ℕ) (b : List ℕ) (p e w i l : ℕ) (o : List ℕ) → i < n → l ≡ length_at m b p e
    → reel_from m (n - i) b p e w o ≡ reel_from m (n - (i + 1)) b (p + l) e (w + 1 + l) (paste (set o w l) (w + 1) (take l (drop p b)) l)
unfolding reel_from
reel_from-step m n b p e w i l o h q = ap (λ (x : ℕ). reel_from m x b p e w o) (minus-step n i h)
    ∙ ap (λ (x : ℕ). reel_from m (n - (i + 1)) b (p + x) e (w + 1 + x) (paste (set o w x) (w + 1) (take x (drop p b)) x)) (sym q)

pub reel_from-end : (m n : ℕ) (b : List ℕ) (p e w i : ℕ) (o : List ℕ) → n ≤ i → reel_from m (n - i) b p e w o ≡ o
unfolding reel_from
reel_from-end m n b p e w i o h = ap (λ (x : ℕ). reel_from m x b p e w o) (minus-end n i h)

reel-lay : (m c : ℕ) (b : List ℕ) (p e : ℕ) (fs : List (List ℕ)) (w : ℕ) (o : List ℕ) → frames_from m c b p e ≡ holds fs → w + length (reel_of fs) ≤ length o
    → reel_from m c b p e w o ≡ lay o w (reel_of fs)
unfolding reel_from reel_of
reel-lay m zero b p e fs w o h r = subst (λ (x : List (List ℕ)). o ≡ lay o w (reel_of x)) (frames_from-none m b p e fs h)
    (sym (ap (λ (n : ℕ). take w o ++ drop n o) (z w) ∙ take-append-drop w o))
  where
    z : (w : ℕ) → w + 0 ≡ w
    z w = omega arith
reel-lay m (suc c) b p e fs w o h r =
    reel-lay m c b (p + l) e S.rest (w + 1 + l) o2 S.reads (omega (arith, kept, total, length-append f R, S.long))
    ∙ ap₂ (λ (x : List ℕ) (i : ℕ). lay x i R) laid i
    ∙ lay-lay o w (l ∷ f) R (omega (arith, total, length-append f R, S.long))
    ∙ ap (λ (x : ℕ). lay o w (x ∷ (f ++ R))) (sym S.long)
    ∙ ap (λ (x : List (List ℕ)). lay o w (reel_of x)) (sym S.whole)
  where
    l : ℕ
    l = length_at m b p e

    f : List ℕ
    f = take (length_at m b p e) (drop p b)

    S : Split m c b p e fs
    S = frames_from-split m c b p e fs h

    R : List ℕ
    R = reel_of S.rest

    total : length (reel_of fs) ≡ suc (length (f ++ R))
    total = ap (λ (x : List (List ℕ)). length (reel_of x)) S.whole

    o2 : List ℕ
    o2 = paste (set o w (length_at m b p e)) (w + 1) (take (length_at m b p e) (drop p b)) (length_at m b p e)

    kept : length o2 ≡ length o
    kept = length-paste (set o w l) (w + 1) f l (simp length-set (omega (arith, total, length-append f R, S.long))) (omega (arith, S.long)) ∙ length-set o w l

    laid : o2 ≡ lay o w (l ∷ f)
    laid =
        paste-lay (set o w l) (w + 1) f l S.long
        ∙ ap (λ (x : List ℕ). lay x (w + 1) f) (set-lay o w l (omega (arith, total, length-append f R, S.long)))
        ∙ lay-lay o w (l ∷ []) f (omega (arith, total, length-append f R, S.long))

    i : w + 1 + l ≡ w + suc (length f)
    i = omega (arith, S.long)

module _ (l : Layout) (b : List ℕ) (B : Bytes b) (h : Holds l b) (o : List ℕ) (c e : ℕ) (qc : c ≡ get_or b 1 0) (qe : e ≡ word_at b 2) where
  size : length (reel_of h.frames) ≡ e - start l.slots + c
  size = omega (arith, reel-length h.frames, end_is l b B h, count-is l b B h)

  pub replay-short : length o < e - start l.slots + c → Gives (call l replay_on o b) (Err OutputShort) o b
  unfolding replay_on
  replay-short w = stay l b B h replay_on o (Err OutputShort) o (tell-short (reel_of h.frames) o h.frames (omega (arith, size)))

  pub replay-done : (x : List ℕ) → e - start l.slots + c ≤ length o → x ≡ reel_from l.slots c b (start l.slots) e 0 o
      → Gives (call l replay_on o b) (Ok (e - start l.slots + c)) x b
  unfolding replay_on
  replay-done x w p =
      stay l b B h replay_on o (Ok (e - start l.slots + c)) x
      (tell-fits (reel_of h.frames) o h.frames (e - start l.slots + c) size w
      ∙ ap (λ (y : List ℕ). record { answer = Ok (e - start l.slots + c); output = y; frames = h.frames })
      (sym (p ∙ reel-lay l.slots c b (start l.slots) e h.frames 0 o
      (ap₂ (λ (i j : ℕ). frames_from l.slots i b (start l.slots) j) qc qe ∙ (holds-reads l b h).tiled) (omega (arith, size)))))

-- ---- a part of a slice, as the code lends it

pub part-plain : (b : List ℕ) (p n : ℕ) → take (p + n - p) (drop p b) ≡ take n (drop p b)
part-plain b p n = ap (λ (i : ℕ). take i (drop p b)) (c p n)
  where
    c : (x y : ℕ) → x + y - x ≡ y
    c x y = omega arith

pub part-size : (b : List ℕ) (p n : ℕ) → p + n ≤ length b → length (take (p + n - p) (drop p b)) ≡ n
part-size b p n h = ap length (part-plain b p n) ∙ length-take-le n (drop p b) (omega (arith, length-drop p b))

pub part-put : (b : List ℕ) (p n : ℕ) (o : List ℕ) (w : ℕ) → p + n ≤ length b
    → w + n ≤ length o → written o w (take (p + n - p) (drop p b)) ≡ paste o w (take n (drop p b)) n
part-put b p n o w h r =
    written-fits o w (take (p + n - p) (drop p b)) (omega (arith, part-size b p n h))
    ∙ ap₂ (λ (s : List ℕ) (i : ℕ). paste o w s i) (part-plain b p n) (part-size b p n h)

-- one frame less to write
pub record Onward (m k : ℕ) (b : List ℕ) (p e n : ℕ) : Type 0 where
  pub same : n ≡ length_at m b p e
  pub ends : p + n ≤ e
  pub rest : Tiles m k b (p + n) e

pub tiles-step : (m c i : ℕ) (b : List ℕ) (p e n : ℕ) → i < c → start m ≤ length b → n ≡ size_of (slot_at m b p) → Tiles m (c - i) b p e
    → Onward m (c - (i + 1)) b p e n
tiles-step m c i b p e n h fits en t =
    let k : c - i ≡ suc (c - (i + 1)) = omega arith in
    let s = frames_from-split m (c - (i + 1)) b p e t.frames (ap (λ (x : ℕ). frames_from m x b p e) (sym k) ∙ t.reads) in
    let q : n ≡ length_at m b p e = en ∙ ap size_of (slot-fits m b p fits) ∙ sym s.sized in
    record {
      same = q;
      ends = omega (arith, s.ends);
      rest = record { frames = s.rest; reads = ap (λ (x : ℕ). frames_from m (c - (i + 1)) b (p + x) e) q ∙ s.reads };
    }
