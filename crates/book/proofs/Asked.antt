-- What each call does with the list that a book holds, whatever its bytes are:
--     put-placed, remove-without, clear_none, ask-held, replay-reel
-- What a caller sees of it by an ask that follows, with no list between:
--     put-ask                      what was put is what an ask gives
--     put-form, put-others         the other form of its setting is then not held; of every other setting an ask gives what it gave
--     remove-ask, remove-others    what was taken out gets 9, and every other setting stays
--     clear-ask, make-ask          every setting gets 9
--     clear-replay, make-replay    and a replay has no bytes
-- And of the two forms, in any book that can be used:
--     form-ask, form-remove        the form that is not held gets 9 where the other one is
--     put-instead, put-over        a put takes the place of the frame that holds its setting, in either form; room is judged on the list after it
-- Assumes nothing.
use mathlib.Core.Path.{ap, refl, subst, sym, ◌∙◌, ◌≡◌}
use mathlib.Core.Bool.{Bool, cond, false, false≢true, true}
use mathlib.Core.List.{List, [], ◌++◌, ◌∷◌}
use mathlib.Core.Logic.{◌⊎◌}
use Prim.Native.Nat.{ℕ, ◌<◌, ◌≤◌}
use native.Mathlib.Omega.{arith}
use borrow.Author.Tests.{le-leb, leb-true, lt-leb, lt-ltb, ltb-true}
use lib.Dec.{eqb, leb, ltb}
use lib.ListN.{drop, length}
use Rattle.refusal.specs.declared.Refusal.TheVariants.{BufferSize, NoRoom, NotAKind, NotHeld}
use Rattle.decoder.specs.Decoding.{decode, reading, sought}
use Rattle.reel.specs.Reel.{reel_of}
use Rattle.table.specs.Table.{action, settings}
use Rattle.table.specs.Laid.{find}
use Rattle.settings.specs.Settings.{lacks, slot_for, slot_in, slot_of}
use Rattle.contents.specs.Frames.{flat, held}
use Rattle.contents.specs.Contents.{Contents, holds, image, longest, refused, room_of, start}
use Rattle.contents.proofs.Judged.{Bytes}
use Rattle.forms.specs.Forms.{other}
use Rattle.forms.proofs.Forms.{other-low}
use Rattle.std.specs.Prelude.{Ok, Err}
use Rattle.book.specs.Plain.{Turn, ask_on, become, clear_on, frame_of, placed, put_on, refuse, remove_on, replay_on, tell, without}
use Rattle.book.specs.Book.{Edit, Outcome, Read, Tells, Use, call_for, layout_in, made, on_contents, opened_for, ours, room_in}
use Rattle.book.specs.History.{Ask, Clear, Make, Put, Remove, Replay, after, turn}
use Rattle.book.proofs.Calls.{Finds, done_refused, opened-forms}
use Rattle.book.proofs.Versions.{opened_for-opened}
use Rattle.book.proofs.Kept.{empty-kept}
use Rattle.book.proofs.History.{opened_for-image}
use Rattle.book.proofs.Placed.{placed-gone}
use Rattle.book.proofs.Laws.{form-nine, frame-slot, placed-instead, placed-newest, placed-others, without_gone, without-others}
use Rattle.book.proofs.Called.{call-turn, edit-leaves, edit-reads, kept, shown_in, stepped}

-- ---- a call, and then an ask

-- a call that is done found the book good
found : (u : Use) (s : List ℕ → ℕ → List (List ℕ) → Turn) (o b : List ℕ) (n : ℕ) → (call_for u s o b).answer ≡ Ok n → Finds (opened_for u b)
unfolding call_for
found u s o b n e = go (opened_for u b) e
  where
    go : (c : Contents) → (on_contents (layout_in b) s o b c).answer ≡ Ok n → Finds c
    go (refused x) q = absurd (done_refused n x (sym q))
    go (holds fs) q = record { frames = fs; opens = refl }

-- an edit where it is accepted
module _ (b : List ℕ) (fs : List (List ℕ)) (h : opened_for Edit b ≡ holds fs) where
  pub put-placed : (f : List ℕ) → slot_of f < settings → length (flat (placed f fs)) ≤ room_in b → after (Put f) b ≡ shown_in b (become [] (placed f fs))
  unfolding turn put_on
  put-placed f a r = rw (call-turn b fs (Put f) h, lt-ltb _ _ a, le-leb _ _ r)

  pub remove-without : (k : ℕ) → slot_for k < settings → held (slot_for k) fs ≡ true → after (Remove k) b ≡ shown_in b (become [] (without (slot_for k) fs))
  unfolding turn remove_on
  remove-without k a w = rw (call-turn b fs (Remove k) h, lt-ltb _ _ a, w)

  pub clear_none : after Clear b ≡ shown_in b (become [] [])
  unfolding turn clear_on
  clear_none = call-turn b fs Clear h

-- a replay of every frame
pub replay-reel : (b : List ℕ) (fs : List (List ℕ)) → opened_for Read b ≡ holds fs → (o : List ℕ) → length (reel_of fs) ≤ length o
    → Tells (after (Replay o) b) (Ok (length (reel_of fs))) (reel_of fs ++ drop (length (reel_of fs)) o)
unfolding turn replay_on
replay-reel b fs h o r = rw (call-turn b fs (Replay o) h, le-leb _ _ r) (refl, refl)

-- an ask where a frame is held, and where none is
module _ (b : List ℕ) (fs : List (List ℕ)) (h : opened_for Read b ≡ holds fs) (k : ℕ) (a : slot_for k < settings) (o : List ℕ) where
  pub ask-held : held (slot_for k) fs ≡ true → length (frame_of (slot_for k) fs) ≤ length o
      → Tells (after (Ask k o) b) (Ok (length (frame_of (slot_for k) fs))) (frame_of (slot_for k) fs ++ drop (length (frame_of (slot_for k) fs)) o)
  unfolding turn ask_on
  ask-held w r =
      let e : after (Ask k o) b ≡ shown_in b (tell (frame_of (slot_for k) fs) o fs) = call-turn b fs (Ask k o) h ∙ rw (lt-ltb _ _ a, w) in
      rw (e, le-leb _ _ r) (refl, refl)

  ask-absent : held (slot_for k) fs ≡ false → (after (Ask k o) b).answer ≡ Err NotHeld
  unfolding turn ask_on
  ask-absent w = rw (call-turn b fs (Ask k o) h, lt-ltb _ _ a, w)

-- ---- a put, and then an ask

-- an accepted put is of a setting's frame, and places it
pub put-accepted : (f o : List ℕ) (room : ℕ) (fs : List (List ℕ)) (n : ℕ) → (put_on f o room fs).answer ≡ Ok n
    → (slot_of f < settings) × ((put_on f o room fs).frames ≡ placed f fs)
unfolding put_on
put-accepted f o room fs n e = by (ltb (slot_of f) settings) refl (leb (length (flat (placed f fs))) room) e
  where
    picked : Bool → Bool → Turn
    picked t u = cond t (cond u (become o (placed f fs)) (refuse NoRoom o fs)) (refuse (lacks (decode f)) o fs)

    by : (t : Bool) → ltb (slot_of f) settings ≡ t → (u : Bool) → (picked t u).answer ≡ Ok n → (slot_of f < settings) × ((picked t u).frames ≡ placed f fs)
    by true w true q = (ltb-true _ _ w, refl)
    by true w false q = absurd (done_refused n NoRoom (sym q))
    by false w u q = absurd (done_refused n (lacks (decode f)) (sym q))

-- no bytes are no setting's frame
empty-slot : slot_of [] ≡ action
unfolding slot_of decode sought find
empty-slot = refl

-- where a list has a frame of a setting's slot the slot is held; so lists that have one frame of it hold it alike
found-held : (s : ℕ) → s < settings → (fs : List (List ℕ)) → slot_of (frame_of s fs) ≡ s → held s fs ≡ true
unfolding held frame_of
found-held s a [] e = absurd (omega (arith, empty-slot))
found-held s a (g ∷ fs) e = by (eqb (slot_of g) s) e (found-held s a fs)
  where
    by : (t : Bool) → slot_of (cond t g (frame_of s fs)) ≡ s → (slot_of (frame_of s fs) ≡ s → held s fs ≡ true) → cond t true (held s fs) ≡ true
    by true q ih = refl
    by false q ih = ih q

held-alike : (s : ℕ) → s < settings → (fs gs : List (List ℕ)) → frame_of s gs ≡ frame_of s fs → held s gs ≡ held s fs
held-alike s a fs gs e = by (held s gs) refl (held s fs) refl
  where
    by : (t : Bool) → held s gs ≡ t → (u : Bool) → held s fs ≡ u → t ≡ u
    by true p true q = refl
    by true p false q = absurd (false≢true (sym q ∙ found-held s a fs (ap slot_of (sym e) ∙ frame-slot s gs p)))
    by false p true q = absurd (false≢true (sym p ∙ found-held s a gs (ap slot_of e ∙ frame-slot s fs q)))
    by false p false q = refl

ask-alike : (k : ℕ) (o : List ℕ) (m n : ℕ) (fs gs : List (List ℕ)) → frame_of (slot_for k) gs ≡ frame_of (slot_for k) fs
    → ((ask_on k o m fs).answer ≡ (ask_on k o n gs).answer) × ((ask_on k o m fs).output ≡ (ask_on k o n gs).output)
unfolding ask_on
ask-alike k o m n fs gs e = by (ltb (slot_for k) settings) refl
  where
    picked : Bool → Bool → List ℕ → List (List ℕ) → Turn
    picked t u f hs = cond t (cond u (tell f o hs) (refuse NotHeld o hs)) (refuse NotAKind o hs)

    alike : (u v : Bool) (f : List ℕ) → leb (length f) (length o) ≡ v
        → ((picked true u f fs).answer ≡ (picked true u f gs).answer) × ((picked true u f fs).output ≡ (picked true u f gs).output)
    alike true true f w = rw w (refl, refl)
    alike true false f w = rw w (refl, refl)
    alike false v f w = (refl, refl)

    by : (t : Bool) → ltb (slot_for k) settings ≡ t
        → ((picked t (held (slot_for k) fs) (frame_of (slot_for k) fs) fs).answer ≡ (picked t (held (slot_for k) gs) (frame_of (slot_for k) gs) gs).answer)
        × ((picked t (held (slot_for k) fs) (frame_of (slot_for k) fs) fs).output ≡ (picked t (held (slot_for k) gs) (frame_of (slot_for k) gs) gs).output)
    by true a =
        rw (held-alike (slot_for k) (ltb-true _ _ a) fs gs e, e)
        (alike (held (slot_for k) fs) (leb (length (frame_of (slot_for k) fs)) (length o)) (frame_of (slot_for k) fs) refl)
    by false a = (refl, refl)

-- two books that have one frame of a slot answer an ask for it alike
module _ (b : List ℕ) (fs : List (List ℕ)) (h : opened_for Edit b ≡ holds fs) (B : Bytes b) (x : List ℕ) (gs : List (List ℕ))
    (w : opened_for Read x ≡ holds gs) (k : ℕ) (e : frame_of (slot_for k) gs ≡ frame_of (slot_for k) fs) (o : List ℕ) where
  ask-same : Tells (after (Ask k o) x) (after (Ask k o) b).answer (after (Ask k o) b).output
  ask-same =
      let p : after (Ask k o) b ≡ shown_in b (ask_on k o (room_in b) fs) = stepped b fs Read (edit-reads b fs h B) (ask_on k) o in
      let q : after (Ask k o) x ≡ shown_in x (ask_on k o (room_in x) gs) = stepped x gs Read w (ask_on k) o in
      let z = ask-alike k o (room_in b) (room_in x) fs gs e in (
        ap (λ (y : Outcome). y.answer) p ∙ z.0 ∙ sym (ap (λ (y : Outcome). y.answer) q),
        ap (λ (y : Outcome). y.output) p ∙ z.1 ∙ sym (ap (λ (y : Outcome). y.output) q),
      )

-- an accepted removal is of a setting's kind, and takes its frame out
remove-accepted : (k : ℕ) (o : List ℕ) (room : ℕ) (fs : List (List ℕ)) (n : ℕ) → (remove_on k o room fs).answer ≡ Ok n
    → (slot_for k < settings) × ((remove_on k o room fs).frames ≡ without (slot_for k) fs)
unfolding remove_on
remove-accepted k o room fs n e = by (ltb (slot_for k) settings) refl (held (slot_for k) fs) e
  where
    picked : Bool → Bool → Turn
    picked t u = cond t (cond u (become o (without (slot_for k) fs)) (refuse NotHeld o fs)) (refuse NotAKind o fs)

    by : (t : Bool) → ltb (slot_for k) settings ≡ t → (u : Bool) → (picked t u).answer ≡ Ok n
        → (slot_for k < settings) × ((picked t u).frames ≡ without (slot_for k) fs)
    by true w true q = (ltb-true _ _ w, refl)
    by true w false q = absurd (done_refused n NotHeld (sym q))
    by false w u q = absurd (done_refused n NotAKind (sym q))

module _ (b f : List ℕ) (n : ℕ) (e : (after (Put f) b).answer ≡ Ok n) where
  was : Finds (opened_for Edit b)
  was = found Edit (put_on f) [] b n e

  accepted : (slot_of f < settings) × ((put_on f [] (room_in b) was.frames).frames ≡ placed f was.frames)
  unfolding turn
  accepted = put-accepted f [] (room_in b) was.frames n (sym (ap (λ (x : Outcome). x.answer) (call-turn b was.frames (Put f) was.opens)) ∙ e)

  put-leaves : (u : Use) → opened_for u (after (Put f) b).bytes ≡ holds (placed f was.frames)
  unfolding turn
  put-leaves u = edit-leaves b was.frames was.opens (Put f) refl u ∙ ap (λ (gs : List (List ℕ)). holds gs) accepted.1

  -- WHAT WAS PUT IS WHAT AN ASK GIVES, for the kind that the frame decodes to
  pub put-ask : (k : ℕ) (vs : List ℕ) → decode f ≡ reading k vs → (o : List ℕ) → length f ≤ length o
      → Tells (after (Ask k o) (after (Put f) b).bytes) (Ok (length f)) (f ++ drop (length f) o)
  unfolding slot_of
  put-ask k vs d o r =
      let own : slot_of f ≡ slot_for k = ap slot_in d in
      let newest : frame_of (slot_for k) (placed f was.frames) ≡ f =
      ap (λ (j : ℕ). frame_of j (placed f was.frames)) (sym own) ∙ placed-newest f was.frames in
      let a : slot_for k < settings = omega (arith, accepted.0) in
      let h = found-held (slot_for k) a (placed f was.frames) (ap slot_of newest ∙ own) in
      subst (λ (g : List ℕ). Tells (after (Ask k o) (after (Put f) b).bytes) (Ok (length g)) (g ++ drop (length g) o)) newest
      (ask-held (after (Put f) b).bytes (placed f was.frames) (put-leaves Read) k a o h (omega (arith, ap length newest)))

  -- the other form of its setting is then not held
  pub put-form : (k : ℕ) → slot_for k ≡ other (slot_of f) → (other (slot_of f) ≡ slot_of f → ⊥) → (o : List ℕ)
      → (after (Ask k o) (after (Put f) b).bytes).answer ≡ Err NotHeld
  put-form k own n o =
      let K = kept b was.frames was.opens in
      ask-absent (after (Put f) b).bytes (placed f was.frames) (put-leaves Read) k (omega (arith, other-low (slot_of f) accepted.0)) o
      (ap (λ (j : ℕ). held j (placed f was.frames)) own ∙ placed-gone f was.frames K.sound K.forms n)

  -- and of every other setting an ask gives what it gave
  pub put-others : Bytes b → (k : ℕ) → (slot_of f ≡ slot_for k → ⊥) → (other (slot_of f) ≡ slot_for k → ⊥) → (o : List ℕ)
      → Tells (after (Ask k o) (after (Put f) b).bytes) (after (Ask k o) b).answer (after (Ask k o) b).output
  put-others B k n m o =
      ask-same b was.frames was.opens B (after (Put f) b).bytes (placed f was.frames) (put-leaves Read) k
      (placed-others f was.frames (slot_for k) n m) o

-- ---- a removal, a clear and a make, and then an ask

module _ (b : List ℕ) (j n : ℕ) (e : (after (Remove j) b).answer ≡ Ok n) where
  had : Finds (opened_for Edit b)
  had = found Edit (remove_on j) [] b n e

  gone : (slot_for j < settings) × ((remove_on j [] (room_in b) had.frames).frames ≡ without (slot_for j) had.frames)
  unfolding turn
  gone = remove-accepted j [] (room_in b) had.frames n (sym (ap (λ (x : Outcome). x.answer) (call-turn b had.frames (Remove j) had.opens)) ∙ e)

  remove-leaves : (u : Use) → opened_for u (after (Remove j) b).bytes ≡ holds (without (slot_for j) had.frames)
  unfolding turn
  remove-leaves u = edit-leaves b had.frames had.opens (Remove j) refl u ∙ ap (λ (gs : List (List ℕ)). holds gs) gone.1

  -- WHAT WAS TAKEN OUT GETS 9
  pub remove-ask : (o : List ℕ) → (after (Ask j o) (after (Remove j) b).bytes).answer ≡ Err NotHeld
  remove-ask o =
      ask-absent (after (Remove j) b).bytes (without (slot_for j) had.frames) (remove-leaves Read) j gone.0 o
      (without_gone (slot_for j) had.frames (kept b had.frames had.opens).sound)

  -- and every other setting stays
  pub remove-others : Bytes b → (k : ℕ) → (slot_for j ≡ slot_for k → ⊥) → (o : List ℕ)
      → Tells (after (Ask k o) (after (Remove j) b).bytes) (after (Ask k o) b).answer (after (Ask k o) b).output
  remove-others B k m o =
      ask-same b had.frames had.opens B (after (Remove j) b).bytes (without (slot_for j) had.frames) (remove-leaves Read) k
      (without-others (slot_for j) (slot_for k) m had.frames) o

-- an empty book has nothing to ask for
module _ (b : List ℕ) (h : opened_for Read b ≡ holds []) (o : List ℕ) where
  empty-ask : (k : ℕ) → slot_for k < settings → (after (Ask k o) b).answer ≡ Err NotHeld
  unfolding held
  empty-ask k a = ask-absent b [] h k a o refl

  empty-replay : Tells (after (Replay o) b) (Ok 0) o
  unfolding turn replay_on reel_of
  empty-replay = rw (call-turn b [] (Replay o) h, le-leb 0 (length o) (omega arith)) (refl, refl)

-- A CLEAR AND A MAKE LEAVE NOTHING: every setting gets 9, and a replay has no bytes
module _ (b : List ℕ) (n : ℕ) where
  clear-leaves : (after Clear b).answer ≡ Ok n → opened_for Read (after Clear b).bytes ≡ holds []
  unfolding turn clear_on
  clear-leaves e = let w = found Edit clear_on [] b n e in edit-leaves b w.frames w.opens Clear refl Read

  make-leaves : (after Make b).answer ≡ Ok n → opened_for Read (after Make b).bytes ≡ holds []
  unfolding made
  make-leaves e = by (leb (start ours.slots) (length b)) refl (leb (length b) longest) refl e
    where
      no : Outcome
      no = record { answer = Err BufferSize; output = []; bytes = b }

      picked : Bool → Bool → Outcome
      picked t u = cond t (cond u (record { answer = Ok 0; output = []; bytes = image ours (length b) [] }) no) no

      by : (t : Bool) → leb (start ours.slots) (length b) ≡ t → (u : Bool) → leb (length b) longest ≡ u → (picked t u).answer ≡ Ok n
          → opened_for Read (picked t u).bytes ≡ holds []
      by true p true q z =
          opened_for-image (length b) (leb-true _ _ p) (leb-true _ _ q) [] (empty-kept ours.slots (room_of ours (length b))) Read
      by true p false q z = absurd (done_refused n BufferSize (sym z))
      by false p u q z = absurd (done_refused n BufferSize (sym z))

  module _ (o : List ℕ) where
    pub clear-ask : (after Clear b).answer ≡ Ok n → (k : ℕ) → slot_for k < settings → (after (Ask k o) (after Clear b).bytes).answer ≡ Err NotHeld
    clear-ask e = empty-ask (after Clear b).bytes (clear-leaves e) o

    pub clear-replay : (after Clear b).answer ≡ Ok n → Tells (after (Replay o) (after Clear b).bytes) (Ok 0) o
    clear-replay e = empty-replay (after Clear b).bytes (clear-leaves e) o

    pub make-ask : (after Make b).answer ≡ Ok n → (k : ℕ) → slot_for k < settings → (after (Ask k o) (after Make b).bytes).answer ≡ Err NotHeld
    make-ask e = empty-ask (after Make b).bytes (make-leaves e) o

    pub make-replay : (after Make b).answer ≡ Ok n → Tells (after (Replay o) (after Make b).bytes) (Ok 0) o
    make-replay e = empty-replay (after Make b).bytes (make-leaves e) o

-- ---- the two forms

module _ (b : List ℕ) (fs : List (List ℕ)) (k : ℕ) (a : slot_for k < settings) (n : other (slot_for k) ≡ slot_for k → ⊥)
    (w : held (other (slot_for k)) fs ≡ true) where
  -- THE FORM THAT IS NOT HELD GETS 9, where the other one is
  pub form-ask : opened_for Read b ≡ holds fs → (o : List ℕ) → (after (Ask k o) b).answer ≡ Err NotHeld
  form-ask h o =
      ask-absent b fs h k a o (form-nine (slot_for k) fs (opened-forms (layout_in b) b fs (opened_for-opened Read b fs h)) n w)

  pub form-remove : opened_for Edit b ≡ holds fs → (after (Remove k) b).answer ≡ Err NotHeld
  unfolding turn remove_on
  form-remove h =
      rw (call-turn b fs (Remove k) h, lt-ltb _ _ a, form-nine (slot_for k) fs (opened-forms (layout_in b) b fs (opened_for-opened Edit b fs h)) n w)

-- A PUT TAKES THE PLACE OF THE FRAME THAT HOLDS ITS SETTING, in whichever form, and nothing else moves; room is judged on the list after it
module _ (b f : List ℕ) (xs : List (List ℕ)) (g : List ℕ) (ys : List (List ℕ)) (h : opened_for Edit b ≡ holds (xs ++ (g ∷ ys))) (a : slot_of f < settings)
    (c : (slot_of g ≡ slot_of f) ⊎ (slot_of g ≡ other (slot_of f))) where
  instead : placed f (xs ++ (g ∷ ys)) ≡ xs ++ (f ∷ ys)
  instead = let K = kept b (xs ++ (g ∷ ys)) h in placed-instead f xs g ys K.sound K.forms c

  pub put-instead : length (flat (xs ++ (f ∷ ys))) ≤ room_in b → after (Put f) b ≡ shown_in b (become [] (xs ++ (f ∷ ys)))
  unfolding turn put_on
  put-instead r = rw (call-turn b (xs ++ (g ∷ ys)) (Put f) h, lt-ltb _ _ a, instead, le-leb _ _ r)

  pub put-over : room_in b < length (flat (xs ++ (f ∷ ys))) → (after (Put f) b).answer ≡ Err NoRoom
  unfolding turn put_on
  put-over r = rw (call-turn b (xs ++ (g ∷ ys)) (Put f) h, lt-ltb _ _ a, instead, lt-leb _ _ r)
