-- What the plain list keeps to (REFERENCE, "Book"); with the history theorem it holds of every book.
--     placed-newest, placed-others    after a put the list has that frame of its kind, and of every other setting what it had
--     placed-order                    a kind that is held keeps its place
--     placed-instead                  a frame takes the place of the one that holds its setting, in either form, and nothing else moves
--     placed-last, placed-gone        (proofs/Placed.antt) a setting that is not held goes to the end; after a put the other form is not held
--     without_gone, without-others    a removed kind is gone, every other stays
--     without-order                   and in the order that they had
--     without-room                    a removal frees the bytes of its frame
--     setting-put                     a setting's frame is put, or refused for room
--     setting-full, put-eight         8 exactly when the list with the frame would not fit
--     setting-over                    an overwrite never needs room
--     form-room, form-shorter         room is judged on the list after a swap; a swap to the shorter form always fits
--     setting-fits                    where a full list has room, no setting is refused for room
--     remove-nine, ask-nine           9 exactly where the very kind is not held
--     form-nine                       and so for the form that is not held where the other one is
--     checked-put                     what the checked builder makes of a setting is never refused but for room
--     replay-whole                    a replay reports the sum of the lengths and one byte a frame
--     replay-steps                    and stepped through as a reel it gives the frames, and then the end
--     ask-decodes                     the frame that an ask gives decodes to the kind asked for
--     same_bytes                      two sound books are equal exactly when their lists are
-- Assumes nothing.
use mathlib.Core.Path.{ap, ap₂, refl, subst, sym, ◌∙◌, ◌≡◌}
use mathlib.Core.Bool.{Bool, cond, false, false≢true, true}
use mathlib.Core.List.{List, [], ◌++◌, ◌∷◌}
use mathlib.Core.Logic.{inl, inr, ◌⊎◌}
use Prim.Native.Nat.{ℕ, ◌+◌, ◌-◌, ◌<◌, ◌≤◌}
use native.Mathlib.Omega.{arith}
use borrow.Author.Tests.{eq-eqb, eqb-false, eqb-true, le-leb, leb-false, lt-leb, lt-ltb, ltb-true, ne_eqb}
use lib.Dec.{eqb, leb, ltb}
use lib.ListN.{drop, length, length-append, take}
use lib.Seq.{take_at}
use Rattle.table.specs.Table.{settings}
use Rattle.settings.specs.Settings.{lacks, size_of, slot_for, slot_in, slot_of}
use Rattle.settings.proofs.Settings.{slot-one, slot_of-length}
use Rattle.contents.specs.Frames.{flat, held}
use Rattle.contents.specs.Contents.{Layout, holds, image, judge}
use Rattle.contents.proofs.Shape.{Sound, place_in}
use Rattle.forms.specs.Forms.{most_bytes, other}
use Rattle.forms.proofs.Forms.{OneForm}
use Rattle.forms.proofs.Most.{most_bytes_lem}
use Rattle.contents.proofs.Judged.{Bytes, judge-image}
use Rattle.book.specs.Plain.{Turn, ask_on, become, frame_of, if_held, placed, put_on, refuse, remove_on, replay_on, swap_in, tell, without, Answer}
use Rattle.contents.proofs.Lists.{held_after, held-here, sound-middle}
use Rattle.book.proofs.Placed.{by_place, held_cons, placed-forms, placed-over, placed-sound, placed-swap}
use Rattle.book.proofs.Swapping.{swap-room}
use Rattle.book.proofs.Putting.{over-room, put_on-fits}
use Rattle.refusal.specs.Numbers.{number_of}
use Rattle.refusal.specs.declared.Refusal.TheVariants.{NoRoom, NotAKind, NotHeld, OutputShort}
use Rattle.builder.specs.Building.{checked, makes}
use Rattle.decoder.specs.Decoding.{Reading, decode, reading, refuses}
use Rattle.codec.proofs.Laws.{decode-checked}
use Rattle.codec.proofs.Places.{decode-own}
use Rattle.reel.specs.Reel.{reel_of, walk}
use Rattle.reel.proofs.Walks.{walk-whole}
use Rattle.std.specs.Prelude.{None, Ok, Err}
use Rattle.book.proofs.Calls.{done_refused}
use Rattle.book.proofs.Telling.{reel-length}

-- ---- put

-- the slots, in order of first entry
abbrev pub slots_in : List (List ℕ) → List ℕ
slots_in [] = []
slots_in (f ∷ fs) = slot_of f ∷ slots_in fs

swap-newest : (k : ℕ) (f : List ℕ) (fs : List (List ℕ)) → ((slot_of f ≡ k → ⊥) → held (slot_of f) fs ≡ false) → held k fs ≡ true
    → frame_of (slot_of f) (swap_in k f fs) ≡ f
unfolding held frame_of swap_in
swap-newest k f [] r h = absurd (false≢true h)
swap-newest k f (g ∷ fs) r h = go (λ q. swap-newest k f fs (λ n. (held_cons (slot_of f) g fs (r n)).1) q) (eqb (slot_of g) k) refl h
  where
    go : (held k fs ≡ true → frame_of (slot_of f) (swap_in k f fs) ≡ f) → (t : Bool) → eqb (slot_of g) k ≡ t → cond t true (held k fs) ≡ true
        → frame_of (slot_of f) (cond t (f ∷ fs) (g ∷ swap_in k f fs)) ≡ f
    go ih true e q = rw (eq-eqb (slot_of f) (slot_of f) refl)
    go ih false e q =
        rw (ne_eqb (slot_of g) (slot_of f) (λ z. (held_cons (slot_of f) g fs (r (λ y. eqb-false (slot_of g) k e (z ∙ y)))).0 z)) (ih q)

append-newest : (f : List ℕ) (fs : List (List ℕ)) → held (slot_of f) fs ≡ false → frame_of (slot_of f) (fs ++ (f ∷ [])) ≡ f
unfolding held frame_of
append-newest f [] h = rw (eq-eqb (slot_of f) (slot_of f) refl)
append-newest f (g ∷ fs) h = go (append-newest f fs) (eqb (slot_of g) (slot_of f)) h
  where
    go : (held (slot_of f) fs ≡ false → frame_of (slot_of f) (fs ++ (f ∷ [])) ≡ f) → (t : Bool) → cond t true (held (slot_of f) fs) ≡ false
        → cond t g (frame_of (slot_of f) (fs ++ (f ∷ []))) ≡ f
    go ih true q = absurd (false≢true (sym q))
    go ih false q = ih q

pub placed-newest : (f : List ℕ) (fs : List (List ℕ)) → frame_of (slot_of f) (placed f fs) ≡ f
placed-newest f fs =
    by_place f fs (λ gs. frame_of (slot_of f) gs ≡ f) (λ h. swap-newest (slot_of f) f fs (λ n. absurd (n refl)) h)
    (λ h q. swap-newest (other (slot_of f)) f fs (λ n. h) q) (λ h q. append-newest f fs h)

swap-others : (k : ℕ) (f : List ℕ) (s : ℕ) → (slot_of f ≡ s → ⊥) → (k ≡ s → ⊥) → (fs : List (List ℕ)) → frame_of s (swap_in k f fs) ≡ frame_of s fs
unfolding frame_of swap_in
swap-others k f s n m [] = refl
swap-others k f s n m (g ∷ fs) = go (swap-others k f s n m fs) (eqb (slot_of g) k) refl
  where
    go : frame_of s (swap_in k f fs) ≡ frame_of s fs → (t : Bool) → eqb (slot_of g) k ≡ t
        → frame_of s (cond t (f ∷ fs) (g ∷ swap_in k f fs)) ≡ cond (eqb (slot_of g) s) g (frame_of s fs)
    go ih true e = rw (eqb-true (slot_of g) k e, ne_eqb (slot_of f) s n, ne_eqb k s m)
    go ih false e = ap (λ (x : List ℕ). cond (eqb (slot_of g) s) g x) ih

append-others : (f : List ℕ) (s : ℕ) → (slot_of f ≡ s → ⊥) → (fs : List (List ℕ)) → frame_of s (fs ++ (f ∷ [])) ≡ frame_of s fs
unfolding frame_of
append-others f s n [] = rw (ne_eqb (slot_of f) s n)
append-others f s n (g ∷ fs) = ap (λ (x : List ℕ). cond (eqb (slot_of g) s) g x) (append-others f s n fs)

-- of every other setting the list has what it had
pub placed-others : (f : List ℕ) (fs : List (List ℕ)) (s : ℕ) → (slot_of f ≡ s → ⊥) → (other (slot_of f) ≡ s → ⊥) → frame_of s (placed f fs) ≡ frame_of s fs
placed-others f fs s n m =
    by_place f fs (λ gs. frame_of s gs ≡ frame_of s fs) (λ h. swap-others (slot_of f) f s n n fs) (λ h q. swap-others (other (slot_of f)) f s n m fs)
    (λ h q. append-others f s n fs)

-- ---- the order

swap-order : (f : List ℕ) (fs : List (List ℕ)) → slots_in (swap_in (slot_of f) f fs) ≡ slots_in fs
unfolding swap_in
swap-order f [] = refl
swap-order f (g ∷ fs) = go (swap-order f fs) (eqb (slot_of g) (slot_of f)) refl
  where
    go : slots_in (swap_in (slot_of f) f fs) ≡ slots_in fs → (t : Bool) → eqb (slot_of g) (slot_of f) ≡ t
        → slots_in (cond t (f ∷ fs) (g ∷ swap_in (slot_of f) f fs)) ≡ slot_of g ∷ slots_in fs
    go ih true e = ap (λ (n : ℕ). n ∷ slots_in fs) (sym (eqb-true (slot_of g) (slot_of f) e))
    go ih false e = ap (λ (l : List ℕ). slot_of g ∷ l) ih

pub placed-order : (f : List ℕ) (fs : List (List ℕ)) → held (slot_of f) fs ≡ true → slots_in (placed f fs) ≡ slots_in fs
placed-order f fs h = rw (placed-over f fs h) (swap-order f fs)

swap-middle : (f : List ℕ) (xs : List (List ℕ)) (g : List ℕ) (ys : List (List ℕ)) → held (slot_of g) xs ≡ false
    → swap_in (slot_of g) f (xs ++ (g ∷ ys)) ≡ xs ++ (f ∷ ys)
unfolding swap_in
swap-middle f [] g ys h = rw (eq-eqb (slot_of g) (slot_of g) refl)
swap-middle f (x ∷ xs) g ys h =
    let z = held_cons (slot_of g) x xs h in rw (ne_eqb (slot_of x) (slot_of g) z.0) (ap (λ (l : List (List ℕ)). x ∷ l) (swap-middle f xs g ys z.1))

-- A frame takes the place of the one that holds its setting, in whichever form, and nothing else moves
pub placed-instead : (f : List ℕ) (xs : List (List ℕ)) (g : List ℕ) (ys : List (List ℕ)) → Sound (xs ++ (g ∷ ys)) → OneForm (xs ++ (g ∷ ys))
    → (slot_of g ≡ slot_of f) ⊎ (slot_of g ≡ other (slot_of f)) → placed f (xs ++ (g ∷ ys)) ≡ xs ++ (f ∷ ys)
placed-instead f xs g ys S F c = by c (held (slot_of f) (xs ++ (g ∷ ys))) refl
  where
    there : held (slot_of g) (xs ++ (g ∷ ys)) ≡ true
    there = held_after (slot_of g) xs (g ∷ ys) (held-here g ys)

    middle : swap_in (slot_of g) f (xs ++ (g ∷ ys)) ≡ xs ++ (f ∷ ys)
    middle = swap-middle f xs g ys (sound-middle xs g ys S).1

    own : slot_of g ≡ slot_of f → placed f (xs ++ (g ∷ ys)) ≡ xs ++ (f ∷ ys)
    own e =
        placed-over f (xs ++ (g ∷ ys)) (ap (λ (j : ℕ). held j (xs ++ (g ∷ ys))) (sym e) ∙ there)
        ∙ ap (λ (j : ℕ). swap_in j f (xs ++ (g ∷ ys))) (sym e) ∙ middle

    by : (slot_of g ≡ slot_of f) ⊎ (slot_of g ≡ other (slot_of f)) → (t : Bool) → held (slot_of f) (xs ++ (g ∷ ys)) ≡ t
        → placed f (xs ++ (g ∷ ys)) ≡ xs ++ (f ∷ ys)
    by (inl e) t w = own e
    by (inr e) true w = own (e ∙ F (slot_of f) w (ap (λ (j : ℕ). held j (xs ++ (g ∷ ys))) (sym e) ∙ there))
    by (inr e) false w =
        placed-swap f (xs ++ (g ∷ ys)) w (ap (λ (j : ℕ). held j (xs ++ (g ∷ ys))) (sym e) ∙ there)
        ∙ ap (λ (j : ℕ). swap_in j f (xs ++ (g ∷ ys))) (sym e) ∙ middle

-- ---- removal

pub without_gone : (s : ℕ) (fs : List (List ℕ)) → Sound fs → held s (without s fs) ≡ false
unfolding held without
without_gone s [] S = refl
without_gone s (g ∷ fs) S = go (without_gone s fs S.2) (eqb (slot_of g) s) refl
  where
    go : held s (without s fs) ≡ false → (t : Bool) → eqb (slot_of g) s ≡ t → held s (cond t fs (g ∷ without s fs)) ≡ false
    go ih true e = ap (λ (x : ℕ). held x fs) (sym (eqb-true (slot_of g) s e)) ∙ S.1
    go ih false e = rw e ih

pub without-others : (s j : ℕ) → (s ≡ j → ⊥) → (fs : List (List ℕ)) → frame_of j (without s fs) ≡ frame_of j fs
unfolding frame_of without
without-others s j n [] = refl
without-others s j n (g ∷ fs) = go (without-others s j n fs) (eqb (slot_of g) s) refl
  where
    go : frame_of j (without s fs) ≡ frame_of j fs → (t : Bool) → eqb (slot_of g) s ≡ t
        → frame_of j (cond t fs (g ∷ without s fs)) ≡ cond (eqb (slot_of g) j) g (frame_of j fs)
    go ih true e = rw (eqb-true (slot_of g) s e, ne_eqb s j n)
    go ih false e = ap (λ (x : List ℕ). cond (eqb (slot_of g) j) g x) ih

pub without-room : (s : ℕ) (fs : List (List ℕ)) → Sound fs → held s fs ≡ true → length (flat (without s fs)) + size_of s ≡ length (flat fs)
unfolding held without flat
without-room s [] S h = absurd (false≢true h)
without-room s (g ∷ fs) S h = go (without-room s fs S.2) (eqb (slot_of g) s) refl h
  where
    go : (held s fs ≡ true → length (flat (without s fs)) + size_of s ≡ length (flat fs)) → (t : Bool) → eqb (slot_of g) s ≡ t → cond t true (held s fs) ≡ true
        → length (flat (cond t fs (g ∷ without s fs))) + size_of s ≡ length (g ++ flat fs)
    go ih true e q = omega (arith, length-append g (flat fs), slot_of-length g S.0, ap size_of (eqb-true (slot_of g) s e))
    go ih false e q = omega (arith, length-append g (flat fs), length-append g (flat (without s fs)), ih q)

-- a list of slots without the first s
unfoldable pub gone : ℕ → List ℕ → List ℕ
gone s [] = []
gone s (j ∷ js) = cond (eqb j s) js (j ∷ gone s js)

pub without-order : (s : ℕ) (fs : List (List ℕ)) → slots_in (without s fs) ≡ gone s (slots_in fs)
unfolding without gone
without-order s [] = refl
without-order s (g ∷ fs) = go (without-order s fs) (eqb (slot_of g) s)
  where
    go : slots_in (without s fs) ≡ gone s (slots_in fs) → (t : Bool)
        → slots_in (cond t fs (g ∷ without s fs)) ≡ cond t (slots_in fs) (slot_of g ∷ gone s (slots_in fs))
    go ih true = refl
    go ih false = ap (λ (l : List ℕ). slot_of g ∷ l) ih

-- ---- room

-- an answer's number: 0 where the call is done
abbrev pub number : Answer → ℕ
number (Ok n) = 0
number (Err x) = number_of x

module _ (f o : List ℕ) (room : ℕ) (fs : List (List ℕ)) (a : slot_of f < settings) where
  pub setting-put : put_on f o room fs ≡ cond (leb (length (flat (placed f fs))) room) (become o (placed f fs)) (refuse NoRoom o fs)
  unfolding put_on
  setting-put = rw (lt-ltb (slot_of f) settings a)

  -- the list with the frame does not fit, and 8 is the answer; or it fits, and the put is done
  pub setting-full : (room < length (flat (placed f fs)) → put_on f o room fs ≡ refuse NoRoom o fs) × ((put_on f o room fs).answer ≡ Err NoRoom
      → room < length (flat (placed f fs)))
  setting-full = (
    (λ h. setting-put ∙ rw (lt-leb _ _ h)),
    λ e. go (leb (length (flat (placed f fs))) room) refl
        (sym (ap (λ (t : Turn). t.answer) setting-put) ∙ e),
  )
    where
      go : (t : Bool) → leb (length (flat (placed f fs))) room ≡ t → (cond {A = Turn} t (become o (placed f fs)) (refuse NoRoom o fs)).answer ≡ Err NoRoom
          → room < length (flat (placed f fs))
      go true p q = absurd (done_refused 0 NoRoom q)
      go false p q = leb-false _ _ p

  pub setting-over : held (slot_of f) fs ≡ true → Sound fs → length (flat fs) ≤ room → put_on f o room fs ≡ become o (placed f fs)
  setting-over h S r =
      let e = placed-over f fs h in
      let n = over-room (slot_of f) f refl (slot_of-length f a) fs S h in
      put_on-fits f o room fs a (placed f fs) refl (omega (arith, n, ap (λ (gs : List (List ℕ)). length (flat gs)) e))

  module _ (S : Sound fs) (h : held (slot_of f) fs ≡ false) (q : held (other (slot_of f)) fs ≡ true) where
    -- the bytes of the list after a swap, on which room is judged
    pub form-room : length (flat (placed f fs)) ≡ length (flat fs) - size_of (other (slot_of f)) + size_of (slot_of f)
    form-room =
        ap (λ (gs : List (List ℕ)). length (flat gs)) (placed-swap f fs h q)
        ∙ swap-room (other (slot_of f)) f fs S q
        ∙ ap (λ (n : ℕ). length (flat fs) - size_of (other (slot_of f)) + n) (slot_of-length f a)

    -- a swap to the shorter form always fits
    pub form-shorter : size_of (slot_of f) ≤ size_of (other (slot_of f)) → length (flat fs) ≤ room → put_on f o room fs ≡ become o (placed f fs)
    form-shorter e r = put_on-fits f o room fs a (placed f fs) refl (omega (arith, form-room, place_in 0 fs (other (slot_of f)) S q))

  -- and where a full list has room, no setting is refused for room
  pub setting-fits : Sound fs → OneForm fs → most_bytes ≤ room → put_on f o room fs ≡ become o (placed f fs)
  setting-fits S F r =
      put_on-fits f o room fs a (placed f fs) refl (omega (arith, most_bytes_lem (placed f fs) (placed-sound f fs a S) (placed-forms f fs S F)))

-- 8 is given to a setting's frame alone
pub put-eight : (f o : List ℕ) (room : ℕ) (fs : List (List ℕ)) → (put_on f o room fs).answer ≡ Err NoRoom
    → (slot_of f < settings) × (room < length (flat (placed f fs)))
unfolding put_on
put-eight f o room fs e = go (ltb (slot_of f) settings) refl e
  where
    never : (x : Reading) → decode f ≡ x → ◌≡◌ {A = Answer} (Err (lacks x)) (Err NoRoom) → ⊥
    never (reading k vs) p q = let w : ◌≡◌ {A = ℕ} 13 8 = ap number q in omega arith
    never (refuses x) p q = let w : number_of x ≡ 8 = ap number q in omega (arith, decode-own f x p)

    go : (t : Bool) → ltb (slot_of f) settings ≡ t
        → (cond {A = Turn} t (cond (leb (length (flat (placed f fs))) room) (become o (placed f fs)) (refuse NoRoom o fs))
        (refuse (lacks (decode f)) o fs)).answer ≡ Err NoRoom
        → (slot_of f < settings) × (room < length (flat (placed f fs)))
    go true p q = let a : slot_of f < settings = ltb-true _ _ p in (a, (setting-full f o room fs a).1 e)
    go false p q = absurd (never (decode f) refl q)

pub checked-put : (k : ℕ) (vs f : List ℕ) → checked k vs ≡ makes f → slot_for k < settings → (o : List ℕ) (room : ℕ) (fs : List (List ℕ))
    → put_on f o room fs ≡ cond (leb (length (flat (placed f fs))) room) (become o (placed f fs)) (refuse NoRoom o fs)
unfolding slot_of
checked-put k vs f e a o room fs =
    let q : slot_of f ≡ slot_for k = ap slot_in (decode-checked k vs f e) in
    setting-put f o room fs (omega arith)

-- ---- the kind that is asked for

module _ (s : ℕ) (t : Turn) (o : List ℕ) (fs : List (List ℕ)) (a : s < settings) where
  asked : if_held s t o fs ≡ cond (held s fs) t (refuse NotHeld o fs)
  asked = rw (lt-ltb s settings a)

  -- 9 exactly where the slot is not held
  nine : (t.answer ≡ Err NotHeld → ⊥)
      → (held s fs ≡ false → if_held s t o fs ≡ refuse NotHeld o fs) × ((if_held s t o fs).answer ≡ Err NotHeld → held s fs ≡ false)
  nine n = ((λ h. asked ∙ rw h), λ e. go (held s fs) refl (sym (ap (λ (u : Turn). u.answer) asked) ∙ e))
    where
      go : (u : Bool) → held s fs ≡ u → (cond {A = Turn} u t (refuse NotHeld o fs)).answer ≡ Err NotHeld → u ≡ false
      go true h e = absurd (n e)
      go false h e = refl

module _ (k : ℕ) (o : List ℕ) (room : ℕ) (fs : List (List ℕ)) (a : slot_for k < settings) where
  pub remove-nine : (held (slot_for k) fs ≡ false → remove_on k o room fs ≡ refuse NotHeld o fs) × ((remove_on k o room fs).answer ≡ Err NotHeld
      → held (slot_for k) fs ≡ false)
  unfolding remove_on
  remove-nine = nine (slot_for k) (become o (without (slot_for k) fs)) o fs a (λ e. done_refused 0 NotHeld e)

  pub ask-nine : (held (slot_for k) fs ≡ false → ask_on k o room fs ≡ refuse NotHeld o fs) × ((ask_on k o room fs).answer ≡ Err NotHeld
      → held (slot_for k) fs ≡ false)
  unfolding ask_on
  ask-nine = nine (slot_for k) (tell (frame_of (slot_for k) fs) o fs) o fs a (told (leb (length (frame_of (slot_for k) fs)) (length o)))
    where
      x : List ℕ
      x = frame_of (slot_for k) fs

      told : (t : Bool) → (cond {A = Turn} t (record { answer = Ok (length x); output = x ++ drop (length x) o; frames = fs })
          (refuse OutputShort o fs)).answer ≡ Err NotHeld → ⊥
      told true e = done_refused (length x) NotHeld e
      told false e = let n : ◌≡◌ {A = ℕ} 12 9 = ap number e in omega arith

-- so the form that is not held gets it where the other one is
pub form-nine : (s : ℕ) (fs : List (List ℕ)) → OneForm fs → (other s ≡ s → ⊥) → held (other s) fs ≡ true → held s fs ≡ false
form-nine s fs F n h = go (held s fs) refl
  where
    go : (t : Bool) → held s fs ≡ t → t ≡ false
    go true e = absurd (n (F s e h))
    go false e = refl

-- ---- ask and replay

-- what `tell` is done with: the bytes that it reports, and no more
record Told (x : List ℕ) (n : ℕ) (out : List ℕ) : Type 0 where
  long : n ≡ length x
  written : take n out ≡ x

tell-done : (x o : List ℕ) (fs : List (List ℕ)) (n : ℕ) → (tell x o fs).answer ≡ Ok n → Told x n (tell x o fs).output
tell-done x o fs n e = go (leb (length x) (length o)) e
  where
    picked : Bool → Turn
    picked t = cond t (record { answer = Ok (length x); output = x ++ drop (length x) o; frames = fs }) (refuse OutputShort o fs)

    go : (t : Bool) → (picked t).answer ≡ Ok n → Told x n (picked t).output
    go true q = let l : n ≡ length x = cc in record { long = l; written = take_at x (drop (length x) o) n (sym l) }
    go false q = absurd (done_refused n OutputShort (sym q))

-- the frame of a slot that is held has that slot
pub frame-slot : (s : ℕ) (fs : List (List ℕ)) → held s fs ≡ true → slot_of (frame_of s fs) ≡ s
unfolding held frame_of
frame-slot s [] h = absurd (false≢true h)
frame-slot s (g ∷ fs) h = go (frame-slot s fs) (eqb (slot_of g) s) refl h
  where
    go : (held s fs ≡ true → slot_of (frame_of s fs) ≡ s) → (t : Bool) → eqb (slot_of g) s ≡ t → cond t true (held s fs) ≡ true
        → slot_of (cond t g (frame_of s fs)) ≡ s
    go ih true e q = eqb-true (slot_of g) s e
    go ih false e q = ih q

-- a frame that decodes to a kind
pub record DecodesTo (k : ℕ) (f : List ℕ) : Type 0 where
  pub arguments : List ℕ
  pub reads : decode f ≡ reading k arguments

-- a frame of a setting's slot decodes to that setting
pub slot-decodes : (k : ℕ) (f : List ℕ) → slot_for k < settings → slot_of f ≡ slot_for k → DecodesTo k f
unfolding slot_of
slot-decodes k f a e = go (decode f) refl e
  where
    go : (x : Reading) → decode f ≡ x → slot_in x ≡ slot_for k → DecodesTo k f
    go (reading j vs) w q =
        let own : j ≡ k = slot-one j k (omega arith) q in record { arguments = vs; reads = w ∙ ap (λ (i : ℕ). reading i vs) own }
    go (refuses x) w q = absurd (omega arith)

pub ask-decodes : (k : ℕ) (o : List ℕ) (room : ℕ) (fs : List (List ℕ)) (n : ℕ) → (ask_on k o room fs).answer ≡ Ok n
    → DecodesTo k (take n (ask_on k o room fs).output)
unfolding ask_on
ask-decodes k o room fs n e = go (ltb (slot_for k) settings) refl (held (slot_for k) fs) refl e
  where
    s : ℕ
    s = slot_for k

    picked : Bool → Bool → Turn
    picked a b = cond a (cond b (tell (frame_of s fs) o fs) (refuse NotHeld o fs)) (refuse NotAKind o fs)

    go : (a : Bool) → ltb s settings ≡ a → (b : Bool) → held s fs ≡ b → (picked a b).answer ≡ Ok n → DecodesTo k (take n (picked a b).output)
    go true p true q w =
        let d = slot-decodes k (frame_of s fs) (ltb-true s settings p) (frame-slot s fs q) in
        subst (λ (f : List ℕ). DecodesTo k f) (sym (tell-done (frame_of s fs) o fs n w).written) d
    go true p false q w = absurd (done_refused n NotHeld (sym w))
    go false p b q w = absurd (done_refused n NotAKind (sym w))

pub replay-whole : (o : List ℕ) (room : ℕ) (fs : List (List ℕ)) → length (flat fs) + length fs ≤ length o
    → replay_on o room fs ≡ record { answer = Ok (length (flat fs) + length fs); output = reel_of fs ++ drop (length (flat fs) + length fs) o; frames = fs }
unfolding replay_on
replay-whole o room fs h = rw (reel-length fs, le-leb _ _ h)

-- what a replay wrote, stepped through by the reel's own step: the list's frames, in order, and then the end
pub replay-steps : (o : List ℕ) (room : ℕ) (fs : List (List ℕ)) (n : ℕ) → (replay_on o room fs).answer ≡ Ok n
    → walk n (take n (replay_on o room fs).output) 0 ≡ record { found = fs; last = Ok None }
unfolding replay_on
replay-steps o room fs n e =
    let t = tell-done (reel_of fs) o fs n e in
    ap₂ (λ (k : ℕ) (r : List ℕ). walk k r 0) t.long t.written ∙ walk-whole fs

-- ---- bytes

pub same_bytes : (l : Layout) (b c : List ℕ) (fs gs : List (List ℕ)) → Bytes b → Bytes c → length b ≡ length c → judge l b ≡ holds fs → judge l c ≡ holds gs
    → (b ≡ c → fs ≡ gs) × (fs ≡ gs → b ≡ c)
same_bytes l b c fs gs B C n h k = (
  (λ e. let z : holds fs ≡ holds gs = sym h ∙ ap (judge l) e ∙ k in cc),
  (λ e. judge-image l b fs B h ∙ ap₂ (λ (x : ℕ) (y : List (List ℕ)). image l x y) n e ∙ sym (judge-image l c gs C k)),
)
