-- What a list needs so that a book can hold it (`Kept`), and that every call keeps it (`put-kept`, `remove-kept`, `ask-kept`, `turn-kept`), a
-- list of calls too (`turns-kept`); a book that opens holds such a list (`opened-kept`).
-- Assumes nothing.
use mathlib.Core.Path.{refl, subst, sym, ◌∙◌, ◌≡◌}
use mathlib.Core.Bool.{Bool, cond, false, false≢true, true}
use mathlib.Core.List.{List, [], ◌++◌, ◌∷◌}
use Prim.Native.Nat.{ℕ, ◌≤◌}
use native.Mathlib.Nat.{le_refl}
use native.Mathlib.Omega.{arith}
use borrow.Author.Tests.{leb-true, ltb-true}
use lib.Dec.{eqb, leb, ltb}
use lib.ListN.{drop, get_or, length, length-append}
use Rattle.refusal.specs.declared.Refusal.TheVariants.{NoRoom, NotAKind, NotHeld, OutputShort}
use Rattle.decoder.specs.Decoding.{decode}
use Rattle.reel.specs.Reel.{reel_of}
use Rattle.std.specs.Prelude.{Ok}
use Rattle.table.specs.Table.{settings}
use Rattle.settings.specs.Settings.{lacks, slot_for, slot_of}
use Rattle.contents.specs.Frames.{flat, held}
use Rattle.contents.specs.Contents.{Layout, holds, room_of, start, word_at}
use Rattle.contents.proofs.Shape.{Sound, Within, sound-within}
use Rattle.contents.proofs.Judged.{frames_from-tiled, judge-reads}
use Rattle.forms.specs.Forms.{other}
use Rattle.forms.proofs.Forms.{OneForm}
use Rattle.book.specs.Plain.{Turn, ask_on, become, clear_on, frame_of, placed, put_on, refuse, remove_on, replay_on, tell, without}
use Rattle.book.specs.Book.{opened}
use Rattle.book.specs.History.{Ask, Call, Clear, Make, Put, Remove, Replay, on_list, turn}
use Rattle.book.proofs.Calls.{opened-forms, opened-judge}
use Rattle.book.proofs.Placed.{placed-forms, placed-sound}

-- a list that a book of m slots with room for n bytes of frames can hold
pub record Kept (m n : ℕ) (fs : List (List ℕ)) : Type 0 where
  pub sound : Sound fs
  pub within : Within m fs
  pub forms : OneForm fs
  pub room : length (flat fs) ≤ n

-- ---- the steps keep it

held-without : (k j : ℕ) (fs : List (List ℕ)) → held j fs ≡ false → held j (without k fs) ≡ false
unfolding held without
held-without k j [] h = refl
held-without k j (g ∷ fs) h = go (held-without k j fs) (eqb (slot_of g) k) (eqb (slot_of g) j) refl h
  where
    go : (held j fs ≡ false → held j (without k fs) ≡ false) → (t x : Bool) → eqb (slot_of g) j ≡ x → cond x true (held j fs) ≡ false
        → held j (cond t fs (g ∷ without k fs)) ≡ false
    go ih t true w q = absurd (false≢true (sym q))
    go ih true false w q = q
    go ih false false w q = rw w (ih q)

sound-without : (k : ℕ) (fs : List (List ℕ)) → Sound fs → Sound (without k fs)
unfolding without
sound-without k [] s = tt
sound-without k (g ∷ fs) s = go (sound-without k fs s.2) (eqb (slot_of g) k)
  where
    go : Sound (without k fs) → (t : Bool) → Sound (cond t fs (g ∷ without k fs))
    go ih true = s.2
    go ih false = (s.0, held-without k (slot_of g) fs s.1, ih)

forms-without : (k : ℕ) (fs : List (List ℕ)) → OneForm fs → OneForm (without k fs)
forms-without k fs S s p q = S s (was s (held s fs) refl p) (was (other s) (held (other s) fs) refl q)
  where
    was : (j : ℕ) (t : Bool) → held j fs ≡ t → held j (without k fs) ≡ true → held j fs ≡ true
    was j true w q = w
    was j false w q = absurd (false≢true (sym (held-without k j fs w) ∙ q))

pub without-le : (k : ℕ) (fs : List (List ℕ)) → length (flat (without k fs)) ≤ length (flat fs)
unfolding flat without
without-le k [] = le_refl 0
without-le k (f ∷ fs) = go (without-le k fs) (eqb (slot_of f) k)
  where
    go : length (flat (without k fs)) ≤ length (flat fs) → (t : Bool) → length (flat (cond t fs (f ∷ without k fs))) ≤ length (f ++ flat fs)
    go ih true = omega (arith, length-append f (flat fs))
    go ih false = omega (arith, length-append f (flat fs), length-append f (flat (without k fs)))

within-without : (m k : ℕ) (fs : List (List ℕ)) → Within m fs → Within m (without k fs)
unfolding without
within-without m k [] w = tt
within-without m k (g ∷ fs) w = go (within-without m k fs w.1) (eqb (slot_of g) k)
  where
    go : Within m (without k fs) → (t : Bool) → Within m (cond t fs (g ∷ without k fs))
    go ih true = w.1
    go ih false = (w.0, ih)

-- `tell` leaves the list
pub tell-frames : (x o : List ℕ) (fs : List (List ℕ)) → (tell x o fs).frames ≡ fs
tell-frames x o fs = go (leb (length x) (length o))
  where
    go : (t : Bool) → (cond {A = Turn} t (record { answer = Ok (length x); output = x ++ drop (length x) o; frames = fs })
        (refuse OutputShort o fs)).frames ≡ fs
    go true = refl
    go false = refl

pub empty-kept : (m n : ℕ) → Kept m n []
unfolding flat held
empty-kept m n = record { sound = tt; within = tt; forms = λ s p q. absurd (false≢true p); room = omega arith }

module _ (m n : ℕ) (fs : List (List ℕ)) (K : Kept m n fs) (o : List ℕ) where
  pub tell-kept : (x : List ℕ) → Kept m n (tell x o fs).frames
  tell-kept x = subst (λ (gs : List (List ℕ)). Kept m n gs) (sym (tell-frames x o fs)) K

  -- a put needs a slot for each setting
  pub put-kept : settings ≤ m → (f : List ℕ) → Kept m n (put_on f o n fs).frames
  unfolding put_on
  put-kept big f = go (ltb (slot_of f) settings) refl (leb (length (flat (placed f fs))) n) refl
    where
      go : (x : Bool) → ltb (slot_of f) settings ≡ x → (y : Bool) → leb (length (flat (placed f fs))) n ≡ y
          → Kept m n (cond {A = Turn} x (cond y (become o (placed f fs)) (refuse NoRoom o fs)) (refuse (lacks (decode f)) o fs)).frames
      go false p y q = K
      go true p false q = K
      go true p true q =
          let s : Sound (placed f fs) = placed-sound f fs (ltb-true _ _ p) K.sound in
          record { sound = s; within = sound-within m big (placed f fs) s; forms = placed-forms f fs K.sound K.forms; room = leb-true _ _ q }

  pub remove-kept : (k : ℕ) → Kept m n (remove_on k o n fs).frames
  unfolding remove_on
  remove-kept k = go (ltb (slot_for k) settings) (held (slot_for k) fs)
    where
      go : (x y : Bool) → Kept m n (cond {A = Turn} x (cond y (become o (without (slot_for k) fs)) (refuse NotHeld o fs)) (refuse NotAKind o fs)).frames
      go false y = K
      go true false = K
      go true true =
          record {
            sound = sound-without (slot_for k) fs K.sound;
            within = within-without m (slot_for k) fs K.within;
            forms = forms-without (slot_for k) fs K.forms;
            room = omega (arith, K.room, without-le (slot_for k) fs);
          }

  pub ask-kept : (k : ℕ) → Kept m n (ask_on k o n fs).frames
  unfolding ask_on
  ask-kept k = go (ltb (slot_for k) settings) (held (slot_for k) fs)
    where
      go : (x y : Bool) → Kept m n (cond {A = Turn} x (cond y (tell (frame_of (slot_for k) fs) o fs) (refuse NotHeld o fs)) (refuse NotAKind o fs)).frames
      go false y = K
      go true false = K
      go true true = tell-kept (frame_of (slot_for k) fs)

module _ (m : ℕ) (big : settings ≤ m) (n : ℕ) where
  pub turn-kept : (c : Call) (fs : List (List ℕ)) → Kept m n fs → Kept m n (turn n c fs).frames
  unfolding turn clear_on replay_on
  turn-kept Make fs K = empty-kept m n
  turn-kept (Put f) fs K = put-kept m n fs K [] big f
  turn-kept (Remove k) fs K = remove-kept m n fs K [] k
  turn-kept (Ask k o) fs K = ask-kept m n fs K o k
  turn-kept Clear fs K = empty-kept m n
  turn-kept (Replay o) fs K = tell-kept m n fs K o (reel_of fs)

  pub turns-kept : (cs : List Call) (fs : List (List ℕ)) → Kept m n fs → Kept m n (on_list (turn n) cs fs).frames
  unfolding on_list
  turns-kept [] fs K = K
  turns-kept (c ∷ cs) fs K = turns-kept cs (turn n c fs).frames (turn-kept c fs K)

-- a book that opens holds a list that it can hold
pub opened-kept : (l : Layout) (b : List ℕ) (fs : List (List ℕ)) → opened l b ≡ holds fs → Kept l.slots (room_of l (length b)) fs
opened-kept l b fs h =
    let r = judge-reads l b fs (opened-judge l b fs h) in
    let t = frames_from-tiled l.slots (get_or b 1 0) b (start l.slots) (word_at b 2) fs r.tiled in
    record { sound = t.sound; within = t.within; forms = opened-forms l b fs h; room = omega (arith, t.ends, r.high) }
