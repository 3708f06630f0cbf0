-- A stored book that can be read, however it came about: every list of asks and replays gives the answers and the outputs of its list, and the bytes
-- stay (`reads-run`).
-- Assumes nothing.
use mathlib.Core.Path.{ap, refl, sym, ◌∙◌, ◌≡◌}
use mathlib.Core.Bool.{Bool, cond, false, false≢true, true}
use mathlib.Core.List.{List, [], ◌∷◌}
use Prim.Native.Nat.{ℕ}
use lib.Dec.{ltb}
use lib.ListN.{length}
use Rattle.refusal.specs.declared.Refusal.TheVariants.{NotAKind, NotHeld}
use Rattle.reel.specs.Reel.{reel_of}
use Rattle.table.specs.Table.{settings}
use Rattle.settings.specs.Settings.{slot_for}
use Rattle.contents.specs.Frames.{held}
use Rattle.contents.specs.Contents.{holds, image}
use Rattle.contents.proofs.Judged.{Bytes}
use Rattle.book.specs.Plain.{Turn, ask_on, frame_of, refuse, replay_on, tell}
use Rattle.book.specs.Book.{Read, Use, call_for, layout_in, opened_for, room_in}
use Rattle.book.specs.History.{Ask, Call, Clear, Make, OnlyReads, Put, Remove, Replay, after, is_read, on_bytes, on_list, turn}
use Rattle.book.proofs.Calls.{opened-bytes}
use Rattle.book.proofs.Kept.{tell-frames}
use Rattle.book.proofs.Versions.{opened_for-opened}

-- an ask and a replay only read, whatever they ask for
pub read-calls : ((k : ℕ) (o : List ℕ) → is_read (Ask k o) ≡ true) × ((o : List ℕ) → is_read (Replay o) ≡ true)
read-calls = ((λ k o. refl), (λ o. refl))

-- an ask leaves the list
pub ask-frames : (k : ℕ) (o : List ℕ) (room : ℕ) (fs : List (List ℕ)) → (ask_on k o room fs).frames ≡ fs
unfolding ask_on
ask-frames k o room fs = go (ltb (slot_for k) settings) (held (slot_for k) fs)
  where
    go : (x y : Bool) → (cond {A = Turn} x (cond y (tell (frame_of (slot_for k) fs) o fs) (refuse NotHeld o fs)) (refuse NotAKind o fs)).frames ≡ fs
    go true true = tell-frames (frame_of (slot_for k) fs) o fs
    go true false = refl
    go false y = refl

-- and so does every call that only reads
pub read-frames : (room : ℕ) (c : Call) → is_read c ≡ true → (fs : List (List ℕ)) → (turn room c fs).frames ≡ fs
unfolding turn replay_on
read-frames room Make n fs = absurd (false≢true n)
read-frames room (Put f) n fs = absurd (false≢true n)
read-frames room (Remove k) n fs = absurd (false≢true n)
read-frames room (Ask k o) n fs = ask-frames k o room fs
read-frames room Clear n fs = absurd (false≢true n)
read-frames room (Replay o) n fs = tell-frames (reel_of fs) o fs

-- a step that leaves the list leaves the bytes
pub stays : (u : Use) (b : List ℕ) → Bytes b → (fs : List (List ℕ)) → opened_for u b ≡ holds fs → (s : List ℕ → ℕ → List (List ℕ) → Turn) (o : List ℕ)
    → (s o (room_in b) fs).frames ≡ fs
    → call_for u s o b ≡ record { answer = (s o (room_in b) fs).answer; output = (s o (room_in b) fs).output; bytes = b }
unfolding call_for
stays u b B fs h s o e =
    rw h
    (ap (λ (x : List ℕ). record { answer = (s o (room_in b) fs).answer; output = (s o (room_in b) fs).output; bytes = x })
    (ap (image (layout_in b) (length b)) e ∙ sym (opened-bytes (layout_in b) b fs B (opened_for-opened u b fs h))))

module _ (b : List ℕ) (B : Bytes b) (fs : List (List ℕ)) (h : opened_for Read b ≡ holds fs) where
  read_is : (c : Call) → is_read c ≡ true → after c b ≡ record { answer = (turn (room_in b) c fs).answer; output = (turn (room_in b) c fs).output; bytes = b }
  unfolding turn
  read_is Make n = absurd (false≢true n)
  read_is (Put f) n = absurd (false≢true n)
  read_is (Remove k) n = absurd (false≢true n)
  read_is (Ask k o) n = stays Read b B fs h (ask_on k) o (ask-frames k o (room_in b) fs)
  read_is Clear n = absurd (false≢true n)
  read_is (Replay o) n = stays Read b B fs h replay_on o (read-frames (room_in b) (Replay o) n fs)

  -- A STORED BOOK IS READ AS ITS LIST IS
  pub reads-run : (cs : List Call) → OnlyReads cs → on_bytes after cs b ≡ record { heard = (on_list (turn (room_in b)) cs fs).heard; bytes = b }
  unfolding on_bytes on_list
  reads-run [] n = refl
  reads-run (c ∷ cs) n = rw (read_is c n.0, read-frames (room_in b) c n.0 fs, reads-run cs n.1)
