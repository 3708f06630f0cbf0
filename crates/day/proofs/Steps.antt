-- A record on the image of a list is its step on the list (`step-day`, `step-bytes`), and leaves a list that a book can hold (`step_kept`).
-- Assumes nothing.
use mathlib.Core.Path.{◌≡◌, refl}
use mathlib.Core.Bool.{Bool, true, false, cond}
use mathlib.Core.List.{List, []}
use Prim.Native.Nat.{ℕ, ◌≤◌}
use native.Mathlib.Omega.{arith}
use Rattle.decoder.specs.Decoding.{decode}
use Rattle.contents.specs.Contents.{image, longest, room_of, start}
use Rattle.book.specs.Plain.{put_on}
use Rattle.book.specs.Book.{Edit, ours}
use Rattle.book.specs.History.{Put, after}
use Rattle.book.proofs.Kept.{Kept, put-kept}
use Rattle.book.proofs.History.{for-image, shown}
use Rattle.day.specs.Days.{is_action, kind_in, noted, tallied}
use Rattle.day.specs.Steps.{Record, State, on_sent, received, sent, sent_bytes, sent_day, step, step_bytes, step_day}

module _ (m : ℕ) (low : start ours.slots ≤ m) (high : m ≤ longest) (s : State) (K : Kept ours.slots (room_of ours m) s.frames) where
  put-image : (f : List ℕ) → after (Put f) (image ours m s.frames) ≡ shown ours m low high (put_on f [] (room_of ours m) s.frames)
  put-image f = for-image m low high s.frames K Edit (put_on f) []

  -- the state after a command, by whether it is an action
  after-sent : List ℕ → Bool → State
  after-sent f action =
      cond {A = State} action (record { frames = s.frames; day = noted (kind_in (decode f)) s.day })
      (record {
        frames = (put_on f [] (room_of ours m) s.frames).frames;
        day = tallied (kind_in (decode f)) (put_on f [] (room_of ours m) s.frames).answer s.day;
      })

  pub step-day : (r : Record) → step_day r (image ours m s.frames) s.day ≡ (step (room_of ours m) r s).day
  unfolding sent_day on_sent after-sent
  step-day (received b) = refl
  step-day (sent f) = rw (put-image f) (go (is_action (decode f)))
    where
      go : (x : Bool)
          → cond x (noted (kind_in (decode f)) s.day) (tallied (kind_in (decode f)) (put_on f [] (room_of ours m) s.frames).answer s.day)
          ≡ (after-sent f x).day
      go true = refl
      go false = refl

  pub step-bytes : (r : Record) → step_bytes r (image ours m s.frames) ≡ image ours m (step (room_of ours m) r s).frames
  unfolding sent_bytes on_sent after-sent
  step-bytes (received b) = refl
  step-bytes (sent f) = rw (put-image f) (go (is_action (decode f)))
    where
      go : (x : Bool)
          → cond x (image ours m s.frames) (image ours m (put_on f [] (room_of ours m) s.frames).frames) ≡ image ours m (after-sent f x).frames
      go true = refl
      go false = refl

  pub step_kept : (r : Record) → Kept ours.slots (room_of ours m) (step (room_of ours m) r s).frames
  unfolding on_sent after-sent
  step_kept (received b) = K
  step_kept (sent f) = go (is_action (decode f))
    where
      go : (x : Bool) → Kept ours.slots (room_of ours m) (after-sent f x).frames
      go true = K
      go false = put-kept ours.slots (room_of ours m) s.frames K [] (omega arith) f
