-- A whole playback, by what the book's make gives.
-- Assumes nothing.
use mathlib.Core.Path.{◌≡◌, refl, sym, ap, ap₂, ◌∙◌}
use mathlib.Core.Bool.{Bool, true, false, cond}
use mathlib.Core.List.{List, []}
use Prim.Native.Nat.{ℕ, ◌+◌, ◌≤◌}
use native.Mathlib.Omega.{arith}
use lib.Dec.{leb}
use lib.ListN.{length}
use borrow.Author.Tests.{leb-true}
use Rattle.refusal.specs.declared.Refusal.{Refusal}
use Rattle.refusal.specs.declared.Refusal.TheVariants.{BufferSize}
use Rattle.contents.specs.Contents.{holds, image, longest, room_of, start, word_at}
use Rattle.contents.proofs.Judged.{Bytes}
use Rattle.contents.proofs.Written.{image-length}
use Rattle.book.specs.Plain.{Answer}
use Rattle.std.specs.Prelude.{Ok, Err}
use Rattle.book.specs.Book.{Edit, Outcome, Permits, made, opened_for, ours}
use Rattle.book.specs.History.{Make, after}
use Rattle.book.proofs.Calls.{done_refused}
use Rattle.book.proofs.Kept.{empty-kept}
use Rattle.book.proofs.Versions.{layout-image}
use Rattle.book.proofs.History.{opened_for-image}
use Rattle.contents.specs.Frames.{flat}
use Rattle.day.specs.declared.Day.{Day}
use Rattle.day.specs.Days.{fresh, most}
use Rattle.day.specs.Steps.{morning}
use Rattle.playback.specs.declared.Cursor.{Cursor}
use Rattle.playback.specs.declared.Passed.{Passed}
use Rattle.playback.specs.declared.Played.{Played}
use Rattle.playback.specs.declared.Stage.TheVariants.{Header}
use Rattle.playback.specs.Trace.{first_in}
use Rattle.playback.specs.Plays.{Run, handed, on_made, plays, run_in}
use Rattle.playback.specs.Parts.{Went, ended, pass_from, passes, started, stop_of}
use Rattle.playback.proofs.Passing.{pass-run}

-- a header's word fits 16 bits
pub first_small : (t : List ℕ) → Bytes t → first_in t ≤ most
unfolding word_at
first_small t B = omega (arith, B 2, B (2 + 1))

-- ---- a pass over a book that was just made

module _ (m : ℕ) (low : start ours.slots ≤ m) (high : m ≤ longest) (t : List ℕ) (short : length t ≤ most) (B : Bytes t) where
  abbrev blank : List ℕ
  blank = image ours m []

  blank-length : length blank ≡ m
  unfolding flat
  blank-length = image-length ours m [] (omega (arith, low))

  abbrev run : Run
  run = run_in (room_of ours m) t

  pub fresh-pass : (ended (passes false started t blank).passed.cursor ≡ handed run) × ((passes false started t blank).bytes ≡ image ours m run.state.frames)
  unfolding passes
  fresh-pass =
      let o : opened_for Edit (image ours m []) ≡ holds [] = opened_for-image m low high [] (empty-kept ours.slots (room_of ours m)) Edit in
      let w : Went = pass_from false (room_of ours m) Header t morning in
      let e : record { state = w.state; stop = stop_of w.stage } ≡ run_in (room_of ours m) t = pass-run (room_of ours m) t short (first_small t B) in
      rw (o, blank-length, layout-image m []) (ap handed e, ap (λ (x : Run). image ours m x.state.frames) e)

-- ---- by what the make answers

module _ (t b a : List ℕ) where
  made_by : Bool → Bool → Outcome
  made_by x y =
      cond {A = Outcome} x
      (cond y (record { answer = Ok 0; output = []; bytes = image ours (length b) [] }) (record { answer = Err BufferSize; output = []; bytes = b }))
      (record { answer = Err BufferSize; output = []; bytes = b })

  -- no book can be made
  pub play-refused : (m : Answer) (x : Refusal) (d : Day) → Permits (after Make b) m a → m ≡ Err x → d ≡ fresh
      → (record { answer = m; day = d } ≡ (plays t b).played) × (a ≡ (plays t b).bytes)
  unfolding plays made made_by
  play-refused m x d e h k = go (leb (start ours.slots) (length b)) (leb (length b) longest) e.0 e.1
    where
      go : (x y : Bool) → m ≡ (made_by x y).answer → a ≡ (made_by x y).bytes
          → (record { answer = m; day = d } ≡ (on_made t b (made_by x y).answer).played) × (a ≡ (on_made t b (made_by x y).answer).bytes)
      go true true f g = absurd (done_refused 0 x (sym f ∙ h))
      go true false f g = rw (f, k) (refl, g)
      go false y f g = rw (f, k) (refl, g)

  -- a book is made, and one pass is over the whole trace
  pub play-made : (m : Answer) (n : ℕ) → Permits (after Make b) m a → m ≡ Ok n → length t ≤ most → Bytes t
      → (i : Cursor) → i ≡ started → (q : Passed) (y : List ℕ) → (q ≡ (passes false i t a).passed) × (y ≡ (passes false i t a).bytes)
      → (r : Played) → r ≡ ended q.cursor
      → (r ≡ (plays t b).played) × (y ≡ (plays t b).bytes)
  unfolding plays made made_by
  play-made m n e h l B i j q y z r k =
      go (leb (start ours.slots) (length b)) refl (leb (length b) longest) refl e.0 e.1
    where
      go : (x : Bool) → leb (start ours.slots) (length b) ≡ x → (v : Bool) → leb (length b) longest ≡ v
          → m ≡ (made_by x v).answer → a ≡ (made_by x v).bytes
          → (r ≡ (on_made t b (made_by x v).answer).played) × (y ≡ (on_made t b (made_by x v).answer).bytes)
      go true p true u f g =
          let s = fresh-pass (length b) (leb-true _ _ p) (leb-true _ _ u) t l B in (
            k
                ∙ ap (λ (c : Passed). ended c.cursor) z.0
                ∙ ap₂ (λ (v : Cursor) (c : List ℕ). ended (passes false v t c).passed.cursor) j g
                ∙ s.0,
            z.1 ∙ ap₂ (λ (v : Cursor) (c : List ℕ). (passes false v t c).bytes) j g ∙ s.1,
          )
      go true p false u f g = absurd (done_refused n BufferSize (sym h ∙ f))
      go false p v u f g = absurd (done_refused n BufferSize (sym h ∙ f))
