-- What a replay into an output that takes every reel tells: the book's own refusal (`replay-refused`), or all frames that the book holds
-- (`replay-told`); and that each of these has 1 to 12 bytes (`opened-fits`).
-- Assumes nothing.
use mathlib.Core.Path.{ap, ap₂, refl, sym, ◌∙◌, ◌≡◌}
use mathlib.Core.List.{List, [], ◌++◌, ◌∷◌}
use Prim.Native.Nat.{ℕ, ◌-◌, ◌<◌, ◌≤◌}
use native.Mathlib.Omega.{arith}
use borrow.Author.Tests.{le-leb}
use lib.ListN.{drop, length, length-append, take}
use lib.Seq.{take-append_seam}
use Rattle.refusal.specs.declared.Refusal.{Refusal}
use Rattle.reel.specs.Reel.{reel_of}
use Rattle.settings.specs.Settings.{size_of, slot_of}
use Rattle.settings.proofs.Settings.{size-high, size_low, slot_of-length}
use Rattle.contents.specs.Contents.{Contents, Layout, holds, refused}
use Rattle.contents.proofs.Shape.{Sound}
use Rattle.std.specs.Prelude.{Ok, Err}
use Rattle.book.specs.Plain.{replay_on, Answer}
use Rattle.book.specs.Book.{Read, call_for, layout_in, longest_reel, on_contents, opened, opened_for, room_in}
use Rattle.book.specs.History.{Replay, after}
use Rattle.book.proofs.Calls.{done_refused}
use Rattle.book.proofs.Kept.{opened-kept}
use Rattle.book.proofs.Versions.{opened_for-opened}
use Rattle.book.proofs.Single.{replay-most}

-- ---- a replay

-- what was told of a book: its frames, as a reel in the first n bytes of the output
pub record Replayed (b out : List ℕ) (n : ℕ) : Type 0 where
  pub frames : List (List ℕ)
  pub opens : opened_for Read b ≡ holds frames
  pub size : n ≡ length (reel_of frames)
  pub most : n ≤ longest_reel
  pub fits : n ≤ length out
  pub reel : take (n - 0) out ≡ reel_of frames

module _ (b o : List ℕ) (long : longest_reel ≤ length o) where
  replayed : (fs : List (List ℕ)) → opened_for Read b ≡ holds fs
      → replay_on o (room_in b) fs
      ≡ record { answer = Ok (length (reel_of fs)); output = reel_of fs ++ drop (length (reel_of fs)) o; frames = fs }
  unfolding replay_on
  replayed fs h = rw (le-leb (length (reel_of fs)) (length o) (omega (arith, replay-most (layout_in b) b fs (opened_for-opened Read b fs h))))

  pub replay-refused : (a : Answer) (x : Refusal) → a ≡ (after (Replay o) b).answer → a ≡ Err x → opened_for Read b ≡ refused x
  unfolding call_for
  replay-refused a x e z = go (opened_for Read b) refl e
    where
      go : (q : Contents) → opened_for Read b ≡ q → a ≡ (on_contents (layout_in b) replay_on o b q).answer → q ≡ refused x
      go (refused y) h r = let u : Err y ≡ Err x = sym r ∙ z in cc
      go (holds fs) h r = absurd (done_refused (length (reel_of fs)) x (sym (r ∙ rw (replayed fs h) refl) ∙ z))

  pub replay-told : (a : Answer) (n : ℕ) (out : List ℕ) → a ≡ (after (Replay o) b).answer → out ≡ (after (Replay o) b).output → a ≡ Ok n
      → Replayed b out n
  unfolding call_for
  replay-told a n out e f z = go (opened_for Read b) refl e f
    where
      go : (q : Contents) → opened_for Read b ≡ q → a ≡ (on_contents (layout_in b) replay_on o b q).answer
          → out ≡ (on_contents (layout_in b) replay_on o b q).output → Replayed b out n
      go (refused y) h r s = absurd (done_refused n y (sym z ∙ r))
      go (holds fs) h r s =
          let u : Ok (length (reel_of fs)) ≡ Ok n = sym (r ∙ rw (replayed fs h) refl) ∙ z in
          let m : n ≡ length (reel_of fs) = cc in
          let k : n - 0 ≡ length (reel_of fs) = omega arith in
          let g : out ≡ reel_of fs ++ drop (length (reel_of fs)) o = s ∙ rw (replayed fs h) refl in
          record {
            frames = fs;
            opens = h;
            size = m;
            most = omega (arith, replay-most (layout_in b) b fs (opened_for-opened Read b fs h));
            fits = omega (arith, ap length g, length-append (reel_of fs) (drop (length (reel_of fs)) o));
            reel = ap₂ (λ (i : ℕ) (x : List ℕ). take i x) k g ∙ take-append_seam (reel_of fs) (drop (length (reel_of fs)) o);
          }

-- ---- the frames of a book

pub record Fit (f : List ℕ) : Type 0 where
  pub some : 0 < length f
  pub short : length f ≤ 12

abbrev pub Fits : List (List ℕ) → Type 0
Fits [] = Unit {0}
Fits (f ∷ fs) = Fit f × Fits fs

pub sound-fits : (fs : List (List ℕ)) → Sound fs → Fits fs
sound-fits [] s = tt
sound-fits (f ∷ fs) s =
    let n : length f ≡ size_of (slot_of f) = slot_of-length f s.0 in (
      record { some = omega (arith, size_low (slot_of f) s.0); short = omega (arith, size-high (slot_of f) s.0) },
      sound-fits fs s.2,
    )

pub opened-fits : (l : Layout) (b : List ℕ) (fs : List (List ℕ)) → opened l b ≡ holds fs → Fits fs
opened-fits l b fs e = sound-fits fs (opened-kept l b fs e).sound
