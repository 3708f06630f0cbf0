-- Every list of calls gives the answers, the outputs and the bytes of the plain list: from any list that a book can hold (`history-from`), and on a
-- fresh book (`history`, `history-made`, and `history-ours` with the numbers). `runs` says it of any calls that do to bytes what they do to a list.
-- Assumes nothing.
use mathlib.Core.Path.{ap, refl, sym, ◌∙◌, ◌≡◌}
use mathlib.Core.List.{List, [], ◌∷◌}
use Prim.Native.Nat.{ℕ, ◌-◌, ◌≤◌}
use native.Mathlib.Omega.{arith}
use borrow.Author.Tests.{le-leb}
use lib.ListN.{length}
use Rattle.contents.specs.Contents.{Layout, holds, image, longest, room_of, start}
use Rattle.contents.proofs.Written.{image-judge, image-length}
use Rattle.forms.proofs.Forms.{forms-single}
use Rattle.book.specs.Plain.{Turn, ask_on, become, clear_on, put_on, remove_on, replay_on}
use Rattle.book.specs.Book.{Edit, Outcome, Read, Use, call, call_for, made, opened, opened_for, ours}
use Rattle.book.specs.History.{Ask, Call, Clear, Make, Put, Remove, Replay, after, on_bytes, on_list, turn}
use Rattle.book.proofs.Calls.{make-fits}
use Rattle.book.proofs.Versions.{Serves, for-layout, image-serves}
use Rattle.book.proofs.Kept.{Kept, empty-kept, turn-kept}

-- ---- runs, whatever the calls are

-- Where each call does to a picture of a list what it does to the list, and keeps what a list needs, so does every list of calls.
module _ {C : Type 0} (on : C → List ℕ → Outcome) (to : C → List (List ℕ) → Turn) (picture : List (List ℕ) → List ℕ) (Fit : List (List ℕ) → Type 0)
    (agrees : (c : C) (fs : List (List ℕ)) → Fit fs → on c (picture fs) ≡ record
    { answer = (to c fs).answer; output = (to c fs).output; bytes = picture (to c fs).frames })
    (keeps : (c : C) (fs : List (List ℕ)) → Fit fs → Fit (to c fs).frames) where
  pub runs : (cs : List C) (fs : List (List ℕ)) → Fit fs
      → on_bytes on cs (picture fs) ≡ record { heard = (on_list to cs fs).heard; bytes = picture (on_list to cs fs).frames }
  unfolding on_bytes on_list
  runs [] fs K = refl
  runs (c ∷ cs) fs K = rw (agrees c fs K, runs cs (to c fs).frames (keeps c fs K))

-- ---- the calls of a whole book

-- of any layout
module _ (l : Layout) (n : ℕ) (low : start l.slots ≤ n) (high : n ≤ longest) where
  -- the image of a list that is kept opens as that list
  pub opened-image : (fs : List (List ℕ)) → Kept l.slots (room_of l n) fs → opened l (image l n fs) ≡ holds fs
  unfolding opened
  opened-image fs K = rw (image-judge l n fs K.sound K.within (omega (arith, K.room)) high, forms-single fs K.forms)

  -- what an outcome is, by the turn on the list
  abbrev pub shown : Turn → Outcome
  shown t = record { answer = t.answer; output = t.output; bytes = image l n t.frames }

  -- a call on an image is the step on its list
  pub call-image : (s : List ℕ → ℕ → List (List ℕ) → Turn) (o : List ℕ) (fs : List (List ℕ)) → Kept l.slots (room_of l n) fs
      → call l s o (image l n fs) ≡ shown (s o (room_of l n) fs)
  unfolding call
  call-image s o fs K = rw (opened-image fs K, image-length l n fs (omega (arith, K.room)))

  made-image : (fs : List (List ℕ)) → Kept l.slots (room_of l n) fs → made l (image l n fs) ≡ shown (become [] [])
  unfolding made
  made-image fs K = rw (image-length l n fs (omega (arith, K.room)), le-leb (start l.slots) n low, le-leb n longest high)

-- and of the one that is made
module _ (n : ℕ) (low : start ours.slots ≤ n) (high : n ≤ longest) where
  module _ (fs : List (List ℕ)) (K : Kept ours.slots (room_of ours n) fs) (u : Use) where
    serving : Serves u ours (image ours n fs)
    serving = image-serves u n fs (omega (arith, K.room)) high

    pub opened_for-image : opened_for u (image ours n fs) ≡ holds fs
    opened_for-image = serving.opens ∙ opened-image ours n low high fs K

    -- a call on it is the step on its list
    pub for-image : (s : List ℕ → ℕ → List (List ℕ) → Turn) (o : List ℕ) → call_for u s o (image ours n fs) ≡ shown ours n low high (s o (room_of ours n) fs)
    for-image s o = for-layout s o (image ours n fs) u ours serving ∙ call-image ours n low high s o fs K

  pub after-image : (c : Call) (fs : List (List ℕ)) → Kept ours.slots (room_of ours n) fs
      → after c (image ours n fs) ≡ shown ours n low high (turn (room_of ours n) c fs)
  unfolding turn
  after-image Make fs K = made-image ours n low high fs K
  after-image (Put f) fs K = for-image fs K Edit (put_on f) []
  after-image (Remove k) fs K = for-image fs K Edit (remove_on k) []
  after-image (Ask k o) fs K = for-image fs K Read (ask_on k) o
  after-image Clear fs K = for-image fs K Edit clear_on []
  after-image (Replay o) fs K = for-image fs K Read replay_on o

  -- THE HISTORY THEOREM, from any list that the book can hold: every list of calls gives the answers and the outputs of the plain list, and
  -- leaves the image of the list.
  pub history-from : (cs : List Call) (fs : List (List ℕ)) → Kept ours.slots (room_of ours n) fs
      → on_bytes after cs (image ours n fs)
      ≡ record { heard = (on_list (turn (room_of ours n)) cs fs).heard; bytes = image ours n (on_list (turn (room_of ours n)) cs fs).frames }
  history-from = runs after (turn (room_of ours n)) (image ours n) (Kept ours.slots (room_of ours n)) after-image
      (turn-kept ours.slots (omega arith) (room_of ours n))

module _ (b : List ℕ) (low : start ours.slots ≤ length b) (high : length b ≤ longest) (cs : List Call) where
  -- on a fresh book of any permitted length, whatever the bytes were before
  pub history :
      on_bytes after cs (made ours b).bytes
      ≡ record {
        heard = (on_list (turn (room_of ours (length b))) cs []).heard;
        bytes = image ours (length b) (on_list (turn (room_of ours (length b))) cs []).frames;
      }
  history =
      ap (on_bytes after cs) (sym (make-fits ours b (image ours (length b) []) low high refl).1)
      ∙ history-from (length b) low high cs [] (empty-kept ours.slots (room_of ours (length b)))

  -- the same with the make as the first call, on whatever bytes there are
  pub history-made :
      on_bytes after (Make ∷ cs) b
      ≡ record {
        heard = (on_list (turn (room_of ours (length b))) (Make ∷ cs) []).heard;
        bytes = image ours (length b) (on_list (turn (room_of ours (length b))) (Make ∷ cs) []).frames;
      }
  unfolding on_bytes on_list turn made
  history-made = rw (history, le-leb (start ours.slots) (length b) low, le-leb (length b) longest high)

-- A buffer of 62 to 4,096 bytes, whatever stands in it, made and then called in any way: 62 bytes are the book's own, the rest is room.
pub history-ours : (b : List ℕ) → 62 ≤ length b → length b ≤ 4096 → (cs : List Call)
    → on_bytes after (Make ∷ cs) b
    ≡ record {
      heard = (on_list (turn (length b - 62)) (Make ∷ cs) []).heard;
      bytes = image ours (length b) (on_list (turn (length b - 62)) (Make ∷ cs) []).frames;
    }
history-ours b low high cs = history-made b low high cs
