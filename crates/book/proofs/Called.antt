-- The calls in their contracts' words (`after`), on any bytes that can be used, however they came about.
--     call-turn          a call is the turn on the list that the book holds: so each law of the list (Laws.antt) is a law of the call
--     edit-leaves        and what an edit leaves can be read and edited, and holds that turn's list
--     history-stored     every list of calls on a book that can be edited gives the answers and the bytes of its list
--     stored-opens       and leaves it so that it can be read and edited
--     reads-leave        an ask and a replay leave the bytes, accepted or refused
-- Assumes nothing.
use mathlib.Core.Path.{ap, refl, subst, sym, ◌∙◌, ◌≡◌}
use mathlib.Core.Bool.{false≢true, true}
use mathlib.Core.List.{List, []}
use Prim.Native.Nat.{ℕ}
use native.Mathlib.Omega.{arith}
use borrow.Author.Tests.{le-leb}
use lib.ListN.{length}
use Rattle.contents.specs.Contents.{Contents, Layout, holds, image, refused, room_of}
use Rattle.contents.proofs.Judged.{Bytes, Reads, judge-reads}
use Rattle.book.specs.Plain.{Turn, ask_on, become, clear_on, put_on, remove_on, replay_on}
use Rattle.book.specs.Book.{Edit, Outcome, Read, Use, call_for, layout_in, made, on_contents, opened_for, ours, room_in, verdict}
use Rattle.book.specs.History.{Ask, BytesRun, Call, Clear, Make, Put, Remove, Replay, after, is_read, on_bytes, on_list, turn, wants}
use Rattle.book.proofs.Calls.{opened-bytes, opened-judge}
use Rattle.book.proofs.Versions.{edit-opened, edit-serves}
use Rattle.book.proofs.Kept.{Kept, opened-kept, turn-kept, turns-kept}
use Rattle.book.proofs.History.{history-from, opened_for-image}
use Rattle.book.proofs.Reading.{ask-frames, read-frames, stays}

-- what a turn gives, on a buffer's bytes
abbrev pub shown_in : List ℕ → Turn → Outcome
shown_in b t = record { answer = t.answer; output = t.output; bytes = image (layout_in b) (length b) t.frames }

module _ (b : List ℕ) (fs : List (List ℕ)) where
  pub stepped : (u : Use) → opened_for u b ≡ holds fs → (s : List ℕ → ℕ → List (List ℕ) → Turn) (o : List ℕ) → call_for u s o b ≡ shown_in b (s o (room_in b) fs)
  unfolding call_for
  stepped u h s o = rw h

  -- what can be edited is of our layout, and has its size
  pub sized : opened_for Edit b ≡ holds fs → Reads ours b fs
  sized h = judge-reads ours b fs (opened-judge ours b fs (edit-opened b fs h))

  own-layout : opened_for Edit b ≡ holds fs → layout_in b ≡ ours
  own-layout h = (edit-serves b 0 (sym (ap verdict h))).layout

  remade : opened_for Edit b ≡ holds fs → made ours b ≡ shown_in b (become [] [])
  unfolding made
  remade h = rw (le-leb _ _ (sized h).small, le-leb _ _ (sized h).big, own-layout h)

  pub call-turn : (c : Call) → opened_for (wants c) b ≡ holds fs → after c b ≡ shown_in b (turn (room_in b) c fs)
  unfolding turn
  call-turn Make h = remade h
  call-turn (Put f) h = stepped Edit h (put_on f) []
  call-turn (Remove k) h = stepped Edit h (remove_on k) []
  call-turn (Ask k o) h = stepped Read h (ask_on k) o
  call-turn Clear h = stepped Edit h clear_on []
  call-turn (Replay o) h = stepped Read h replay_on o

  module _ (h : opened_for Edit b ≡ holds fs) where
    pub kept : Kept ours.slots (room_of ours (length b)) fs
    kept = opened-kept ours b fs (edit-opened b fs h)

    -- what an edit leaves can be read and edited, and holds the turn's list
    pub edit-leaves : (c : Call) → wants c ≡ Edit → (u : Use) → opened_for u (after c b).bytes ≡ holds (turn (room_in b) c fs).frames
    edit-leaves c e u =
        let h' : opened_for (wants c) b ≡ holds fs = ap (λ (v : Use). opened_for v b) e ∙ h in
        let room : room_in b ≡ room_of ours (length b) = ap (λ (l : Layout). room_of l (length b)) (own-layout h) in
        ap (λ (x : Outcome). opened_for u x.bytes) (call-turn c h')
        ∙ ap (λ (l : Layout). opened_for u (image l (length b) (turn (room_in b) c fs).frames)) (own-layout h)
        ∙ opened_for-image (length b) (sized h).small (sized h).big (turn (room_in b) c fs).frames
        (subst (λ (n : ℕ). Kept ours.slots (room_of ours (length b)) (turn n c fs).frames) (sym room)
        (turn-kept ours.slots (omega arith) (room_of ours (length b)) c fs kept)) u

    -- what can be edited can be read
    pub edit-reads : Bytes b → opened_for Read b ≡ holds fs
    edit-reads B =
        ap (opened_for Read) (opened-bytes ours b fs B (edit-opened b fs h))
        ∙ opened_for-image (length b) (sized h).small (sized h).big fs kept Read

    -- A BOOK THAT CAN BE EDITED, HOWEVER IT CAME ABOUT, is from there on the plain list that it holds
    pub history-stored : Bytes b → (cs : List Call)
        → on_bytes after cs b
        ≡ record {
          heard = (on_list (turn (room_of ours (length b))) cs fs).heard;
          bytes = image ours (length b) (on_list (turn (room_of ours (length b))) cs fs).frames;
        }
    history-stored B cs =
        ap (on_bytes after cs) (opened-bytes ours b fs B (edit-opened b fs h))
        ∙ history-from (length b) (sized h).small (sized h).big cs fs kept

    -- after which it can still be read and edited
    pub stored-opens : Bytes b → (cs : List Call) (u : Use)
        → opened_for u (on_bytes after cs b).bytes ≡ holds (on_list (turn (room_of ours (length b))) cs fs).frames
    stored-opens B cs u =
        ap (λ (r : BytesRun). opened_for u r.bytes) (history-stored B cs)
        ∙ opened_for-image (length b) (sized h).small (sized h).big (on_list (turn (room_of ours (length b))) cs fs).frames
        (turns-kept ours.slots (omega arith) (room_of ours (length b)) cs fs kept) u

-- ---- reads

module _ (b : List ℕ) (B : Bytes b) where
  left_alone : (s : List ℕ → ℕ → List (List ℕ) → Turn) (o : List ℕ) → ((fs : List (List ℕ)) → (s o (room_in b) fs).frames ≡ fs) → (call_for Read s o b).bytes ≡ b
  unfolding call_for
  left_alone s o e = go (opened_for Read b) refl
    where
      go : (c : Contents) → opened_for Read b ≡ c → (on_contents (layout_in b) s o b (opened_for Read b)).bytes ≡ b
      go (refused x) w = rw w
      go (holds fs) w = ap (λ (x : Outcome). x.bytes) (stays Read b B fs w s o (e fs))

  -- AN ASK AND A REPLAY LEAVE THE BYTES, whatever these are and whatever is answered
  pub reads-leave : (c : Call) → is_read c ≡ true → (after c b).bytes ≡ b
  unfolding turn replay_on
  reads-leave Make n = absurd (false≢true n)
  reads-leave (Put f) n = absurd (false≢true n)
  reads-leave (Remove k) n = absurd (false≢true n)
  reads-leave (Ask k o) n = left_alone (ask_on k) o (ask-frames k o (room_in b))
  reads-leave Clear n = absurd (false≢true n)
  reads-leave (Replay o) n = left_alone replay_on o (read-frames (room_in b) (Replay o) n)
