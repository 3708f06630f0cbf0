-- What the text says: its last line is that of the state in which the controller's own run ends on these statuses (`played-run`), words behind the end
-- change nothing (`over-unread`), and a byte's two digits are read as that byte (`hex-reads`).
-- Assumes nothing.
use mathlib.Core.Path.{◌≡◌, refl, sym, ap, ◌∙◌}
use mathlib.Core.Bool.{Bool, cond, false, false≢true, true}
use mathlib.Core.List.{List, [], ◌∷◌, map}
use Prim.Native.Nat.{ℕ, ◌+◌, ◌/◌, ◌%◌, ◌<◌, ◌≤◌}
use native.Mathlib.Omega.{arith}
use borrow.Author.Tests.{ltb-false, ltb-true}
use lib.Dec.{ltb}
use Rattle.status_list.specs.Words.{Word, digit_of, is_status, pair_of, status_in}
use Rattle.status_list.proofs.Bytes.{digit-decimal, digit-lower}
use Rattle.contents.specs.Contents.{Contents, holds, refused}
use Rattle.book.specs.Book.{Read, opened_for}
use Rattle.controller.specs.declared.State.{State}
use Rattle.controller.specs.declared.State.TheVariants.{Done, Running, Stopped}
use Rattle.controller.specs.Controller.{heard_on, sending_of}
use Rattle.controller.specs.Runs.{run}
use Rattle.control_text.specs.Text.{Play, behind, closed, closing, halt_of, heard, hex_digit, is_running, played_from, sent_of, step_line, wrong}
use Rattle.control_text.proofs.Turns.{played-over}

-- ---- behind the end

pub over-unread : (q : Contents) (st : State) (s : List ℕ) (ws vs : List Word) → is_running st ≡ false → played_from q st s ws ≡ played_from q st s vs
over-unread q st s ws vs e = played-over q st s ws e ∙ sym (played-over q st s vs e)

over-kept : (q : Contents) (st : State) (x : List ℕ) → is_running st ≡ false → heard q st x ≡ st
unfolding heard_on
over-kept (refused y) st x e = refl
over-kept (holds fs) Done x e = refl
over-kept (holds fs) (Stopped p) x e = refl
over-kept (holds fs) (Running sent) x e = absurd (false≢true (sym e))

-- ---- the controller's own run

abbrev pub statuses : List Word → List (List ℕ)
statuses ws = map (λ (w : Word). status_in w.bytes) ws

abbrev pub AllStatuses : List Word → Type 0
AllStatuses [] = Unit {0}
AllStatuses (w ∷ ws) = (is_status w.bytes ≡ true) × AllStatuses ws

-- the last line is that of a state, behind some status, and so is what ended the run
pub record Ends (st : State) (p : Play) : Type 0 where
  pub status : List ℕ
  pub last : p.last ≡ closing st status
  pub halt : p.halt ≡ halt_of st

module _ (b : List ℕ) where
  abbrev q : Contents
  q = opened_for Read b

  over-run : (st : State) (ss : List (List ℕ)) → is_running st ≡ false → (run b st ss).state ≡ st
  unfolding run
  over-run st [] e = refl
  over-run st (x ∷ ss) e = ap (λ (z : State). (run b z ss).state) (over-kept q st x e) ∙ over-run st ss e

  pub played-run : (ws : List Word) (st : State) (s : List ℕ) → AllStatuses ws → Ends (run b st (statuses ws)).state (played_from q st s ws)
  unfolding played_from run
  played-run [] st s a = record { status = s; last = refl; halt = refl }
  played-run (w ∷ ws) st s a = go (is_running st) refl (played-run ws (heard q st x) x a.1)
    where
      x : List ℕ
      x = status_in w.bytes

      rest : Play
      rest = played_from q (heard q st x) x ws

      end : State
      end = (run b st (statuses (w ∷ ws))).state

      go : (t : Bool) → is_running st ≡ t → Ends end rest
          → Ends end (cond t (cond (is_status w.bytes) (behind (step_line (sent_of st) (sending_of q st) x) rest) (wrong w)) (closed st s))
      go true e ih = rw a.0 (record { status = ih.status; last = ih.last; halt = ih.halt })
      go false e ih =
          let is : st ≡ end = sym (over-run st (statuses (w ∷ ws)) e) in
          record { status = s; last = ap (λ (z : State). closing z s) is; halt = ap halt_of is }

-- ---- bytes

digit-reads : (n : ℕ) → n < 16 → digit_of (hex_digit n) ≡ n
digit-reads n h = go (ltb n 10) refl
  where
    go : (t : Bool) → ltb n 10 ≡ t → digit_of (cond t (48 + n) (87 + n)) ≡ n
    go true e = let k : n < 10 = ltb-true n 10 e in digit-decimal (48 + n) (omega arith) (omega arith) ∙ omega arith
    go false e = let k : 10 ≤ n = ltb-false n 10 e in digit-lower (87 + n) (omega arith) (omega arith) ∙ omega arith

pub hex-reads : (b : ℕ) → b < 256 → pair_of (hex_digit (b / 16)) (hex_digit (b % 16)) ≡ b
hex-reads b h = omega (arith, digit-reads (b / 16) (omega arith), digit-reads (b % 16) (omega arith))
