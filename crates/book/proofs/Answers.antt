-- Which refusal a call gives, and exactly when: the number of each call's answer, on whatever bytes a book has that can be used (`put-answers`,
-- `remove-answers`, `ask-answers`, `clear-answers`, `replay-answers`), and of a make on any bytes (`make-answers`). Where a book cannot be used, the
-- refusal is the book's own (`ten-first`, `both-refused`, Both.antt).
-- Assumes nothing.
use mathlib.Core.Path.{ap, refl, ◌∙◌, ◌≡◌}
use mathlib.Core.Bool.{Bool, cond, false, true}
use mathlib.Core.List.{List, [], ◌++◌}
use Prim.Native.Nat.{ℕ}
use lib.Dec.{leb, ltb}
use lib.ListN.{drop, length}
use Rattle.refusal.specs.declared.Refusal.TheVariants.{BufferSize, NoRoom, NotAKind, NotHeld, OutputShort}
use Rattle.refusal.specs.Numbers.{number_of}
use Rattle.decoder.specs.Decoding.{Reading, decode, decoded, reading, refuses}
use Rattle.reel.specs.Reel.{reel_of}
use Rattle.table.specs.Table.{settings}
use Rattle.settings.specs.Settings.{lacks, slot_for, slot_of}
use Rattle.contents.specs.Frames.{flat, held}
use Rattle.contents.specs.Contents.{holds, image}
use Rattle.std.specs.Prelude.{Ok, Err}
use Rattle.book.specs.Plain.{Turn, ask_on, become, clear_on, declined_of, frame_of, placed, put_on, refuse, remove_on, replay_on, tell, without}
use Rattle.book.specs.Book.{Edit, Outcome, Read, made, opened_for, ours, room_in}
use Rattle.book.specs.History.{Ask, Call, Clear, Make, Put, Remove, Replay, after, turn, wants}
use Rattle.book.proofs.Laws.{number}
use Rattle.book.proofs.Called.{call-turn}

-- 0 is done

-- a make by the length alone
pub make-answers : (b : List ℕ) → number (after Make b).answer ≡ cond (leb 62 (length b)) (cond (leb (length b) 4096) 0 11) 11
unfolding made
make-answers b = by (leb 62 (length b)) (leb (length b) 4096)
  where
    no : Outcome
    no = record { answer = Err BufferSize; output = []; bytes = b }

    by : (t u : Bool) → number (cond {A = Outcome} t (cond u (record { answer = Ok 0; output = []; bytes = image ours (length b) [] }) no) no).answer
        ≡ cond t (cond u 0 11) 11
    by true true = refl
    by true false = refl
    by false u = refl

-- what a frame is refused by that is no setting's: 13 for an action's, and else as the decoder refuses it
abbrev pub lack_in : Reading → ℕ
lack_in (reading k vs) = 13
lack_in (refuses x) = number_of x

-- and so says the code's own word for it
pub declined-answers : (x : Reading) → number (declined_of (decoded x)) ≡ lack_in x
unfolding decoded
declined-answers (reading k vs) = refl
declined-answers (refuses x) = refl

module _ (b : List ℕ) (fs : List (List ℕ)) where
  told-number : (c : Call) → opened_for (wants c) b ≡ holds fs → (n : ℕ) → number (turn (room_in b) c fs).answer ≡ n → number (after c b).answer ≡ n
  told-number c h n e = ap (λ (x : Outcome). number x.answer) (call-turn b fs c h) ∙ e

  pub put-answers : opened_for Edit b ≡ holds fs → (f : List ℕ)
      → number (after (Put f) b).answer
      ≡ cond (ltb (slot_of f) settings) (cond (leb (length (flat (placed f fs))) (room_in b)) 0 8) (lack_in (decode f))
  unfolding turn put_on
  put-answers h f = told-number (Put f) h _ (by (ltb (slot_of f) settings) (leb (length (flat (placed f fs))) (room_in b)) (decode f))
    where
      by : (t u : Bool) (x : Reading)
          → number (cond {A = Turn} t (cond u (become [] (placed f fs)) (refuse NoRoom [] fs)) (refuse (lacks x) [] fs)).answer
          ≡ cond t (cond u 0 8) (lack_in x)
      by true true x = refl
      by true false x = refl
      by false u (reading k vs) = refl
      by false u (refuses y) = refl

  pub remove-answers : opened_for Edit b ≡ holds fs → (k : ℕ)
      → number (after (Remove k) b).answer ≡ cond (ltb (slot_for k) settings) (cond (held (slot_for k) fs) 0 9) 13
  unfolding turn remove_on
  remove-answers h k = told-number (Remove k) h _ (by (ltb (slot_for k) settings) (held (slot_for k) fs))
    where
      by : (t u : Bool) → number (cond {A = Turn} t (cond u (become [] (without (slot_for k) fs)) (refuse NotHeld [] fs)) (refuse NotAKind [] fs)).answer
          ≡ cond t (cond u 0 9) 13
      by true true = refl
      by true false = refl
      by false u = refl

  tell-number : (x o : List ℕ) → number (tell x o fs).answer ≡ cond (leb (length x) (length o)) 0 12
  tell-number x o = by (leb (length x) (length o))
    where
      by : (t : Bool) → number (cond {A = Turn} t (record { answer = Ok (length x); output = x ++ drop (length x) o; frames = fs })
          (refuse OutputShort o fs)).answer ≡ cond t 0 12
      by true = refl
      by false = refl

  pub ask-answers : opened_for Read b ≡ holds fs → (k : ℕ) (o : List ℕ)
      → number (after (Ask k o) b).answer
      ≡ cond (ltb (slot_for k) settings) (cond (held (slot_for k) fs) (cond (leb (length (frame_of (slot_for k) fs)) (length o)) 0 12) 9) 13
  unfolding turn ask_on
  ask-answers h k o = told-number (Ask k o) h _ (by (ltb (slot_for k) settings) (held (slot_for k) fs))
    where
      f : List ℕ
      f = frame_of (slot_for k) fs

      by : (t u : Bool) → number (cond {A = Turn} t (cond u (tell f o fs) (refuse NotHeld o fs)) (refuse NotAKind o fs)).answer
          ≡ cond t (cond u (cond (leb (length f) (length o)) 0 12) 9) 13
      by true true = tell-number f o
      by true false = refl
      by false u = refl

  pub clear-answers : opened_for Edit b ≡ holds fs → number (after Clear b).answer ≡ 0
  unfolding turn clear_on
  clear-answers h = told-number Clear h 0 refl

  pub replay-answers : opened_for Read b ≡ holds fs → (o : List ℕ) → number (after (Replay o) b).answer ≡ cond (leb (length (reel_of fs)) (length o)) 0 12
  unfolding turn replay_on
  replay-answers h o = told-number (Replay o) h _ (tell-number (reel_of fs) o)
