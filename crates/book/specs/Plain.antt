-- The calls on a plain list of frames: no bytes of a book, no offsets. Each takes the lent output and the room, in bytes of frames, and gives
-- its answer, the output and the list (REFERENCE, "Book").
-- Assumes nothing.
use Rattle.std.specs.Prelude.{ℕ, cond, List, [], ◌∷◌, ◌++◌, eqb, leb, ltb, length, drop, Result, Ok, Err}
use Rattle.refusal.specs.declared.Refusal.{Refusal}
use Rattle.refusal.specs.declared.Refusal.TheVariants.{NoRoom, NotHeld, OutputShort, NotAKind}
use Rattle.decoder.specs.declared.Decoded.{Decoded}
use Rattle.decoder.specs.Decoding.{decode}
use Rattle.reel.specs.Reel.{reel_of}
use Rattle.contents.specs.Frames.{flat, held}
use Rattle.table.specs.Table.{settings}
use Rattle.settings.specs.Settings.{lacks, slot_for, slot_of}
use Rattle.forms.specs.Forms.{other}

-- A call's answer: done, with the number of bytes written where the call writes to an output and else 0; or why it was refused.
abbrev pub Answer : Type 0
Answer = Result ℕ Refusal

pub record Turn : Type 0 where
  pub answer : Answer
  pub output : List ℕ
  pub frames : List (List ℕ)

-- What is refused leaves the output and the list as they were (REFERENCE, "Refusals").
abbrev pub refuse : Refusal → List ℕ → List (List ℕ) → Turn
refuse x o fs = record { answer = Err x; output = o; frames = fs }

abbrev pub become : List ℕ → List (List ℕ) → Turn
become o fs = record { answer = Ok 0; output = o; frames = fs }

-- Why a frame is no setting, by the decoder's answer: its kind is an action's, or it does not decode.
abbrev pub declined_of : Result Decoded Refusal → Answer
declined_of (Ok d) = Err NotAKind
declined_of (Err x) = Err x

-- ---- the list

-- the frame of a slot
unfoldable pub frame_of : ℕ → List (List ℕ) → List ℕ
frame_of s [] = []
frame_of s (f ∷ fs) = cond (eqb (slot_of f) s) f (frame_of s fs)

-- g in the place of the slot's frame
unfoldable pub swap_in : ℕ → List ℕ → List (List ℕ) → List (List ℕ)
swap_in s g [] = []
swap_in s g (f ∷ fs) = cond (eqb (slot_of f) s) (g ∷ fs) (f ∷ swap_in s g fs)

-- the list without the slot's frame
unfoldable pub without : ℕ → List (List ℕ) → List (List ℕ)
without s [] = []
without s (f ∷ fs) = cond (eqb (slot_of f) s) fs (f ∷ without s fs)

-- the slot whose place a frame of the slot s takes: its own if that is held, and else its other form's (REFERENCE, "Short and long forms")
unfoldable pub seat : ℕ → List (List ℕ) → ℕ
seat s fs = cond (held s fs) s (other s)

-- A setting that is held, in either form, is replaced where it stands; one that is not, though it may have been earlier, comes last.
unfoldable pub placed : List ℕ → List (List ℕ) → List (List ℕ)
placed f fs = cond (held (seat (slot_of f) fs) fs) (swap_in (seat (slot_of f) fs) f fs) (fs ++ (f ∷ []))

-- ---- the calls

-- The frame is decoded before anything else is asked: one that does not decode, or is an action's, is refused for that alone. Then the list as
-- it would be has to fit the room.
unfoldable pub put_on : List ℕ → List ℕ → ℕ → List (List ℕ) → Turn
put_on f o room fs =
    cond (ltb (slot_of f) settings)
    (cond (leb (length (flat (placed f fs))) room) (become o (placed f fs)) (refuse NoRoom o fs))
    (refuse (lacks (decode f)) o fs)

-- What is asked of a kind: first that it is a setting, then that it is held itself; that its other form is does not count.
abbrev pub if_held : ℕ → Turn → List ℕ → List (List ℕ) → Turn
if_held s t o fs = cond (ltb s settings) (cond (held s fs) t (refuse NotHeld o fs)) (refuse NotAKind o fs)

-- The kind's frame goes; the others keep their order.
unfoldable pub remove_on : ℕ → List ℕ → ℕ → List (List ℕ) → Turn
remove_on k o room fs = if_held (slot_for k) (become o (without (slot_for k) fs)) o fs

-- The bytes come first in the output and their number is told; the rest of the output stays. An output that is too short is left alone.
abbrev pub tell : List ℕ → List ℕ → List (List ℕ) → Turn
tell x o fs =
    cond (leb (length x) (length o)) (record { answer = Ok (length x); output = x ++ drop (length x) o; frames = fs }) (refuse OutputShort o fs)

-- a kind's frame
unfoldable pub ask_on : ℕ → List ℕ → ℕ → List (List ℕ) → Turn
ask_on k o room fs = if_held (slot_for k) (tell (frame_of (slot_for k) fs) o fs) o fs

-- every frame, each after its length byte, in the order of the list (REFERENCE, "Reel")
unfoldable pub replay_on : List ℕ → ℕ → List (List ℕ) → Turn
replay_on o room fs = tell (reel_of fs) o fs

-- Nothing is held any more.
unfoldable pub clear_on : List ℕ → ℕ → List (List ℕ) → Turn
clear_on o room fs = become o []
