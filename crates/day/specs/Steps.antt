-- The day as one fold: what each record makes of the state that the one before left (REFERENCE, "Playback").
-- Assumes nothing.
use Rattle.std.specs.Prelude.{ℕ, cond, List, [], ◌∷◌}
use Rattle.decoder.specs.Decoding.{decode}
use Rattle.book.specs.Plain.{put_on}
use Rattle.book.specs.History.{Put, after}
use Rattle.day.specs.declared.Day.{Day}
use Rattle.day.specs.Days.{fresh, is_action, kind_in, noted, on_received, tallied}

-- A record of a trace: the bytes of a command, or of an answer.
pub data Record : Type 0 where
  sent : List ℕ → Record
  received : List ℕ → Record

-- ---- on the plain list

-- What records go over: the list of the book's frames, and the day's numbers.
pub record State : Type 0 where
  pub frames : List (List ℕ)
  pub day : Day

-- no record yet: nothing is held, nothing was counted or read
abbrev pub morning : State
morning = record { frames = []; day = fresh }

-- Every command is put, in a book with that room, unless it decodes to an action.
unfoldable pub on_sent : ℕ → List ℕ → State → State
on_sent room f s =
    cond (is_action (decode f)) (record { frames = s.frames; day = noted (kind_in (decode f)) s.day })
    (record {
      frames = (put_on f [] room s.frames).frames;
      day = tallied (kind_in (decode f)) (put_on f [] room s.frames).answer s.day;
    })

-- An answer leaves the book alone.
abbrev pub step : ℕ → Record → State → State
step room (sent f) s = on_sent room f s
step room (received b) s = record { frames = s.frames; day = on_received b s.day }

-- the one fold: each record on the state that the one before left
unfoldable pub day_on : ℕ → List Record → State → State
day_on room [] s = s
day_on room (r ∷ rs) s = day_on room rs (step room r s)

-- ---- on a book's bytes

-- the numbers after a command, by what the book's own put answers
unfoldable pub sent_day : List ℕ → List ℕ → Day → Day
sent_day f b d = cond (is_action (decode f)) (noted (kind_in (decode f)) d) (tallied (kind_in (decode f)) (after (Put f) b).answer d)

-- and the bytes that the book then has
unfoldable pub sent_bytes : List ℕ → List ℕ → List ℕ
sent_bytes f b = cond (is_action (decode f)) b (after (Put f) b).bytes

-- the same of any record
abbrev pub step_day : Record → List ℕ → Day → Day
step_day (sent f) b d = sent_day f b d
step_day (received x) b d = on_received x d

abbrev pub step_bytes : Record → List ℕ → List ℕ
step_bytes (sent f) b = sent_bytes f b
step_bytes (received x) b = b
