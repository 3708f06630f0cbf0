-- A whole trace, played on a fresh book that is made in the lent buffer (REFERENCE, "Playback").
-- Assumes nothing.
use Rattle.std.specs.Prelude.{ℕ, List, length, Ok, Err}
use Rattle.std.proofs.Math.Option.{Option, none, some}
use Rattle.refusal.specs.declared.Refusal.TheVariants.{TraceFault}
use Rattle.contents.specs.Contents.{image, room_of}
use Rattle.book.specs.Plain.{Answer}
use Rattle.book.specs.Book.{ours}
use Rattle.book.specs.History.{Make, after}
use Rattle.day.specs.Days.{fresh}
use Rattle.day.specs.Steps.{State, day_on, morning}
use Rattle.playback.specs.declared.Played.{Played}
use Rattle.playback.specs.Trace.{Found, traced}

-- What playing gives: the state of the records before a fault, and its place, if there is one.
pub record Run : Type 0 where
  pub state : State
  pub stop : Option ℕ

-- the records that were found, on a state
abbrev pub run_on : ℕ → Found → State → Run
run_on room f s = record { state = day_on room f.records s; stop = f.stop }

-- a trace on a fresh book with that room
unfoldable pub run_in : ℕ → List ℕ → Run
run_in room t = run_on room (traced t) morning

-- a fault is refused, with its place (REFERENCE, "Refusals")
abbrev pub answer_of : Option ℕ → Answer
answer_of none = Ok 0
answer_of (some at) = Err (TraceFault at)

-- how a run is handed over
abbrev pub handed : Run → Played
handed r = record { answer = answer_of r.stop; day = r.state.day }

-- ---- on a buffer's bytes

-- what a playback gives, with the book's bytes
pub record Outcome : Type 0 where
  pub played : Played
  pub bytes : List ℕ

-- where no book can be made nothing is played and nothing altered; else the book is that of the run's list, also where the run stopped
abbrev pub on_made : List ℕ → List ℕ → Answer → Outcome
on_made t b (Err x) = record { played = record { answer = Err x; day = fresh }; bytes = b }
on_made t b (Ok n) =
    record { played = handed (run_in (room_of ours (length b)) t); bytes = image ours (length b) (run_in (room_of ours (length b)) t).state.frames }

-- a playback on whatever bytes stand in the buffer
unfoldable pub plays : List ℕ → List ℕ → Outcome
plays t b = on_made t b (after Make b).answer
