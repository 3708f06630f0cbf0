-- A trace played in parts: where a playback stands between two parts, and what one pass does with the next bytes (REFERENCE, "Playback").
-- Assumes nothing.
use Rattle.std.specs.Prelude.{ℕ, zero, suc, ◌+◌, ◌-◌, Bool, true, false, cond, List, [], eqb, leb, ltb, length, drop, get_or, Ok, Err}
use Rattle.std.proofs.Math.Option.{Option, none, some}
use Rattle.contents.specs.Contents.{Contents, holds, image, refused}
use Rattle.book.specs.Book.{Edit, layout_in, opened_for, room_in}
use Rattle.day.specs.Days.{fresh, plus}
use Rattle.day.specs.Steps.{State, step}
use Rattle.playback.specs.declared.Stage.{Stage}
use Rattle.playback.specs.declared.Stage.TheVariants.{Header, Records, Stopped}
use Rattle.playback.specs.declared.Cursor.{Cursor}
use Rattle.playback.specs.declared.Passed.{Passed}
use Rattle.playback.specs.declared.Played.{Played}
use Rattle.playback.specs.Trace.{count_in, first_in, fits, record_at, size_at}
use Rattle.playback.specs.Plays.{answer_of}

-- before the first byte
abbrev pub started : Cursor
started = record { stage = Header; day = fresh }

-- nothing that follows alters the day: no record is left, or the trace was at fault
abbrev pub is_over : Stage → Bool
is_over Header = false
is_over (Records left skip at) = eqb left 0
is_over (Stopped at) = true

-- the fault's place, where there was one
abbrev pub stop_of : Stage → Option ℕ
stop_of Header = none
stop_of (Records left skip at) = none
stop_of (Stopped at) = some at

-- what a playback gives that ends where it stands
abbrev pub ended : Cursor → Played
ended c = record { answer = answer_of (stop_of c.stage); day = c.day }

-- ---- a pass on the plain list

-- How far a pass comes: the bytes that it used, where the playback then stands, and the state.
pub record Went : Type 0 where
  pub used : ℕ
  pub stage : Stage
  pub state : State

-- nothing is used
abbrev pub halts : Stage → State → Went
halts g s = record { used = 0; stage = g; state = s }

-- so many bytes are used before it
abbrev pub after : ℕ → Went → Went
after n w = record { used = n + w.used; stage = w.stage; state = w.state }

-- bytes that are no whole record, and never will be: no more are to come, or the direction is none
abbrev pub hopeless : Bool → List ℕ → Bool
hopeless more p = cond more (ltb 1 (get_or p 0 0)) true

-- Whole records, as many as are left and there. What is behind them comes again with more; an offset that would overflow stays.
unfoldable pub pass_records : Bool → ℕ → ℕ → ℕ → List ℕ → State → Went
pass_records more room zero at p s = halts (Records 0 0 at) s
pass_records more room (suc n) at p s =
    cond (fits p) (after (size_at p) (pass_records more room n (plus at (size_at p)) (drop (size_at p) p) (step room (record_at p) s)))
    (cond (hopeless more p) (halts (Stopped at) s) (halts (Records (suc n) 0 at) s))

-- Bytes before the first record are used at once, as far as they are there.
unfoldable pub pass_gap : Bool → ℕ → ℕ → ℕ → ℕ → List ℕ → State → Went
pass_gap more room left skip at p s =
    cond (leb skip (length p)) (after skip (pass_records more room left (plus at skip) (drop skip p) s))
    (cond more (record { used = length p; stage = Records left (skip - length p) (plus at (length p)); state = s })
    (after (length p) (pass_records more room left (plus at skip) [] s)))

-- The header, once it is there whole.
unfoldable pub pass_header : Bool → ℕ → List ℕ → State → Went
pass_header more room p s =
    cond (leb 4 (length p))
    (cond (leb 4 (first_in p)) (after 4 (pass_gap more room (count_in p) (first_in p - 4) 4 (drop 4 p) s)) (halts (Stopped 0) s))
    (cond more (halts Header s) (halts (Stopped 0) s))

-- a pass from each stage
unfoldable pub pass_from : Bool → ℕ → Stage → List ℕ → State → Went
pass_from more room Header p s = pass_header more room p s
pass_from more room (Records left skip at) p s = pass_gap more room left skip at p s
pass_from more room (Stopped at) p s = halts (Stopped at) s

-- ---- on a book's bytes

-- how a pass is handed over
abbrev pub went : Went → Passed
went w = record { answer = Ok w.used; cursor = record { stage = w.stage; day = w.state.day } }

-- what a pass gives, with the book's bytes
pub record Outcome : Type 0 where
  pub passed : Passed
  pub bytes : List ℕ

-- A book that no call may use refuses the pass, and nothing is used or altered; else the pass is on the list that it holds.
abbrev pub on_contents : Bool → Cursor → List ℕ → List ℕ → Contents → Outcome
on_contents more c p b (refused x) = record { passed = record { answer = Err x; cursor = c }; bytes = b }
on_contents more c p b (holds fs) =
    let w : Went = pass_from more (room_in b) c.stage p (record { frames = fs; day = c.day }) in
    record { passed = went w; bytes = image (layout_in b) (length b) w.state.frames }

-- a pass on whatever bytes stand in the buffer
unfoldable pub passes : Bool → Cursor → List ℕ → List ℕ → Outcome
passes more c p b = on_contents more c p b (opened_for Edit b)
