-- What a step of the controller sends, and where it leaves the controller (REFERENCE, "Controller").
-- Assumes nothing.
use Rattle.std.specs.Prelude.{◌≡◌, ℕ, ◌+◌, ◌-◌, ◌<◌, ◌≤◌, Bool, cond, false, true, List, [], eqb, ltb, drop, get_or, length, replicate, take, Option, None, Some, Result, Ok, Err}
use Rattle.refusal.specs.declared.Refusal.{Refusal}
use Rattle.status.specs.declared.CmdStatus.{CmdStatus}
use Rattle.status.specs.declared.CmdStatus.TheVariants as cmd
use Rattle.status.specs.Words.{cmd_in, status_of}
use Rattle.spans.specs.Spans.{written}
use Rattle.contents.specs.Contents.{Contents, holds, refused}
use Rattle.controller.specs.declared.State.{State}
use Rattle.controller.specs.declared.State.TheVariants as state
use Rattle.controller.specs.declared.Sending.{Sending}
use Rattle.controller.specs.declared.Ahead.{Ahead}
use Rattle.controller.specs.declared.Ahead.TheVariants as ahead

-- How a frame may have gone: behind `Ok` and `Data` the work goes on, `Fail`, `PErr` and `Unknown` stop it.
abbrev pub goes_on : CmdStatus → Bool
goes_on cmd.Fail = false
goes_on cmd.PErr = false
goes_on cmd.Ok = true
goes_on cmd.Data = true
goes_on cmd.Unknown = false

-- Whether a status says that the frame before went well. It is read as the status reader reads it: a byte that is not there counts as 0, and one
-- behind the second is not looked at.
abbrev pub is_good : List ℕ → Bool
is_good s = goes_on (cmd_in (status_of s).0)

-- Nothing is left to do in a book of no frames, nor where more are said to be sent than it has.
abbrev pub is_over : ℕ → ℕ → Bool
is_over n sent = cond (eqb n 0) true (ltb n sent)

-- ---- the state

-- behind a step that stops nothing: one frame more is sent, and behind the final read all is done
abbrev pub onward_of : ℕ → ℕ → State
onward_of n sent = cond (ltb sent n) (state.Running (sent + 1)) state.Done

-- The status judges the frame before the one that it came back with: the last of those sent before, counted from 1. The first judges none.
abbrev pub judged_by : ℕ → Bool → State → State
judged_by sent good next = cond (eqb sent 0) next (cond good next (state.Stopped sent))

-- the state behind a step in a book of n frames; a step after the end changes nothing
unfoldable pub heard_on : ℕ → State → Bool → State
heard_on n (state.Running sent) good = cond (is_over n sent) (state.Running sent) (judged_by sent good (onward_of n sent))
heard_on n state.Done good = state.Done
heard_on n (state.Stopped p) good = state.Stopped p

-- ---- what is sent

-- a frame, with zeros behind it; no bytes are the final read
abbrev pub sends : List ℕ → Option Sending
sends f = Some (record { len = length f; frame = written (replicate 12 0) 0 f })

-- the final read: zeros alone
abbrev pub reads : Option Sending
reads = Some (record { len = 0; frame = replicate 12 0 })

-- The frames go out in their order; behind the last one the final read sends no byte.
unfoldable pub sends_of : List (List ℕ) → State → Option Sending
sends_of fs (state.Running sent) = cond (is_over (length fs) sent) None (sends (get_or fs sent []))
sends_of fs state.Done = None
sends_of fs (state.Stopped p) = None

-- ---- over a book as a read finds it: its own refusals come first, whatever the state is

-- the state as it is now, or why the book is refused
abbrev pub Answer : Type 0
Answer = Result State Refusal

-- An empty book is done at once.
abbrev pub start_of : Contents → Answer
start_of (refused x) = Err x
start_of (holds fs) = Ok (cond (eqb (length fs) 0) state.Done (state.Running 0))

-- what is sent, none where the work is over; or why the book is refused
abbrev pub Turn : Type 0
Turn = Result (Option Sending) Refusal

abbrev pub sending_of : Contents → State → Turn
sending_of (refused x) st = Err x
sending_of (holds fs) st = Ok (sends_of fs st)

abbrev pub heard_of : Contents → State → Bool → Answer
heard_of (refused x) st good = Err x
heard_of (holds fs) st good = Ok (heard_on (length fs) st good)

-- ---- for the contracts of single steps: what comes behind so many frames of a reel, and where it lies

pub record LiesAt (reel f : List ℕ) (start end : ℕ) : Type 0 where
  pub forward : start ≤ end
  pub inside : end ≤ length reel
  pub bytes : take (end - start) (drop start reel) ≡ f

-- behind the last frame, `left` of those sent not being there
abbrev pub behind_of : ℕ → ℕ → Ahead
behind_of sent left = cond (ltb 0 left) ahead.Nothing (cond (ltb 0 sent) ahead.Read ahead.Nothing)

unfoldable pub Lies : List ℕ → List (List ℕ) → ℕ → Ahead → Type 0
Lies reel fs sent (ahead.Frame start end) = (sent < length fs) × (sent < length reel) × LiesAt reel (get_or fs sent []) start end
Lies reel fs sent ahead.Read = (0 < sent) × (sent ≡ length fs)
Lies reel fs sent ahead.Nothing = is_over (length fs) sent ≡ true
