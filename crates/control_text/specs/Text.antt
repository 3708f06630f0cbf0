-- What the program `control` prints of a run, to the byte (REFERENCE, "Controller"): by the contracts of the controller, step for step.
-- Assumes nothing.
use Rattle.std.specs.Prelude.{ℕ, ◌+◌, ◌*◌, ◌/◌, ◌%◌, ◌≤◌, ◌≡◌, Bool, cond, not, List, [], ◌∷◌, ◌++◌, map, eqb, leb, ltb, length, take, None, Some, Err, Ok}
use Rattle.reading.specs.Decimal.{decimal}
use Rattle.texts.specs.Words.{word, line}
use Rattle.texts.specs.Written.{Puts}
use Rattle.refusal.specs.Numbers.{number_of}
use Rattle.status.specs.declared.CmdStatus.{CmdStatus}
use Rattle.status.specs.declared.CmdStatus.TheVariants as cmd
use Rattle.status.specs.Words.{cmd_in, status_of}
use Rattle.status_list.specs.Words.{Word, is_status, status_in, words_in}
use Rattle.forms.specs.Forms.{most_frames}
use Rattle.contents.specs.Contents.{Contents}
use Rattle.book.specs.Book.{Read, opened_for}
use Rattle.controller.specs.declared.State.{State}
use Rattle.controller.specs.declared.State.TheVariants.{Done, Running, Stopped}
use Rattle.controller.specs.Controller.{Answer, Turn, heard_of, is_good, sending_of, start_of}
use Rattle.controller.specs.Runs.{is_ended, kept}
use Rattle.control_text.specs.declared.Halt.{Halt}
use Rattle.control_text.specs.declared.Halt.TheVariants.{Ended, Waiting, Wrong}
use Rattle.control_text.specs.declared.Played.{Played}

-- 128 bytes for each step of the longest run and for the last line: no text is longer, as proofs/Longest.antt shows
abbrev pub longest : ℕ
longest = 128 * (most_frames + 2)

-- ---- a step's line

-- the byte of a hex digit in lower case: '0' is 48, 'a' is 97
abbrev pub hex_digit : ℕ → ℕ
hex_digit n = cond (ltb n 10) (48 + n) (87 + n)

-- a byte in two digits
unfoldable pub hex_of : ℕ → List ℕ
hex_of b = hex_digit (b / 16) ∷ hex_digit (b % 16) ∷ []

abbrev pub cmd_name : CmdStatus → List ℕ
cmd_name cmd.Fail = word "Fail"
cmd_name cmd.PErr = word "PErr"
cmd_name cmd.Ok = word "Ok"
cmd_name cmd.Data = word "Data"
cmd_name cmd.Unknown = word "Unknown"

-- the name that a status has, read as the status reader reads it
unfoldable pub status_name : List ℕ → List ℕ
status_name s = cmd_name (cmd_in (status_of s).0)

-- A status judges the frame before the one that it came back with: with the first frame it judges none.
abbrev pub is_first : ℕ → Bool
is_first sent = eqb sent 0

-- which frame is judged, and how it went
unfoldable pub judged_words : ℕ → List ℕ → List (List ℕ)
judged_words sent s = cond (is_first sent) [] (word "judged" ∷ decimal sent ∷ status_name s ∷ [])

-- The final read sends no byte.
abbrev pub is_read : ℕ → Bool
is_read n = eqb n 0

-- what the step sent, the bytes of a frame or the final read; where the work is over there is nothing to say
unfoldable pub turn_words : Turn → List (List ℕ)
turn_words (Ok (Some s)) = cond (is_read s.len) (word "read" ∷ []) (word "sent" ∷ map hex_of (take s.len s.frame))
turn_words (Ok None) = []
turn_words (Err x) = []

-- the step behind so many frames: its number, the frame that is judged and how it went, and what is sent
unfoldable pub step_line : ℕ → Turn → List ℕ → List ℕ
step_line sent x s = line (decimal (sent + 1)) (judged_words sent s ++ turn_words x)

-- ---- the last line

-- by the state in which the run is left, and the last status heard
unfoldable pub closing : State → List ℕ → List ℕ
closing (Running sent) s = line (word "waiting") (decimal sent ∷ [])
closing Done s = line (word "done") []
closing (Stopped p) s = line (word "stopped") (decimal p ∷ status_name s ∷ [])

-- ---- a run

-- the lines of its steps, its last line, and what ended it
pub record Play : Type 0 where
  pub lines : List ℕ
  pub last : List ℕ
  pub halt : Halt

abbrev pub text_of : Play → List ℕ
text_of p = p.lines ++ p.last

abbrev pub is_running : State → Bool
is_running st = not (is_ended st)

abbrev pub sent_of : State → ℕ
sent_of (Running sent) = sent
sent_of Done = 0
sent_of (Stopped p) = 0

-- a run that has something to do left waits for a status
abbrev pub halt_of : State → Halt
halt_of st = cond (is_running st) Waiting Ended

-- nothing more is played
abbrev pub closed : State → List ℕ → Play
closed st s = record { lines = []; last = closing st s; halt = halt_of st }

-- a word that is no status: nothing more is played, and there is no last line
abbrev pub wrong : Word → Play
wrong w = record { lines = []; last = []; halt = Wrong w.start (w.start + length w.bytes) }

-- a step's line before the others
abbrev pub behind : List ℕ → Play → Play
behind l p = record { lines = l ++ p.lines; last = p.last; halt = p.halt }

-- the state behind a step
abbrev pub heard : Contents → State → List ℕ → State
heard q st s = kept st (heard_of q st (is_good s))

-- From a state on, behind a status, with these words to come. A step is played where the work is not over and its status is there; words behind the end
-- are not looked at.
unfoldable pub played_from : Contents → State → List ℕ → List Word → Play
played_from q st s [] = closed st s
played_from q st s (w ∷ ws) =
    cond (is_running st)
    (cond (is_status w.bytes)
    (behind (step_line (sent_of st) (sending_of q st) (status_in w.bytes)) (played_from q (heard q st (status_in w.bytes)) (status_in w.bytes) ws))
    (wrong w))
    (closed st s)

-- before the first status
abbrev pub unheard : List ℕ
unheard = 0 ∷ 0 ∷ []

-- A refused book is told by its number alone.
abbrev pub played_by : Contents → List Word → Answer → Play
played_by q ws (Ok st) = played_from q st unheard ws
played_by q ws (Err x) = record { lines = []; last = line (word "refused") (decimal (number_of x) ∷ []); halt = Ended }

-- a run of a book as a read finds it
unfoldable pub played : Contents → List Word → Play
played q ws = played_by q ws (start_of q)

-- ---- as the source hands it over

-- where the last line begins, and where it ends
abbrev pub told_of : Play → Played
told_of p = record { steps = length p.lines; len = length (text_of p); halt = p.halt }

-- an output with less room is left alone, and nothing is played
abbrev pub played_in : Play → List ℕ → Played
played_in p out = cond (leb longest (length out)) (told_of p) (record { steps = 0; len = 0; halt = Waiting })

-- ---- for the contracts of single steps

-- a run from its first state on
abbrev pub run_of : List ℕ → State → List ℕ → Play
run_of b st text = played_from (opened_for Read b) st unheard (words_in text)

-- the last line of a run stands at a place
pub record Closes (s : List ℕ) (st : State) (at : ℕ) (before : List ℕ) (r : Played) (after : List ℕ) : Type 0 where
  pub steps : r.steps ≡ at
  pub halt : r.halt ≡ halt_of st
  pub puts : Puts (closing st s) at before r.len after

-- no more bytes go out than a frame has
abbrev pub Short : Turn → Type 0
Short (Ok (Some s)) = s.len ≤ 12
Short (Ok None) = Unit {0}
Short (Err x) = Unit {0}

-- a word that ended a run lies in a text of n bytes
abbrev pub Within : ℕ → Halt → Type 0
Within n Ended = Unit {0}
Within n Waiting = Unit {0}
Within n (Wrong start end) = (start ≤ end) × (end ≤ n)
