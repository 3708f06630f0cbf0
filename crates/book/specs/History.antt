-- A list of calls, one after the other: on a book's bytes, and on the plain list.
-- Assumes nothing.
use Rattle.std.specs.Prelude.{◌≡◌, ℕ, Bool, true, List, [], ◌∷◌}
use Rattle.book.specs.Plain.{Turn, ask_on, become, clear_on, put_on, remove_on, replay_on, Answer}
use Rattle.book.specs.Book.{Edit, Outcome, Read, Use, call_for, made, ours, to_read}

-- ---- runs, whatever the calls are

-- what a caller is given
pub record Heard : Type 0 where
  pub answer : Answer
  pub output : List ℕ

pub record BytesRun : Type 0 where
  pub heard : List Heard
  pub bytes : List ℕ

pub record ListRun : Type 0 where
  pub heard : List Heard
  pub frames : List (List ℕ)

-- each call on the bytes that the one before left
unfoldable pub on_bytes : {C : Type 0} → (C → List ℕ → Outcome) → List C → List ℕ → BytesRun
on_bytes after [] b = record { heard = []; bytes = b }
on_bytes after (c ∷ cs) b =
    record {
      heard = record { answer = (after c b).answer; output = (after c b).output } ∷ (on_bytes after cs (after c b).bytes).heard;
      bytes = (on_bytes after cs (after c b).bytes).bytes;
    }

-- each call on the list that the one before left
unfoldable pub on_list : {C : Type 0} → (C → List (List ℕ) → Turn) → List C → List (List ℕ) → ListRun
on_list turn [] fs = record { heard = []; frames = fs }
on_list turn (c ∷ cs) fs =
    record {
      heard = record { answer = (turn c fs).answer; output = (turn c fs).output } ∷ (on_list turn cs (turn c fs).frames).heard;
      frames = (on_list turn cs (turn c fs).frames).frames;
    }

-- ---- the calls of a whole book

-- The calls of a book (REFERENCE, "Book"). Ask and replay have the output that is lent.
pub data Call : Type 0 where
  Make : Call
  Put : List ℕ → Call
  Remove : ℕ → Call
  Ask : ℕ → List ℕ → Call
  Clear : Call
  Replay : List ℕ → Call

-- what a call wants of a book; a make asks nothing of one, and counts as an edit
abbrev pub wants : Call → Use
wants Make = Edit
wants (Put f) = Edit
wants (Remove k) = Edit
wants (Ask k o) = Read
wants Clear = Edit
wants (Replay o) = Read

-- whether a call only reads
abbrev pub is_read : Call → Bool
is_read c = to_read (wants c)

-- calls that only read
abbrev pub OnlyReads : List Call → Type 0
OnlyReads [] = Unit {0}
OnlyReads (c ∷ cs) = (is_read c ≡ true) × OnlyReads cs

-- What a call makes of bytes: the contract of each function says just this.
abbrev pub after : Call → List ℕ → Outcome
after Make b = made ours b
after (Put f) b = call_for (wants (Put f)) (put_on f) [] b
after (Remove k) b = call_for (wants (Remove k)) (remove_on k) [] b
after (Ask k o) b = call_for (wants (Ask k o)) (ask_on k) o b
after Clear b = call_for (wants Clear) clear_on [] b
after (Replay o) b = call_for (wants (Replay o)) replay_on o b

-- what it makes of a list, in a room
unfoldable pub turn : ℕ → Call → List (List ℕ) → Turn
turn room Make fs = become [] []
turn room (Put f) fs = put_on f [] room fs
turn room (Remove k) fs = remove_on k [] room fs
turn room (Ask k o) fs = ask_on k o room fs
turn room Clear fs = clear_on [] room fs
turn room (Replay o) fs = replay_on o room fs
