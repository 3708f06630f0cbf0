-- What the private functions of a pass say: the list that a sound book holds, and a pass as it is handed over.
-- Assumes nothing.
use Rattle.std.specs.Prelude.{ℕ, ◌≡◌, Bool, cond, List, [], length, drop, Option, Some, None}
use Rattle.contents.specs.Contents.{Contents, Layout, holds, image, refused}
use Rattle.book.specs.Book.{Edit, layout_in, opened_for, room_in}
use Rattle.day.specs.declared.Day.{Day}
use Rattle.day.specs.Steps.{State}
use Rattle.playback.specs.declared.Passed.{Passed}
use Rattle.playback.specs.Trace.{fits, size_at}
use Rattle.playback.specs.Parts.{Went, pass_gap, pass_header, pass_records, went}
use Rattle.playback.specs.Parts as parts

-- how many bytes a record in front takes, where one fits
unfoldable pub size_in : List ℕ → Option ℕ
size_in s = cond (fits s) (Some (size_at s)) None

-- the list of a book that is sound
abbrev pub frames_in : Contents → List (List ℕ)
frames_in (refused x) = []
frames_in (holds fs) = fs

-- with a day's numbers beside it
unfoldable pub state_in : List ℕ → Day → State
state_in b d = record { frames = frames_in (opened_for Edit b); day = d }

-- ---- a pass as it is handed over, in a book of a layout and m bytes

pub record Comes (l : Layout) (m : ℕ) (w : Went) (r : Passed) (after : List ℕ) : Type 0 where
  pub told : r ≡ went w
  pub bytes : after ≡ image l m w.state.frames

-- the same of each of its three pieces: the records, the gap and the header, from a place of the part on, on the book that it begins with
abbrev pub RecordsCome : Bool → ℕ → ℕ → ℕ → List ℕ → Day → List ℕ → Passed → List ℕ → Type 0
RecordsCome more count at from p d before r after =
    Comes (layout_in before) (length before)
    (parts.after from (pass_records more (room_in before) count at (drop from p) (state_in before d))) r after

abbrev pub GapComes : Bool → ℕ → ℕ → ℕ → ℕ → List ℕ → Day → List ℕ → Passed → List ℕ → Type 0
GapComes more left skip at from p d before r after =
    Comes (layout_in before) (length before)
    (parts.after from (pass_gap more (room_in before) left skip at (drop from p) (state_in before d))) r after

abbrev pub HeaderComes : Bool → List ℕ → Day → List ℕ → Passed → List ℕ → Type 0
HeaderComes more p d before r after =
    Comes (layout_in before) (length before) (pass_header more (room_in before) p (state_in before d)) r after
