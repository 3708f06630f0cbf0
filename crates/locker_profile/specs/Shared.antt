-- The latest accepted frame of a setting in a book that two sides share, by nothing but the events and what was heard of each (REFERENCE, "Two
-- sides"). What a call of the whole book leaves is said in Latest.antt.
-- Assumes nothing.
use Rattle.std.specs.Prelude.{ℕ, Bool, cond, false, List, [], ◌∷◌, Ok, Err}
use Rattle.owners.specs.Owners.{OwnerTable, owns}
use Rattle.book.specs.Plain.{Answer}
use Rattle.book.specs.History.{Call, Heard}
use Rattle.book.specs.History as whole
use Rattle.sides.specs.Calls.{Ask, Clear, Put, Remove, Replay, Request}
use Rattle.sides.specs.Histories.{Event, Side, Whole, by}
use Rattle.locker_profile.specs.Latest.{Latest, done_to, heard_to, is_about, none}

-- What a side's call that is done leaves of the slot s: a put and a removal count as the whole book's own, a clear takes the side's own slots.
abbrev pub side_to : OwnerTable → ℕ → ℕ → Request → Latest → Latest
side_to t w s (Put f) x = done_to s (whole.Put f) x
side_to t w s (Remove k) x = done_to s (whole.Remove k) x
side_to t w s (Ask k) x = x
side_to t w s Clear x = cond (owns t.owners w s) none x
side_to t w s Replay x = x

-- whether it may change what is the latest of the slot s
abbrev pub is_side_about : OwnerTable → ℕ → ℕ → Request → Bool
is_side_about t w s (Put f) = is_about s (whole.Put f)
is_side_about t w s (Remove k) = is_about s (whole.Remove k)
is_side_about t w s (Ask k) = false
is_side_about t w s Clear = owns t.owners w s
is_side_about t w s Replay = false

-- the same of any event
abbrev pub is_event_about : OwnerTable → ℕ → Event → Bool
is_event_about t s (Side c) = is_side_about t c.who s c.what
is_event_about t s (Whole c) = is_about s c

-- what an event leaves that got this answer: a refused one leaves what was
abbrev pub event_to : OwnerTable → ℕ → Event → Answer → Latest → Latest
event_to t s (Side c) (Ok n) x = side_to t c.who s c.what x
event_to t s (Side c) (Err why) x = x
event_to t s (Whole c) a x = heard_to s c a x

-- after some events, each with what was heard
unfoldable pub latest_of : OwnerTable → ℕ → List Event → List Heard → Latest → Latest
latest_of t s [] hs x = x
latest_of t s (e ∷ es) [] x = x
latest_of t s (e ∷ es) (h ∷ hs) x = latest_of t s es hs (event_to t s e h.answer x)

-- an event that puts this frame: the whole book's put, or a side's
pub data IsPut (f : List ℕ) : Event → Type 0 where
  by_whole : IsPut f (Whole (whole.Put f))
  by_side : (w : ℕ) (o : List ℕ) → IsPut f (by w (Put f) o)

-- calls of the whole book are events too
unfoldable pub wholes : List Call → List Event
wholes [] = []
wholes (c ∷ cs) = Whole c ∷ wholes cs
