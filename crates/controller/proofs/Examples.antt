-- Worked steps on a book of two frames, `02 23 34` and `02 00 33 be 27 a0`, on an empty one and on a refused one, by the rules of document 02: which state is
-- the first, what each state sends, and what each status makes of it.
-- Assumes nothing.
use mathlib.Core.Path.{refl, ◌≡◌}
use mathlib.Core.List.{List, [], ◌++◌, ◌∷◌}
use Prim.Native.Nat.{ℕ}
use lib.ListN.{replicate}
use Rattle.refusal.specs.declared.Refusal.TheVariants.{NotWellFormed}
use Rattle.spans.specs.Spans.{written}
use Rattle.contents.specs.Contents.{Contents, holds, refused}
use Rattle.controller.specs.declared.State.{State}
use Rattle.controller.specs.declared.State.TheVariants.{Done, Running, Stopped}
use Rattle.std.specs.Prelude.{Err, None, Ok, Some}
use Rattle.controller.specs.Controller.{Answer, Turn, heard_of, heard_on, is_good, sending_of, sends_of, start_of}

abbrev first : List ℕ
first = 0x02 ∷ 0x23 ∷ 0x34 ∷ []

abbrev second : List ℕ
second = 0x02 ∷ 0x00 ∷ 0x33 ∷ 0xBE ∷ 0x27 ∷ 0xA0 ∷ []

abbrev two : Contents
two = holds (first ∷ second ∷ [])

abbrev none : Contents
none = holds []

abbrev broken : Contents
broken = refused NotWellFormed

-- ---- the first state

abbrev starts : List Contents → List Answer
starts [] = []
starts (q ∷ qs) = start_of q ∷ starts qs

pub first-states : starts (two ∷ none ∷ broken ∷ []) ≡ Ok (Running 0) ∷ Ok Done ∷ Err NotWellFormed ∷ []
first-states = refl

-- ---- what is sent

abbrev sendings : Contents → List State → List Turn
sendings q [] = []
sendings q (st ∷ sts) = sending_of q st ∷ sendings q sts

abbrev sending : ℕ → List ℕ → Turn
sending n bytes = Ok (Some (record { len = n; frame = bytes }))

-- the frames, the final read, and nothing behind it: neither in a forged state nor behind an end
pub two-send : sendings two (Running 0 ∷ Running 1 ∷ Running 2 ∷ Running 3 ∷ Running 4 ∷ Running 0xFFFFFFFFFFFFFFFF ∷ Done ∷ Stopped 1 ∷ [])
    ≡ sending 3 (first ++ replicate 9 0)
    ∷ sending 6 (second ++ replicate 6 0)
    ∷ sending 0 (replicate 12 0)
    ∷ replicate 5 (Ok None)
unfolding sends_of written
two-send = refl

pub none-send : sendings none (Running 0 ∷ Running 1 ∷ Done ∷ []) ≡ Ok None ∷ Ok None ∷ Ok None ∷ []
unfolding sends_of
none-send = refl

pub broken-send : sendings broken (Running 0 ∷ Done ∷ []) ≡ Err NotWellFormed ∷ Err NotWellFormed ∷ []
broken-send = refl

-- ---- what a status makes of a state

abbrev hearings : Contents → State → List (List ℕ) → List Answer
hearings q st [] = []
hearings q st (s ∷ ss) = heard_of q st (is_good s) ∷ hearings q st ss

abbrev each : List State → List Answer
each [] = []
each (st ∷ sts) = Ok st ∷ each sts

abbrev status : ℕ → List ℕ
status high = high ∷ 0x04 ∷ []

-- `Fail`, `PErr`, `Ok`, `Data`, and the four numbers of `Unknown`; in the high byte bits 3 to 1 say it
abbrev statuses : List (List ℕ)
statuses = status 0x00 ∷ status 0x02 ∷ status 0x04 ∷ status 0x06 ∷ status 0x08 ∷ status 0x0A ∷ status 0x0C ∷ status 0x0E ∷ []

-- the first judges nothing
pub hear-first : hearings two (Running 0) statuses
    ≡ each (Running 1 ∷ Running 1 ∷ Running 1 ∷ Running 1 ∷ Running 1 ∷ Running 1 ∷ Running 1 ∷ Running 1 ∷ [])
unfolding heard_on
hear-first = refl

pub hear-second : hearings two (Running 1) statuses
    ≡ each (Stopped 1 ∷ Stopped 1 ∷ Running 2 ∷ Running 2 ∷ Stopped 1 ∷ Stopped 1 ∷ Stopped 1 ∷ Stopped 1 ∷ [])
unfolding heard_on
hear-second = refl

-- the final read judges the last frame
pub hear-last : hearings two (Running 2) statuses ≡ each (Stopped 2 ∷ Stopped 2 ∷ Done ∷ Done ∷ Stopped 2 ∷ Stopped 2 ∷ Stopped 2 ∷ Stopped 2 ∷ [])
unfolding heard_on
hear-last = refl

-- after the end nothing changes
pub hear-ended : hearings two (Running 3) statuses ≡ each (replicate 8 (Running 3))
unfolding heard_on
hear-ended = refl

pub hear-past : hearings two (Running 4) statuses ≡ each (replicate 8 (Running 4))
unfolding heard_on
hear-past = refl

pub hear-done : hearings two Done statuses ≡ each (replicate 8 Done)
unfolding heard_on
hear-done = refl

pub hear-stopped : hearings two (Stopped 1) statuses ≡ each (replicate 8 (Stopped 1))
unfolding heard_on
hear-stopped = refl

pub hear-none : hearings none (Running 0) statuses ≡ each (replicate 8 (Running 0))
unfolding heard_on
hear-none = refl

pub hear-broken : hearings broken (Running 1) statuses ≡ replicate 8 (Err NotWellFormed)
hear-broken = refl

-- a status of no byte, of one, and of more than two
pub hear-lengths : hearings two (Running 1) ([] ∷ (0x04 ∷ []) ∷ (0x04 ∷ 0x00 ∷ 0xFF ∷ []) ∷ (0x00 ∷ 0x04 ∷ 0x04 ∷ []) ∷ [])
    ≡ each (Stopped 1 ∷ Running 2 ∷ Running 2 ∷ Stopped 1 ∷ [])
unfolding heard_on
hear-lengths = refl
