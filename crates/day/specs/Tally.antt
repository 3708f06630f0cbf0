-- What the counts of a day have to be, said of the records alone, and the frames that a day's book accepts (REFERENCE, "Playback").
-- Assumes nothing.
use Rattle.std.specs.Prelude.{ℕ, ◌+◌, Bool, false, cond, List, [], ◌∷◌, eqb, leb, ltb, length, Ok, Err}
use Rattle.table.specs.Table.{settings}
use Rattle.settings.specs.Settings.{slot_of}
use Rattle.contents.specs.Frames.{flat}
use Rattle.decoder.specs.Decoding.{decode}
use Rattle.refusal.specs.Numbers.{number_of}
use Rattle.book.specs.Plain.{placed, put_on, Answer}
use Rattle.book.specs.History.{Call, Put}
use Rattle.day.specs.Days.{is_action, kind_in}
use Rattle.day.specs.Steps.{Record, sent, received}

-- all of them together
unfoldable pub sum : List ℕ → ℕ
sum [] = 0
sum (n ∷ ns) = n + sum ns

-- how many commands are to be put: those that do not decode to an action
unfoldable pub puttable : List Record → ℕ
puttable [] = 0
puttable (sent f ∷ rs) = cond (is_action (decode f)) 0 1 + puttable rs
puttable (received b ∷ rs) = puttable rs

-- an answer of this length is a reading of the request k (REFERENCE, "Responses")
abbrev pub is_reading : ℕ → List ℕ → Bool
is_reading k b =
    cond (eqb k 9) (eqb (length b) 12)
    (cond (eqb k 10) (eqb (length b) 8)
    (cond (eqb k 22) (eqb (length b) 16)
    (cond (eqb k 23) (eqb (length b) 8)
    false)))

-- how many answers are no reading, where k was the latest command before them
unfoldable pub unread : ℕ → List Record → ℕ
unread k [] = 0
unread k (sent f ∷ rs) = unread (kind_in (decode f)) rs
unread k (received b ∷ rs) = cond (is_reading k b) 0 1 + unread k rs

-- a setting that the list has room for
abbrev pub accepts : ℕ → List (List ℕ) → List ℕ → Bool
accepts room fs f = cond (ltb (slot_of f) settings) (leb (length (flat (placed f fs))) room) false

-- the frames that a list accepts, in the order of the records
unfoldable pub accepted_from : ℕ → List (List ℕ) → List Record → List (List ℕ)
accepted_from room fs [] = []
accepted_from room fs (received b ∷ rs) = accepted_from room fs rs
accepted_from room fs (sent f ∷ rs) = cond (accepts room fs f) (f ∷ accepted_from room (placed f fs) rs) (accepted_from room fs rs)

-- a put of each frame, in order
unfoldable pub puts : List (List ℕ) → List Call
puts [] = []
puts (f ∷ fs) = Put f ∷ puts fs

-- ---- refusals and readings, one by one

-- whether an answer is a refusal by this number
abbrev pub refuses_by : ℕ → Answer → Bool
refuses_by n (Ok k) = false
refuses_by n (Err x) = eqb (number_of x) n

-- how many puts a list refuses by this number, in the order of the records
unfoldable pub refused_from : ℕ → ℕ → List (List ℕ) → List Record → ℕ
refused_from n room fs [] = 0
refused_from n room fs (received b ∷ rs) = refused_from n room fs rs
refused_from n room fs (sent f ∷ rs) =
    cond (is_action (decode f)) 0 (cond (refuses_by n (put_on f [] room fs).answer) 1 0)
    + refused_from n room (cond (accepts room fs f) (placed f fs) fs) rs

-- the answers to the request k that have the length m, in order, where j was the latest command before them
unfoldable pub answers_to : ℕ → ℕ → ℕ → List Record → List (List ℕ)
answers_to k m j [] = []
answers_to k m j (sent f ∷ rs) = answers_to k m (kind_in (decode f)) rs
answers_to k m j (received b ∷ rs) = cond (cond (eqb j k) (eqb (length b) m) false) (b ∷ answers_to k m j rs) (answers_to k m j rs)

-- the reading of the last of them, or what was there before where there is none
unfoldable pub newest : {X : Type 0} → (List ℕ → X) → X → List (List ℕ) → X
newest read x [] = x
newest read x (b ∷ bs) = newest read (read b) bs
