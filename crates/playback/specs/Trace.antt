-- A trace: which records its bytes have, and where it is at fault (REFERENCE, "Playback").
-- Assumes nothing.
use Rattle.std.specs.Prelude.{ℕ, zero, suc, ◌+◌, ◌/◌, ◌%◌, Bool, false, cond, List, [], ◌∷◌, ◌++◌, eqb, leb, length, take, drop, get_or}
use Rattle.std.proofs.Math.Option.{Option, none, some}
use Rattle.contents.specs.Contents.{word_at}
use Rattle.day.specs.Steps.{Record, sent, received}

-- ---- a record's bytes

-- direction, length, and the bytes themselves
unfoldable pub bytes_of : Record → List ℕ
bytes_of (sent b) = 0 ∷ length b ∷ b
bytes_of (received b) = 1 ∷ length b ∷ b

-- the bytes of records that stand one after the other
unfoldable pub bytes_of_all : List Record → List ℕ
bytes_of_all [] = []
bytes_of_all (r ∷ rs) = bytes_of r ++ bytes_of_all rs

-- how many bytes the record in front takes, by its length byte
abbrev pub size_at : List ℕ → ℕ
size_at s = 2 + get_or s 1 0

-- a whole record stands in front: its direction is one of the two, and all its bytes are there
unfoldable pub fits : List ℕ → Bool
fits s = cond (leb (get_or s 0 0) 1) (leb (size_at s) (length s)) false

-- the record in front, where one fits
unfoldable pub record_at : List ℕ → Record
record_at s = cond (eqb (get_or s 0 0) 0) (sent (take (get_or s 1 0) (drop 2 s))) (received (take (get_or s 1 0) (drop 2 s)))

-- ---- a trace's records

-- What bytes hold: the records before the first fault, and the fault's place, if there is one.
pub record Found : Type 0 where
  pub records : List Record
  pub stop : Option ℕ

-- no record, and a fault at once
abbrev pub stopped_at : ℕ → Found
stopped_at at = record { records = []; stop = some at }

-- one record more in front
abbrev pub ahead : Record → Found → Found
ahead r f = record { records = r ∷ f.records; stop = f.stop }

-- n records one after the other, the first at the offset `at`; one that does not fit ends them, and its offset is the place
unfoldable pub records_from : ℕ → ℕ → List ℕ → Found
records_from zero at s = record { records = []; stop = none }
records_from (suc n) at s = cond (fits s) (ahead (record_at s) (records_from n (at + size_at s) (drop (size_at s) s))) (stopped_at at)

-- how many records the header announces
abbrev pub count_in : List ℕ → ℕ
count_in t = word_at t 0

-- where the header says that the first one stands
abbrev pub first_in : List ℕ → ℕ
first_in t = word_at t 2

-- a header is there, and puts the first record behind itself
unfoldable pub headed : List ℕ → Bool
headed t = cond (leb 4 (length t)) (leb 4 (first_in t)) false

-- the records of a trace; a fault of the header has the place 0
unfoldable pub traced : List ℕ → Found
traced t = cond (headed t) (records_from (count_in t) (first_in t) (drop (first_in t) t)) (stopped_at 0)

-- ---- the same trace, stopped earlier

-- the trace with another count in its header
unfoldable pub recounted : ℕ → List ℕ → List ℕ
recounted m t = m / 256 ∷ m % 256 ∷ drop 2 t

-- where the first m records of a trace end
abbrev pub end_of : ℕ → List ℕ → ℕ
end_of m t = first_in t + length (bytes_of_all (take m (traced t).records))
