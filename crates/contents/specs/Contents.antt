-- A book's bytes: the frames that are read in them (`judge`), and the bytes of a list of frames (`image`), for any layout (REFERENCE, "Book").
-- Assumes nothing.
use Rattle.std.specs.Prelude.{ℕ, zero, suc, ◌+◌, ◌-◌, ◌*◌, ◌/◌, ◌%◌, Bool, true, false, cond, not, List, [], ◌∷◌, ◌++◌, eqb, leb, ltb, length, take, drop, get_or, replicate, Result, Ok, Err, ⊤}
use Rattle.refusal.specs.declared.Refusal.{Refusal}
use Rattle.refusal.specs.declared.Refusal.TheVariants.{NotWellFormed, BufferSize}
use Rattle.settings.specs.Settings.{size_of, slot_of}
use Rattle.contents.specs.Frames.{flat, place}

-- ---- the layout

-- How a version lays a book out: its version byte, and the number of its slots
pub record Layout : Type 0 where
  pub version : ℕ
  pub slots : ℕ

abbrev pub layout : ℕ → ℕ → Layout
layout v m = record { version = v; slots = m }

-- where the frames start, after the offsets of m slots
abbrev pub start : ℕ → ℕ
start m = 4 + 2 * m

-- the most bytes that a buffer has
abbrev pub longest : ℕ
longest = 4096

-- how many bytes of frames a buffer of n bytes has room for
abbrev pub room_of : Layout → ℕ → ℕ
room_of l n = n - start l.slots

-- ---- reading

-- the number in the two bytes at i, high byte first; a byte past the end reads as 0
unfoldable pub word_at : List ℕ → ℕ → ℕ
word_at b i = get_or b i 0 * 256 + get_or b (i + 1) 0

-- the offset that the header has for a slot; 0 where the slot is absent
unfoldable pub offset_at : List ℕ → ℕ → ℕ
unfolding word_at
offset_at b s = word_at b (4 + 2 * s)

-- the offset that a header of m slots has for a slot; 0 where it has none, since the slot is absent or not among the m
unfoldable pub offset_for : ℕ → List ℕ → ℕ → ℕ
offset_for m b s = cond (ltb s m) (offset_at b s) 0

-- whether a header of m slots has an offset for a slot
abbrev pub present_for : ℕ → List ℕ → ℕ → Bool
present_for m b s = not (eqb (offset_for m b s) 0)

-- the first of the n slots from s on whose offset is p, or s + n
unfoldable pub slot_from : ℕ → List ℕ → ℕ → ℕ → ℕ
slot_from zero b p s = s
slot_from (suc n) b p s = cond (eqb (offset_at b s) p) s (slot_from n b p (s + 1))

-- The slot of m whose offset is p; m where there is none, or where the buffer is too short for the offsets of m slots.
unfoldable pub slot_at : ℕ → List ℕ → ℕ → ℕ
slot_at m b p = cond (leb (start m) (length b)) (slot_from m b p 0) m

-- how many of the n slots from s on are present
unfoldable pub present_from : ℕ → List ℕ → ℕ → ℕ
present_from zero b s = 0
present_from (suc n) b s = cond (eqb (offset_at b s) 0) 0 1 + present_from n b (s + 1)

-- a frame of the slot s that starts at p ends by e
abbrev pub ends_by : ℕ → ℕ → ℕ → Bool
ends_by s p e = leb (p + size_of s) e

-- the bytes at p decode to the kind of the slot s
abbrev pub decodes_to : ℕ → List ℕ → ℕ → Bool
decodes_to s b p = eqb (slot_of (take (size_of s) (drop p b))) s

-- how long the frame is that the slot s has at p; 0 where it has none there
unfoldable pub length_by : ℕ → ℕ → List ℕ → ℕ → ℕ → ℕ
length_by m s b p e = cond (ltb s m) (cond (ends_by s p e) (cond (decodes_to s b p) (size_of s) 0) 0) 0

-- how long the frame at p is, by the slot whose offset is p
unfoldable pub length_at : ℕ → List ℕ → ℕ → ℕ → ℕ
unfolding length_by
length_at m b p e = length_by m (slot_from m b p 0) b p e

pub data Contents : Type 0 where
  refused : Refusal → Contents
  holds : List (List ℕ) → Contents

-- what is read where a test holds, and else a refusal
abbrev pub given : Bool → Refusal → Contents → Contents
given t x c = cond t c (refused x)

abbrev pub before : List ℕ → Contents → Contents
before f (refused x) = refused x
before f (holds fs) = holds (f ∷ fs)

-- the c frames that fill the bytes from p to e with no gap and nothing over
unfoldable pub frames_from : ℕ → ℕ → List ℕ → ℕ → ℕ → Contents
frames_from m zero b p e = given (eqb p e) NotWellFormed (holds [])
frames_from m (suc c) b p e =
    cond (eqb (length_at m b p e) 0) (refused NotWellFormed) (before (take (length_at m b p e) (drop p b)) (frames_from m c b (p + length_at m b p e) e))

unfoldable pub all_zero : List ℕ → Bool
all_zero [] = true
all_zero (x ∷ xs) = cond (eqb x 0) (all_zero xs) false

-- What the bytes hold. A buffer shorter than the header of its layout, or longer than any may be, is of the wrong size. Otherwise the bytes are
-- well formed if the version is the layout's, the end lies between the header and the buffer's end, as many slots are present as the count
-- says, every byte behind the end is 0, and the frames fill the bytes between header and end, each decoding to the kind of the slot that has
-- its offset (REFERENCE, "Book").
unfoldable pub judge : Layout → List ℕ → Contents
judge l b =
    given (leb (start l.slots) (length b)) BufferSize
    (given (leb (length b) longest) BufferSize
    (given (eqb (get_or b 0 0) l.version) NotWellFormed
    (given (leb (start l.slots) (word_at b 2)) NotWellFormed
    (given (leb (word_at b 2) (length b)) NotWellFormed
    (given (eqb (present_from l.slots b 0) (get_or b 1 0)) NotWellFormed
    (given (all_zero (drop (word_at b 2) b)) NotWellFormed
    (frames_from l.slots (get_or b 1 0) b (start l.slots) (word_at b 2))))))))

-- what is told of it: the refusal, or that the bytes are well formed
abbrev pub verdict_of : Contents → Result ⊤ Refusal
verdict_of (refused x) = Err x
verdict_of (holds fs) = Ok tt

-- ---- the bytes of a list of frames

-- the numbers that g gives n slots from s on, two bytes each, high byte first
unfoldable pub words : ℕ → ℕ → (ℕ → ℕ) → List ℕ
words zero s g = []
words (suc n) s g = g s / 256 ∷ g s % 256 ∷ words n (s + 1) g

-- The header: version, count of frames, where they end (two bytes), and an offset of two bytes for each slot (REFERENCE, "Book").
unfoldable pub header : Layout → List (List ℕ) → List ℕ
header l fs =
    l.version ∷ length fs ∷ (start l.slots + length (flat fs)) / 256 ∷ (start l.slots + length (flat fs)) % 256
    ∷ words l.slots 0 (place (start l.slots) fs)

-- The bytes of a book: its header, its frames in the order of first entry, zeros from their end on.
unfoldable pub image : Layout → ℕ → List (List ℕ) → List ℕ
image l n fs = header l fs ++ (flat fs ++ replicate (n - (start l.slots + length (flat fs))) 0)
