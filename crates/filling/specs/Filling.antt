-- A book filled from the front: what the empty book of a layout, a frame behind the others and a list of frames make of a buffer's bytes, for any
-- layout (REFERENCE, "Book"). What does not fit leaves the bytes as they were.
-- Assumes nothing.
use Rattle.std.specs.Prelude.{ℕ, ◌+◌, ◌*◌, Bool, cond, ◌&&◌, List, [], ◌∷◌, leb, ltb, length, get_or, set}
use Rattle.std.proofs.Math.Seq.{paste}
use Rattle.spans.specs.Spans.{set_word}
use Rattle.table.specs.Table.{settings}
use Rattle.settings.specs.Settings.{slot_of}
use Rattle.contents.specs.Contents.{Layout, image, longest, start, word_at}

-- n bytes are a size for a book of m slots: its header fits, and no book is longer
unfoldable pub sized_for : ℕ → ℕ → Bool
sized_for m n = leb (start m) n && leb n longest

-- the empty book, whatever the bytes were
unfoldable pub blanked : Layout → List ℕ → List ℕ
blanked l b = cond (sized_for l.slots (length b)) (image l (length b) []) b

-- the frame f of the slot s behind the frames, which end at e
unfoldable pub appended : List ℕ → List ℕ → ℕ → ℕ → List ℕ
appended b f s e = set_word (set_word (set (paste b e f (length f)) 1 (get_or b 1 0 + 1)) 2 (e + length f)) (4 + 2 * s) e

-- the most frames that a header's count can say
abbrev pub most_counted : ℕ
most_counted = 255

-- n bytes of the slot s have room behind the frames: the slot is a setting's and the header has it; the buffer has a book's size; the frames end behind
-- the header, with n bytes left or more; and the count can be one more
unfoldable pub has_room : ℕ → ℕ → ℕ → List ℕ → Bool
has_room m s n b =
    ltb s settings
    && (ltb s m
    && (sized_for m (length b) && (leb (start m) (word_at b 2) && (leb (word_at b 2 + n) (length b) && ltb (get_or b 1 0) most_counted))))

-- the frame behind the others, where it has room
unfoldable pub appended_to : ℕ → ℕ → List ℕ → List ℕ → List ℕ
appended_to m s f b = cond (has_room m s (length f) b) (appended b f s (word_at b 2)) b

-- each frame behind the one before, by the slot of its kind
unfoldable pub appended_all : ℕ → List (List ℕ) → List ℕ → List ℕ
appended_all m [] b = b
appended_all m (f ∷ fs) b = appended_all m fs (appended_to m (slot_of f) f b)

-- the frames of a list in a blank book
unfoldable pub filled_by : Layout → List (List ℕ) → List ℕ → List ℕ
filled_by l fs b = appended_all l.slots fs (blanked l b)
