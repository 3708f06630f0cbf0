-- A book's layout, and a call on a buffer's bytes as a step on the list that they hold (REFERENCE, "Book").
-- Assumes nothing.
use Rattle.std.specs.Prelude.{◌≡◌, ℕ, ◌+◌, Bool, cond, false, true, List, [], leb, length, Ok, Err}
use Rattle.refusal.specs.declared.Refusal.TheVariants.{BothForms, BufferSize}
use Rattle.contents.specs.Contents.{Contents, Layout, given, holds, image, judge, layout, longest, refused, room_of, start}
use Rattle.forms.specs.Forms.{most_bytes, most_frames, single}
use Rattle.book.specs.Plain.{Turn, Answer}

-- ---- the layout

-- the layout that is made and edited: version 1 with 29 slots, so that its frames start at byte 62
abbrev pub ours : Layout
ours = layout 1 29

-- The layout that a buffer's bytes have. There is one version, and so one layout (REFERENCE, "Book").
unfoldable pub layout_in : List ℕ → Layout
layout_in b = ours

-- how many bytes of frames a buffer has room for in its own layout
abbrev pub room_in : List ℕ → ℕ
room_in b = room_of (layout_in b) (length b)

-- the bytes of a book that holds every setting in its longer form
abbrev pub full_book : ℕ
full_book = start ours.slots + most_bytes

-- the bytes of its reel: no replay is longer
abbrev pub longest_reel : ℕ
longest_reel = most_bytes + most_frames

-- ---- a book as the calls find it

-- Bytes that hold a setting in both its forms are refused for that, once they are well formed (REFERENCE, "Short and long forms").
abbrev pub agreed : Contents → Contents
agreed (refused x) = refused x
agreed (holds fs) = given (single fs) BothForms (holds fs)

-- the frames of a sound book of a layout
unfoldable pub opened : Layout → List ℕ → Contents
opened l b = agreed (judge l b)

-- What a call wants of a book: to read it, or to edit it.
pub data Use : Type 0 where
  Read : Use
  Edit : Use

-- whether a use only reads
abbrev pub to_read : Use → Bool
to_read Read = true
to_read Edit = false

-- A book as a call finds it, by its bytes alone: every refusal of a whole book stands here, but for
-- that of a make, which looks at the length alone (`made`). Both uses find the same.
unfoldable pub opened_for : Use → List ℕ → Contents
opened_for u b = opened (layout_in b) b

abbrev pub verdict : Contents → Answer
verdict (refused x) = Err x
verdict (holds fs) = Ok 0

-- ---- a call on bytes

pub record Outcome : Type 0 where
  pub answer : Answer
  pub output : List ℕ
  pub bytes : List ℕ

-- What is refused alters nothing; a step on the frames leaves the image of its list.
abbrev pub on_contents : Layout → (List ℕ → ℕ → List (List ℕ) → Turn) → List ℕ → List ℕ → Contents → Outcome
on_contents l s o b (refused x) = record { answer = Err x; output = o; bytes = b }
on_contents l s o b (holds fs) =
    record {
      answer = (s o (room_of l (length b)) fs).answer;
      output = (s o (room_of l (length b)) fs).output;
      bytes = image l (length b) (s o (room_of l (length b)) fs).frames;
    }

-- a step on a book of a layout
unfoldable pub call : Layout → (List ℕ → ℕ → List (List ℕ) → Turn) → List ℕ → List ℕ → Outcome
call l s o b = on_contents l s o b (opened l b)

-- the same on a buffer as it is lent, in the layout that its bytes have
unfoldable pub call_for : Use → (List ℕ → ℕ → List (List ℕ) → Turn) → List ℕ → List ℕ → Outcome
call_for u s o b = on_contents (layout_in b) s o b (opened_for u b)

-- A make looks at the length alone: whatever stood there, the book is empty after it.
unfoldable pub made : Layout → List ℕ → Outcome
made l b =
    cond (leb (start l.slots) (length b))
    (cond (leb (length b) longest) (record { answer = Ok 0; output = []; bytes = image l (length b) [] })
    (record { answer = Err BufferSize; output = []; bytes = b }))
    (record { answer = Err BufferSize; output = []; bytes = b })

-- ---- what a contract permits: an outcome's answer with its bytes, or with its output, and no other

abbrev pub Permits : Outcome → Answer → List ℕ → Type 0
Permits o r x = (r ≡ o.answer) × (x ≡ o.bytes)

abbrev pub Tells : Outcome → Answer → List ℕ → Type 0
Tells o r x = (r ≡ o.answer) × (x ≡ o.output)
