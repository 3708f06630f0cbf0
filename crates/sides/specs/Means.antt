-- The code's own notions: a side's bytes as a header tells them, a refusal that comes behind the book's own, a clear made of the book's removals,
-- and a part of a reel.
-- Assumes nothing.
use Rattle.std.specs.Prelude.{ℕ, zero, suc, ◌+◌, ◌-◌, ◌≡◌, Bool, cond, ◌&&◌, List, [], leb, Ok, Err}
use Rattle.refusal.specs.declared.Refusal.{Refusal}
use Rattle.table.specs.Table.{settings}
use Rattle.settings.specs.Settings.{size_of, slot_for}
use Rattle.contents.specs.Contents.{present_for}
use Rattle.forms.specs.Forms.{other}
use Rattle.owners.specs.Owners.{OwnerTable, is_side, owns, table_right}
use Rattle.reel.specs.Reel.{reel_of, unreel}
use Rattle.book.specs.Plain.{remove_on, tell, Answer}
use Rattle.book.specs.Book.{Edit, call_for}
use Rattle.sides.specs.Parts.{chosen}

-- the bytes that the frames of the n slots from s on have, of those that are present in a header of m slots and pass a test
unfoldable pub weight_from : ℕ → ℕ → (ℕ → Bool) → List ℕ → ℕ → ℕ
weight_from m zero q b s = 0
weight_from m (suc n) q b s = cond (present_for m b s && q s) (size_of s) 0 + weight_from m n q b (s + 1)

-- how many a side has that has held so many, once n bytes are put to a slot: in the place of that slot's frame, which is as long, or of its other
-- form's, or behind all
unfoldable pub weight_after : ℕ → List ℕ → ℕ → ℕ → ℕ → ℕ
weight_after m b s held n = cond (present_for m b s) held (cond (present_for m b (other s)) (held - size_of (other s) + n) (held + n))

-- whether a side may call, as a header tells; of bytes that are no book it says nothing
unfoldable pub may_read : ℕ → OwnerTable → ℕ → ℕ → List ℕ → Bool
may_read m t w room b =
    table_right m room t
    && (is_side w && (leb (weight_from m settings (owns t.owners 1) b 0) t.quota1 && leb (weight_from m settings (owns t.owners 2) b 0) t.quota2))

-- a refusal behind what a book was found to be: it stands where the book has none of its own
abbrev pub behind : Answer → Refusal → Answer
behind (Ok n) why = Err why
behind (Err x) why = Err x

-- ---- a clear

-- the frames, and the bytes, once the book's removal was called for each of the n kinds from k on whose slots pass a test
unfoldable pub emptied : (ℕ → Bool) → ℕ → ℕ → List (List ℕ) → List (List ℕ)
emptied q zero k fs = fs
emptied q (suc n) k fs = emptied q n (k + 1) (cond (q (slot_for k)) (remove_on k [] 0 fs).frames fs)

unfoldable pub emptied_bytes : (ℕ → Bool) → ℕ → ℕ → List ℕ → List ℕ
emptied_bytes q zero k b = b
emptied_bytes q (suc n) k b = emptied_bytes q n (k + 1) (cond (q (slot_for k)) (call_for Edit (remove_on k) [] b).bytes b)

-- ---- a replay

-- the reel of those frames of a reel whose slots pass a test
unfoldable pub picked : (ℕ → Bool) → List ℕ → List ℕ
picked q s = reel_of (chosen q (unreel s).frames)

-- an answer and an output that tell x, as the book tells a reel
abbrev pub Retold : List ℕ → List ℕ → Answer → List ℕ → Type 0
Retold x o a y = (a ≡ (tell x o []).answer) × (y ≡ (tell x o []).output)
