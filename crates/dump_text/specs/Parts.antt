-- What one pass of a dump does with a part of a reel: the lines that it writes, and how far it comes (REFERENCE, "Dump").
-- Assumes nothing.
use Rattle.std.specs.Prelude.{ℕ, suc, ◌+◌, ◌-◌, ◌^◌, ◌≡◌, Bool, cond, ◌&&◌, not, List, [], ◌∷◌, ◌++◌, ltb, leb, length, drop}
use Rattle.std.proofs.lemmas.List.Edits.{sets}
use Rattle.refusal.specs.declared.Refusal.TheVariants.{ReelCut}
use Rattle.decoder.specs.Decoding.{refuses, decode}
use Rattle.reel.specs.Reel.{Unreeled}
use Rattle.dump_text.specs.declared.Passed.{Passed}
use Rattle.dump_text.specs.Text.{line_of}

-- The input bytes that lines stand for, the lines, and the index of the next frame.
pub record Lines : Type 0 where
  pub used : ℕ
  pub text : List ℕ
  pub next : ℕ

abbrev pub none : ℕ → Lines
none index = record { used = 0; text = []; next = index }

-- a line for so many bytes, and the lines behind it
abbrev pub line : ℕ → List ℕ → Lines → Lines
line used text l = record { used = used + l.used; text = text ++ l.text; next = l.next }

-- the length of the longest line that any frame has at any index, as proofs/Longest.antt shows
abbrev pub longest : ℕ
longest = 64

-- whether there is room for a line, however long, and an index behind this one
abbrev pub goes_on : ℕ → ℕ → Bool
goes_on room index = leb longest room && ltb index (2 ^ 64 - 1)

-- the lines of frames, and of a cut one behind them unless more input is to come, as long as there is room
unfoldable pub lines_from : Bool → ℕ → ℕ → List (List ℕ) → List ℕ → Lines
lines_from more room index [] [] = none index
lines_from more room index [] (b ∷ rest) =
    cond (goes_on room index && not more) (line (suc (length rest)) (line_of index (refuses ReelCut)) (none (suc index))) (none index)
lines_from more room index (f ∷ frames) rest =
    cond (goes_on room index)
    (line (suc (length f)) (line_of index (decode f)) (lines_from more (room - length (line_of index (decode f))) (suc index) frames rest))
    (none index)

-- the same of a part that is made of u
abbrev pub lines_of : Bool → ℕ → ℕ → Unreeled → Lines
lines_of more room index u = lines_from more room index u.frames u.rest

-- ---- as the code hands it over

-- the text stands at a place, the rest is as it was, and the answer is the place behind the text
pub record Puts (text : List ℕ) (at : ℕ) (before : List ℕ) (r : ℕ) (after : List ℕ) : Type 0 where
  pub behind : r ≡ at + length text
  pub stands : after ≡ sets before at text

-- the lines stand at the start of the output, the rest is as it was, and the answer is how far they come
pub record Passes (l : Lines) (before : List ℕ) (r : Passed) (after : List ℕ) : Type 0 where
  pub told : r ≡ record { used = l.used; written = length l.text; next = l.next }
  pub stands : after ≡ l.text ++ drop (length l.text) before
