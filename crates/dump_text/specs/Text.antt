-- The text of a dump: the bytes that a reel prints as (REFERENCE, "Dump").
-- Assumes nothing.
use Rattle.std.specs.Prelude.{ℕ, suc, List, [], ◌∷◌, ◌++◌}
use Rattle.refusal.specs.declared.Refusal.TheVariants.{ReelCut}
use Rattle.refusal.specs.Numbers.{number_of, place_of}
use Rattle.reading.specs.Decimal.{decimal}
use Rattle.decoder.specs.Decoding.{Reading, reading, refuses, decode}
use Rattle.reel.specs.Reel.{unreel}

-- ---- a line

-- the kind of a frame that decodes; 0 for one that is refused
abbrev pub kind_of : Reading → ℕ
kind_of (reading kind args) = kind
kind_of (refuses why) = 0

-- the number of the refusal; 0 where there is none
abbrev pub refusal_of : Reading → ℕ
refusal_of (reading kind args) = 0
refusal_of (refuses why) = number_of why

-- the place that the refusal has; 0 where there is none
abbrev pub place_in : Reading → ℕ
place_in (reading kind args) = 0
place_in (refuses why) = place_of why

-- a refused frame has no arguments
abbrev pub arguments_of : Reading → List ℕ
arguments_of (reading kind args) = args
arguments_of (refuses why) = []

-- numbers in decimal, one blank before each; 32 is the blank
unfoldable pub blanked : List ℕ → List ℕ
blanked [] = []
blanked (n ∷ ns) = 32 ∷ decimal n ++ blanked ns

-- the four numbers that every line begins with
abbrev pub head_of : ℕ → ℕ → ℕ → ℕ → List ℕ
head_of index kind refusal place = decimal index ++ blanked (kind ∷ refusal ∷ place ∷ [])

-- a frame prints as its index, kind, refusal, place and arguments, and a newline, which is 10
unfoldable pub line_of : ℕ → Reading → List ℕ
line_of index r = decimal index ++ blanked (kind_of r ∷ refusal_of r ∷ place_in r ∷ arguments_of r) ++ (10 ∷ [])

-- ---- a text

-- a line for each frame, from an index on; where bytes are left behind the frames, the line of a cut one ends the text
unfoldable pub text_from : ℕ → List (List ℕ) → List ℕ → List ℕ
text_from index [] [] = []
text_from index [] (b ∷ rest) = line_of index (refuses ReelCut)
text_from index (f ∷ frames) rest = line_of index (decode f) ++ text_from (suc index) frames rest

-- the text of a reel from an index on: of its whole frames, and of what is left behind them (REFERENCE, "Reel")
abbrev pub text_at : ℕ → List ℕ → List ℕ
text_at index reel = text_from index (unreel reel).frames (unreel reel).rest

-- a dump is the lines of its frames, counted from 0, and nothing before or behind them
abbrev pub text_of : List ℕ → List ℕ
text_of reel = text_at 0 reel
