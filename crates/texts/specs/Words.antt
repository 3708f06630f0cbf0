-- Words and lines, as bytes (REFERENCE, "Playback", "Widths for banks").
-- Assumes nothing.
use Rattle.std.specs.Prelude.{ℕ, List, [], ◌∷◌, ◌++◌}
use Prim.Native.Char.{code}
use Prim.Native.String.{String}
use Prim.Native.String as quoted

-- the bytes of a word, as it is written
abbrev pub word : String → List ℕ
word quoted.[] = []
word (quoted.◌∷◌ c s) = code c ∷ word s

-- words, one blank before each, and what ends them; 32 is the blank
unfoldable pub spaced : List (List ℕ) → List ℕ → List ℕ
spaced [] end = end
spaced (w ∷ ws) end = 32 ∷ w ++ spaced ws end

-- a line is its first word, the others with one blank before each, and a newline, which is 10
unfoldable pub line : List ℕ → List (List ℕ) → List ℕ
line w ws = w ++ spaced ws (10 ∷ [])
