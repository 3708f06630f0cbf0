-- A whole text at the start of an output: texts that have a longest (REFERENCE, "Dump", "Playback", "Widths for banks").
-- Assumes nothing.
use Rattle.std.specs.Prelude.{ℕ, cond, List, ◌++◌, leb, length, drop}

-- the text's length, where the output has that much room; else 0
abbrev pub told : ℕ → List ℕ → List ℕ → ℕ
told room text out = cond (leb room (length out)) (length text) 0

-- the text at the output's start and the rest as it was, where the output has that much room; else all of it as it was
abbrev pub laid : ℕ → List ℕ → List ℕ → List ℕ
laid room text out = cond (leb room (length out)) (text ++ drop (length text) out) out
