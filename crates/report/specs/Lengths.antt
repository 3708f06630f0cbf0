-- How long texts are at the most.
-- Assumes nothing.
use Rattle.std.specs.Prelude.{ℕ}

-- no day's numbers are longer, and no line of a frame or of a fault, as proofs/Longest.antt shows
abbrev pub longest : ℕ
longest = 2048

abbrev pub longest_line : ℕ
longest_line = 70
