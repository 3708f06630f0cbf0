-- Spans of a buffer: what a write, a move down or up, a clearing and a number in two bytes leave. One that does not fit the buffer leaves it as it was.
-- Assumes nothing.
use Rattle.std.specs.Prelude.{ℕ, ◌%◌, ◌+◌, ◌/◌, cond, ◌&&◌, List, leb, ltb, drop, length, replicate, set}
use Rattle.std.proofs.Math.Seq.{paste}

-- the bytes s from at on
unfoldable pub written : List ℕ → ℕ → List ℕ → List ℕ
written b at s = cond (leb (at + length s) (length b)) (paste b at s (length s)) b

-- the m bytes from at + gap on, moved down to at
unfoldable pub slid : List ℕ → ℕ → ℕ → ℕ → List ℕ
slid b at gap m = cond (leb (at + gap + m) (length b)) (paste b at (drop (at + gap) b) m) b

-- the m bytes from at on, moved up to at + gap
unfoldable pub slid_up : List ℕ → ℕ → ℕ → ℕ → List ℕ
slid_up b at gap m = cond (leb (at + gap + m) (length b)) (paste b (at + gap) (drop at b) m) b

-- m zeros from at on
unfoldable pub zeroed : List ℕ → ℕ → ℕ → List ℕ
zeroed b at m = cond (leb (at + m) (length b)) (paste b at (replicate m 0) m) b

-- the number v in the two bytes at i, high byte first
unfoldable pub set_word : List ℕ → ℕ → ℕ → List ℕ
set_word b i v = set (set b i (v / 256)) (i + 1) (v % 256)

-- the same where v is a number of two bytes, and these lie in the buffer
unfoldable pub stored : List ℕ → ℕ → ℕ → List ℕ
stored b i v = cond (ltb v 65536 && leb (i + 2) (length b)) (set_word b i v) b
