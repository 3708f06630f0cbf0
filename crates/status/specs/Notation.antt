-- The notation of places in bytes (REFERENCE, "Responses"), as numbers: a byte that is not there is 0.
-- Assumes nothing.
use Rattle.std.specs.Prelude.{ℕ, zero, suc, ◌+◌, ◌*◌, ◌-◌, ◌/◌, ◌%◌, ◌^◌, Bool, not, List, [], ◌∷◌, eqb, get_or}
use Rattle.std.specs.Int.Bits.{bit_and}

-- a number without its k lowest bits
abbrev pub above : ℕ → ℕ → ℕ
above w zero = w
above w (suc k) = w / 2 ^ suc k

-- bits hi to lo of a number
abbrev pub field : ℕ → ℕ → ℕ → ℕ
field w hi lo = above w lo % 2 ^ (hi + 1 - lo)

-- whether v and a mask share a bit
abbrev pub raised : ℕ → ℕ → Bool
raised v mask = not (eqb (bit_and v mask) 0)

-- whether bit n of v is set: in a status bit 8 says that an interrupt is pending, and in an Intr each accessor has a bit of its own
abbrev pub is_set : ℕ → ℕ → Bool
is_set v n = raised v (2 ^ n)

-- the mask of some bits, each named once
abbrev pub mask_of : List ℕ → ℕ
mask_of [] = 0
mask_of (n ∷ ns) = 2 ^ n + mask_of ns

-- byte n
abbrev pub byte : List ℕ → ℕ → ℕ
byte b n = get_or b n 0

-- the bytes from a on, `more` of them behind it, as one number, high byte first
abbrev pub from : List ℕ → ℕ → ℕ → ℕ
from b a zero = byte b a
from b a (suc more) = 256 * from b a more + byte b (a + suc more)

-- a-e: the bytes from a to e, the highest first
abbrev pub wide : List ℕ → ℕ → ℕ → ℕ
wide b a e = from b a (e - a)

-- n.hi-lo: bits hi to lo of byte n
abbrev pub bits : List ℕ → ℕ → ℕ → ℕ → ℕ
bits b n hi lo = field (byte b n) hi lo

-- n.i: bit i of byte n, as a yes or no
abbrev pub bit : List ℕ → ℕ → ℕ → Bool
bit b n i = is_set (byte b n) i

-- n:m.i: a level's count, whose halves are in byte n and whose last bit is bit i of byte m
abbrev pub half : List ℕ → ℕ → ℕ → ℕ → ℕ
half b n m i = 2 * byte b n + bits b m i i
