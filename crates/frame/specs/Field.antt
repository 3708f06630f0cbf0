-- One field of a frame: which bits of which bytes it holds, what a value puts there, and the number that stands there.
-- (REFERENCE, "Commands", has the notation of places: 2.7-4 is bits 7 to 4 of byte 2, and 5-7 the bytes 5 to 7, the highest first.)
-- A field is w bits wide and starts in byte `first`. One of at most 8 bits stands at bit `lo` of that byte. A wider one has lo 0
-- and takes the bytes from `first` on, high byte first, or low byte first where `le`; its highest byte holds what is left of w.
-- 2.7-4 is first 2, lo 4, w 4; 5-7 is first 5, lo 0, w 24; the low 12 bits of 2-3 are first 2, lo 0, w 12.
-- Lists of fields are in specs/Layout.antt.
-- Assumes nothing.
use Rattle.std.specs.Prelude.{ℕ, zero, suc, ◌+◌, ◌-◌, ◌*◌, ◌/◌, ◌%◌, ◌^◌, ◌≤◌, min, Bool, cond, ◌&&◌, leb, ltb}
use Rattle.frame.specs.declared.Field.{Field}

-- how many bytes it takes
abbrev pub size : Field → ℕ
size f = (f.w + 7) / 8

-- whether byte i is one of them
abbrev pub holds : Field → ℕ → Bool
holds f i = leb f.first i && ltb i (f.first + size f)

-- which byte of the value, 0 the lowest, stands in byte i
abbrev pub rank : Field → ℕ → ℕ
rank f i = cond f.le (i - f.first) (f.first + size f - 1 - i)

-- the byte where byte k of the value stands
abbrev pub place : Field → ℕ → ℕ
place f k = cond f.le (f.first + k) (f.first + size f - 1 - k)

-- how many bits byte k of the value has
abbrev pub bits : Field → ℕ → ℕ
bits f k = min 8 (f.w - 8 * k)

-- what the value v puts into byte i
unfoldable pub part : Field → ℕ → ℕ → ℕ
part f v i = cond (holds f i) (v / 2 ^ (8 * rank f i) % 2 ^ bits f (rank f i) * 2 ^ f.lo) 0

-- the bits of byte i that the field holds
unfoldable pub mask : Field → ℕ → ℕ
mask f i = cond (holds f i) ((2 ^ bits f (rank f i) - 1) * 2 ^ f.lo) 0

-- byte k of the number that stands in the bytes b
abbrev pub digit : Field → (ℕ → ℕ) → ℕ → ℕ
digit f b k = b (place f k) / 2 ^ f.lo % 2 ^ bits f k

-- the number of its m low bytes
unfoldable pub read_to : Field → (ℕ → ℕ) → ℕ → ℕ
read_to f b zero = 0
read_to f b (suc k) = read_to f b k + digit f b k * 2 ^ (8 * k)

-- the number
unfoldable pub read : Field → (ℕ → ℕ) → ℕ
read f b = read_to f b (size f)

-- it lies within len bytes, within its bytes' bits, and within 64 bits in all
unfoldable pub sound : ℕ → Field → Bool
sound len f = leb f.w 64 && (leb (f.first + size f) len && leb (f.lo + min 8 f.w) 8)

-- the same, as facts
pub record Sound (len : ℕ) (f : Field) : Type 0 where
  pub wide : f.w ≤ 64
  pub ends : f.first + size f ≤ len
  pub within : f.lo + min 8 f.w ≤ 8
