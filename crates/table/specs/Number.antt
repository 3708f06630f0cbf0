-- A field of the table as one number, which says its place, its plain and its narrowed width, its codes, and whether its argument is one;
-- the notation that makes such numbers, and what a number says.
-- Assumes nothing.
use Rattle.std.specs.Prelude.{ℕ, ◌+◌, ◌-◌, ◌*◌, ◌/◌, ◌%◌, Bool, List, [], ◌∷◌, eqb}
use Rattle.frame.specs.declared.Field.{Field}

-- first byte; 1 for the low byte first; low bit; width in the checked builder and the decoder; the bits that the plain builder has more; codes
abbrev pub number : ℕ → ℕ → ℕ → ℕ → ℕ → ℕ → ℕ
number first le lo w more codes = (((first * 16 + (le * 8 + lo)) * 256 + w) * 16 + more) * 4096 + codes

-- ---- the notation (REFERENCE, "Commands")

-- byte 4, bits 3 to 0: `bits 4 3 0`
abbrev pub bits : ℕ → ℕ → ℕ → ℕ
bits b hi lo = number b 0 lo (hi + 1 - lo) 0 0

-- byte 5, bit 2: `bit 5 2`
abbrev pub bit : ℕ → ℕ → ℕ
bit b i = bits b i i

-- bytes 2 and 3, high byte first: `wide 2 3`
abbrev pub wide : ℕ → ℕ → ℕ
wide a e = number a 0 0 (8 * (e + 1 - a)) 0 0

-- byte 4: `byte 4`
abbrev pub byte : ℕ → ℕ
byte b = wide b b

-- bytes 3 to 10, low byte first: `low_first 3 10`
abbrev pub low_first : ℕ → ℕ → ℕ
low_first a e = number a 1 0 (8 * (e + 1 - a)) 0 0

-- the field c, taking nothing above n, which is 1 to 255: no such code, or no such number
abbrev pub up_to : ℕ → ℕ → ℕ
up_to n c = c + n

-- the field c, taking the codes of list s of specs/Codes.antt
abbrev pub among : ℕ → ℕ → ℕ
among s c = c + (256 + s)

-- the field c, whose argument is a code: an enum's, or 1 for a yes and 0 for a no
abbrev pub code : ℕ → ℕ
code c = c + 2048

-- the field c, of which the checked builder and the decoder have the low w bits
abbrev pub narrowed : ℕ → ℕ → ℕ
narrowed w c = c / 16777216 * 16777216 + w * 65536 + (c / 65536 % 256 - w) * 4096 + c % 4096

-- ---- what a number says

-- the field as the checked builder and the decoder have it
unfoldable pub narrow_of : ℕ → Field
narrow_of c = record { first = c / 268435456; lo = c / 16777216 % 8; w = c / 65536 % 256; le = eqb (c / 134217728 % 2) 1 }

-- the field as the plain builder has it
unfoldable pub plain_of : ℕ → Field
plain_of c = record { first = c / 268435456; lo = c / 16777216 % 8; w = c / 65536 % 256 + c / 4096 % 16; le = eqb (c / 134217728 % 2) 1 }

-- whether the argument is a code; else it is a number
abbrev pub is_code : ℕ → Bool
is_code c = eqb (c / 2048 % 2) 1

-- what the field takes: 0 all that fits, up to 255 nothing above that, from 256 on a list's codes
abbrev pub codes_of : ℕ → ℕ
codes_of c = c % 2048

unfoldable pub narrows_of : List ℕ → List Field
narrows_of [] = []
narrows_of (c ∷ cs) = narrow_of c ∷ narrows_of cs

abbrev pub plains_of : List ℕ → List Field
plains_of [] = []
plains_of (c ∷ cs) = plain_of c ∷ plains_of cs
