-- The rule of the RxBw table (REFERENCE, "Widths"): the width that a code names, in tenths of kHz; 0 for a code that names none.
-- Which codes there are says specs/Codes.antt of the table.
-- Assumes nothing.
use Rattle.std.specs.Prelude.{ℕ, zero, suc, ◌+◌, ◌*◌, ◌/◌, ◌%◌, ◌^◌, Bool, cond, ◌&&◌, List, [], ◌∷◌, ltb, leb, get_or}
use Rattle.table.specs.Codes.{rx_bw_codes, is_in}

-- a width is 40,000 kHz by a divisor: bits 7 and 6 choose its first factor, bits 5 to 3 count the second from 1, bits 2 to 0 double
abbrev pub divisor : ℕ → ℕ
divisor c = get_or (13 ∷ 14 ∷ 15 ∷ 18 ∷ []) (c / 64) 0 * (c / 8 % 8 + 1) * 2 ^ (c % 8)

-- the name of the width 40,000/q kHz, in tenths: whole kHz, rounded down, from 10 kHz on, and rounded to the tenth below
abbrev pub tenths : ℕ → ℕ
tenths q = cond (leb (10 * q) 40000) (10 * (40000 / q)) ((800000 + q) / (2 * q))

-- a listed code other than `BwAuto`, 255
unfoldable pub is_named : ℕ → Bool
is_named c = ltb c 255 && is_in c rx_bw_codes

unfoldable pub name_of : ℕ → ℕ
name_of c = cond (is_named c) (tenths (divisor c)) 0

-- the values of f at n numbers from i on
abbrev pub values_from : (ℕ → ℕ) → ℕ → ℕ → List ℕ
values_from f i zero = []
values_from f i (suc n) = f i ∷ values_from f (suc i) n

-- the names of all codes in their order, 0 to 255
unfoldable pub names : List ℕ
names = values_from name_of 0 256
