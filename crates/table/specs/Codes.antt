-- The codes that an enum has, where they are not all from 0 to a limit (REFERENCE, "Commands").
-- Assumes nothing.
use Rattle.std.specs.Prelude.{ℕ, ◌-◌, Bool, true, false, cond, List, [], ◌∷◌, eqb, leb, ltb, get_or}

-- the lists, by number
abbrev pub sfs : ℕ
sfs = 0

abbrev pub preambles : ℕ
preambles = 1

abbrev pub crcs : ℕ
crcs = 2

abbrev pub cad_exits : ℕ
cad_exits = 3

abbrev pub rx_bws : ℕ
rx_bws = 4

-- the 90 widths that `RxBw` names, and `BwAuto`
unfoldable pub rx_bw_codes : List ℕ
rx_bw_codes =
    0 ∷ 17 ∷ 18 ∷ 19 ∷ 20 ∷ 21 ∷ 23 ∷ 24 ∷ 25 ∷ 26 ∷ 27 ∷ 28 ∷ 29 ∷ 30 ∷ 31 ∷ 32 ∷ 33 ∷ 34 ∷ 35 ∷ 36 ∷ 37 ∷ 38 ∷ 39 ∷ 64
    ∷ 81 ∷ 82 ∷ 83 ∷ 84 ∷ 85 ∷ 86 ∷ 87 ∷ 88 ∷ 89 ∷ 90 ∷ 91 ∷ 92 ∷ 93 ∷ 94 ∷ 95 ∷ 96 ∷ 97 ∷ 98 ∷ 99 ∷ 100 ∷ 101 ∷ 102
    ∷ 103 ∷ 128 ∷ 136 ∷ 144 ∷ 152 ∷ 153 ∷ 154 ∷ 155 ∷ 156 ∷ 157 ∷ 158 ∷ 159 ∷ 160 ∷ 161 ∷ 162 ∷ 163 ∷ 164 ∷ 165 ∷ 166
    ∷ 167 ∷ 192 ∷ 200 ∷ 208 ∷ 209 ∷ 210 ∷ 211 ∷ 212 ∷ 213 ∷ 215 ∷ 216 ∷ 217 ∷ 218 ∷ 219 ∷ 220 ∷ 222 ∷ 223 ∷ 224 ∷ 225
    ∷ 226 ∷ 227 ∷ 228 ∷ 229 ∷ 230 ∷ 231 ∷ 255 ∷ []

unfoldable pub lists : List (List ℕ)
lists =
    -- `Sf`
    (5 ∷ 6 ∷ 7 ∷ 8 ∷ 9 ∷ 10 ∷ 11 ∷ 12 ∷ [])
    -- `PblLenDetect`
    ∷ (0 ∷ 8 ∷ 16 ∷ 24 ∷ 32 ∷ [])
    -- `Crc`
    ∷ (0 ∷ 1 ∷ 2 ∷ 3 ∷ 4 ∷ 9 ∷ 10 ∷ 11 ∷ 12 ∷ [])
    -- the LoRa `ExitMode`
    ∷ (0 ∷ 1 ∷ 16 ∷ [])
    -- `RxBw`
    ∷ rx_bw_codes
    ∷ []

unfoldable pub is_in : ℕ → List ℕ → Bool
is_in v [] = false
is_in v (x ∷ xs) = cond (eqb v x) true (is_in v xs)

-- whether a field takes v, by its codes or its limit (`codes_of` its number)
unfoldable pub takes : ℕ → ℕ → Bool
takes codes v = cond (eqb codes 0) true (cond (ltb codes 256) (leb v codes) (is_in v (get_or lists (codes - 256) [])))
