-- What readings print as (REFERENCE, "Levels and ratios"), and the difference of two readings of a counter (REFERENCE, "Counters").
-- Assumes nothing.
use Rattle.std.specs.Prelude.{ℕ, ◌+◌, ◌-◌, ◌*◌, ◌/◌, ◌%◌, Bool, cond, List, [], ◌∷◌, ◌++◌, length, take, replicate, ℤ, pos, negsuc, int_lt, nat_lt, unsigned_abs}
use Rattle.reading.specs.Decimal.{digit, decimal}
use Rattle.reading.specs.declared.Text.{Text}

-- a signal-to-noise ratio comes as a byte in two's complement: 128 to 255 stand for -128 to -1
abbrev pub signed_of : ℕ → ℤ
signed_of b = cond (nat_lt b 128) (pos b) (negsuc (255 - b))

-- a minus stands before what is below zero, and nowhere else; 45 is '-'
abbrev pub minus : Bool → List ℕ
minus below = cond below (45 ∷ []) []

-- t tenths with one decimal, h hundredths with two: every digit is there, so nothing is rounded; 46 is '.'
unfoldable pub tenths : ℕ → List ℕ
tenths t = decimal (t / 10) ++ (46 ∷ digit t ∷ [])

unfoldable pub hundredths : ℕ → List ℕ
hundredths h = decimal (h / 100) ++ (46 ∷ digit (h / 10) ∷ digit h ∷ [])

-- a level is so many halves of a dBm below zero: 5 tenths for each
unfoldable pub rssi_text : ℕ → List ℕ
rssi_text count = minus (nat_lt 0 count) ++ tenths (5 * count)

-- a ratio is so many quarters of a dB: 25 hundredths for each
unfoldable pub snr_text : ℤ → List ℕ
snr_text count = minus (int_lt count (pos 0)) ++ hundredths (25 * unsigned_abs count)

-- a list of bytes as a Text: the first eight, zeros behind them, and how many they are.
-- No text of a reading is longer, so none is cut.
unfoldable pub text_of : List ℕ → Text
text_of l = record { bytes = take 8 (l ++ replicate 8 0); len = length (take 8 l) }

-- how far a counter of 16 bits went on: it is 0 again after 65,535
abbrev pub counter_difference : ℕ → ℕ → ℕ
counter_difference earlier later = (later + 65536 - earlier) % 65536
