-- Worked reels, each with its whole text: one as REFERENCE has it, and one of refused frames, in whose lines number and place differ, with a cut one
-- at its end.
-- Assumes nothing.
use mathlib.Core.Path.{◌≡◌, refl}
use mathlib.Core.List.{List, [], ◌∷◌, ◌++◌}
use Prim.Native.Nat.{ℕ}
use lib.ListN.{replicate}
use Rattle.frame.specs.Field.{mask, read, read_to}
use Rattle.frame.specs.Layout.{mask_of, reads, tab, tab_from}
use Rattle.table.specs.Number.{narrow_of, narrows_of}
use Rattle.table.specs.Codes.{is_in, lists, takes}
use Rattle.table.specs.Laid.{find}
use Rattle.std.specs.Prelude.{Ok, Err}
use Rattle.refusal.specs.declared.Refusal.TheVariants.{OutputShort}
use Rattle.reading.specs.Decimal.{decimal, digits}
use Rattle.decoder.specs.Decoding.{answered, decode, judged, known, lacking, sought, stray}
use Rattle.reel.specs.Reel.{unreel, unreel_by}
use Rattle.texts.specs.Words.{word}
use Rattle.dump_text.specs.Text.{blanked, line_of, text_from, text_of}
use Rattle.dump_text.specs.Whole.{dumped, filled}

-- a syncword, a request, a modulation, and a frame of no bytes
abbrev reel : List ℕ
reel = 0x03 ∷ 0x02 ∷ 0x23 ∷ 0x34 ∷ 0x02 ∷ 0x02 ∷ 0x28 ∷ 0x04 ∷ 0x02 ∷ 0x20 ∷ 0x7C ∷ 0x10 ∷ 0x00 ∷ []

abbrev text : List ℕ
text = word "0 4 0 0 52\n" ++ word "1 8 0 0\n" ++ word "2 1 0 0 7 12 1 0 0\n" ++ word "3 0 1 0\n"

pub reel-printed : text_of reel ≡ text
unfolding answered blanked decimal decode digits find is_in judged known lacking line_of lists mask mask_of narrow_of narrows_of read read_to reads sought stray
    tab tab_from takes text_from unreel unreel_by
reel-printed = refl

-- a code that is lacking, a stray bit, a wrong length, and a frame of which a byte is missing
pub refused-printed : text_of (0x04 ∷ 0x02 ∷ 0x20 ∷ 0x40 ∷ 0x10 ∷ 0x04 ∷ 0x02 ∷ 0x2D ∷ 0x1F ∷ 0xE0 ∷ 0x03 ∷ 0x02 ∷ 0x28 ∷ 0x00 ∷ 0x02 ∷ 0x02 ∷ [])
    ≡ word "0 0 5 2\n" ++ word "1 0 4 3\n" ++ word "2 0 3 0\n" ++ word "3 0 14 0\n"
unfolding answered blanked decimal decode digits find is_in judged known lacking line_of lists mask mask_of narrow_of narrows_of read read_to reads sought stray
    tab tab_from takes text_from unreel unreel_by
refused-printed = refl

-- an output of 50 bytes keeps the last four; 46 hold the text, 45 do not
pub reel-dumped : (filled (text_of reel) (replicate 50 7) ≡ text ++ replicate 4 7)
    × (dumped (text_of reel) (replicate 46 7) ≡ Ok 46)
    × (dumped (text_of reel) (replicate 45 7) ≡ Err OutputShort)
reel-dumped = rw reel-printed (refl, refl, refl)
