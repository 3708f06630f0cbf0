-- Worked frames, each with the refusal and its place, or with 0, its kind and its arguments. Several have two wrong bytes, of which the lower is told.
-- Assumes nothing.
use mathlib.Core.Path.{◌≡◌, refl}
use mathlib.Core.List.{List, [], ◌∷◌}
use Prim.Native.Nat.{ℕ}
use Rattle.frame.specs.Field.{mask, read, read_to}
use Rattle.frame.specs.Layout.{mask_of, reads, tab, tab_from}
use Rattle.table.specs.Number.{narrow_of, narrows_of}
use Rattle.table.specs.Codes.{is_in, lists, takes}
use Rattle.table.specs.Laid.{find}
use Rattle.refusal.specs.Numbers.{number_of, place_of}
use Rattle.decoder.specs.Decoding.{Reading, answered, decode, judged, known, lacking, reading, refuses, sought, stray}

record Case : Type 0 where
  frame : List ℕ
  numbers : List ℕ

abbrev given : List ℕ → List ℕ → Case
given f ns = record { frame = f; numbers = ns }

abbrev numbers_in : Reading → List ℕ
numbers_in (reading k vs) = 0 ∷ k ∷ vs
numbers_in (refuses x) = number_of x ∷ place_of x ∷ []

abbrev answers : List Case → List (List ℕ)
answers [] = []
answers (c ∷ cs) = numbers_in (decode c.frame) ∷ answers cs

abbrev expected : List Case → List (List ℕ)
expected [] = []
expected (c ∷ cs) = c.numbers ∷ expected cs

abbrev cases : List Case
cases =
    -- no opcode
    given (0x02 ∷ []) (1 ∷ 0 ∷ [])
    -- an opcode of no row; one of two rows, with the length of neither
    ∷ given (0x02 ∷ 0x99 ∷ []) (2 ∷ 0 ∷ [])
    ∷ given (0x02 ∷ 0x1D ∷ 0x00 ∷ 0x00 ∷ 0x00 ∷ []) (3 ∷ 0 ∷ [])
    -- a stray bit in two bytes, and in the second alone
    ∷ given (0x02 ∷ 0x2D ∷ 0xE0 ∷ 0xE0 ∷ []) (4 ∷ 2 ∷ [])
    ∷ given (0x02 ∷ 0x2D ∷ 0x1F ∷ 0xE0 ∷ []) (4 ∷ 3 ∷ [])
    -- two fields that lack their codes, and the second alone
    ∷ given (0x02 ∷ 0x41 ∷ 0x00 ∷ 0x00 ∷ 0x07 ∷ 0x00 ∷ 0x00 ∷ 0x00 ∷ 0xF0 ∷ []) (5 ∷ 4 ∷ [])
    ∷ given (0x02 ∷ 0x41 ∷ 0x00 ∷ 0x00 ∷ 0x08 ∷ 0x00 ∷ 0x00 ∷ 0x00 ∷ 0xF0 ∷ []) (5 ∷ 8 ∷ [])
    -- a stray bit comes before any code, whichever stands lower
    ∷ given (0x02 ∷ 0x41 ∷ 0x00 ∷ 0x00 ∷ 0x07 ∷ 0x00 ∷ 0x00 ∷ 0x00 ∷ 0xF2 ∷ []) (4 ∷ 8 ∷ [])
    -- a sync word of 65 bits, and one of 64
    ∷ given (0x02 ∷ 0x44 ∷ 0x00 ∷ 0x00 ∷ 0x00 ∷ 0x00 ∷ 0x00 ∷ 0x00 ∷ 0x00 ∷ 0x00 ∷ 0x41 ∷ []) (5 ∷ 10 ∷ [])
    ∷ given (0x02 ∷ 0x44 ∷ 0x00 ∷ 0x00 ∷ 0x00 ∷ 0x00 ∷ 0x00 ∷ 0x00 ∷ 0x00 ∷ 0x01 ∷ 0xC0 ∷ []) (0 ∷ 20 ∷ 1 ∷ 1 ∷ 64 ∷ [])
    ∷ []

pub examples : answers cases ≡ expected cases
unfolding answered decode find is_in judged known lacking lists mask mask_of narrow_of narrows_of read read_to reads sought stray tab tab_from takes
examples = refl
