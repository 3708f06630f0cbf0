-- Computed: which bytes a refill keeps (`spans`), and standard input and its name, in a buffer with room for that and in one without
-- (`standard`, `dash`).
-- Assumes nothing.
use mathlib.Core.Path.{◌≡◌, refl}
use mathlib.Core.List.{List, [], ◌∷◌}
use Prim.Native.Nat.{ℕ}
use Rattle.std.specs.Prelude.{Option, None, Some}
use lib.IntN.{pos}
use Rattle.front.specs.declared.Input.{Input}
use Rattle.front.specs.Buffers.{called, span_of, standard_in}

abbrev four : List ℕ
four = 10 ∷ 11 ∷ 12 ∷ 13 ∷ []

-- of four bytes: some, all, the last, none at either end, and places that are none
abbrev kept : List (List ℕ)
kept = span_of four 1 3 ∷ span_of four 0 4 ∷ span_of four 3 4 ∷ span_of four 0 0 ∷ span_of four 4 4 ∷ span_of four 3 1 ∷ span_of four 2 5 ∷ []

pub spans : kept ≡ ((11 ∷ 12 ∷ []) ∷ four ∷ (13 ∷ []) ∷ [] ∷ [] ∷ [] ∷ [] ∷ [])
unfolding span_of
spans = refl

-- descriptor 0; in a buffer of no bytes there is no input
abbrev opened : List (Option Input)
opened = Some (record { fd = pos 0; name = 1; file = None }) ∷ None ∷ []

pub standard : (standard_in four ∷ standard_in [] ∷ []) ≡ opened
unfolding standard_in
standard = refl

-- the byte 45 is `-`
pub dash : (called four ∷ called [] ∷ []) ≡ ((45 ∷ 11 ∷ 12 ∷ 13 ∷ []) ∷ [] ∷ [])
unfolding called
dash = refl
