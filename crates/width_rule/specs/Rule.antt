-- Which width of the FSK receive filter is right for a need in Hz (REFERENCE, "Widths for banks"). A width counts as the exact fraction that it
-- is: the names of the codes decide nothing.
-- Assumes nothing.
use Rattle.std.specs.Prelude.{ℕ, ◌*◌, Bool, true, false, cond, ◌&&◌, List, [], ◌∷◌, leb}
use Rattle.table.specs.Codes.{rx_bw_codes}
use Rattle.rx_bw.specs.Width.{divisor, is_named}

-- a width as a fraction of Hz
pub record Width : Type 0 where
  pub hz : ℕ
  pub over : ℕ

-- what a code stands for: 40 MHz over its divisor
abbrev pub width_of : ℕ → Width
width_of c = record { hz = 40000000; over = divisor c }

-- whether a width is at least so many whole Hz, and whether one is at most another: products are compared, so that nothing is rounded
abbrev pub is_at_least : Width → ℕ → Bool
is_at_least w need = leb (need * w.over) w.hz

abbrev pub is_at_most : Width → Width → Bool
is_at_most v w = leb (v.hz * w.over) (w.hz * v.over)

-- a listed code that is not `BwAuto`, which is what `is_named` says, of a width that is at least the need
unfoldable pub suffices : ℕ → ℕ → Bool
suffices need c = is_named c && is_at_least (width_of c) need

-- whether one of these codes suffices
unfoldable pub any_suffices : ℕ → List ℕ → Bool
any_suffices need [] = false
any_suffices need (c ∷ cs) = cond (suffices need c) true (any_suffices need cs)

-- whether a need can be served: a listed width is at least the need
unfoldable pub is_served : ℕ → Bool
is_served need = any_suffices need rx_bw_codes

-- whether none of these codes suffices with a smaller width than c
unfoldable pub none_narrower : ℕ → ℕ → List ℕ → Bool
none_narrower need c [] = true
none_narrower need c (d ∷ ds) = cond (suffices need d) (is_at_most (width_of c) (width_of d)) true && none_narrower need c ds

-- The rule: a code is right for a need if it suffices and no listed code that does is narrower.
unfoldable pub is_right : ℕ → ℕ → Bool
is_right need c = suffices need c && none_narrower need c rx_bw_codes

-- the first of these codes that is right; 0 where none is
unfoldable pub right_in : ℕ → List ℕ → ℕ
right_in need [] = 0
right_in need (c ∷ cs) = cond (is_right need c) c (right_in need cs)

-- the right code for a need, of which there is one if the need can be served (`right-once`, `served-right`)
unfoldable pub right_for : ℕ → ℕ
right_for need = right_in need rx_bw_codes
