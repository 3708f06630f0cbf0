-- The exact widths of `LoraBw` (REFERENCE, "Widths"), its order, and what the coding rates are, as the methods of the Rust's enums give them.
-- Assumes nothing.
use Rattle.std.specs.Prelude.{ℕ, ◌/◌, Bool, true, false}
use Rattle.cmd_lora.specs.declared.LoraBw.{LoraBw}
use Rattle.cmd_lora.specs.declared.LoraBw.TheVariants.{Bw7, Bw15, Bw31, Bw62, Bw125, Bw250, Bw500, Bw1000}
use Rattle.cmd_lora.specs.declared.LoraBw.TheVariants.{Bw10, Bw20, Bw41, Bw83, Bw101, Bw203, Bw406, Bw812}
use Rattle.cmd_lora.specs.declared.LoraCr.{LoraCr}
use Rattle.cmd_lora.specs.declared.LoraCr.TheVariants.{NoCoding, Cr1Ham45Si, Cr2Ham23Si, Cr3Ham47Si, Cr4Ham12Si}
use Rattle.cmd_lora.specs.declared.LoraCr.TheVariants.{Cr5Ham45Li, Cr6Ham23Li, Cr7Ham12Li, Cr8Cc23, Cr9Cc12}

-- a width of `hz` Hz in `parts` parts
pub record Width : Type 0 where
  pub hz : ℕ
  pub parts : ℕ

abbrev pub over : ℕ → ℕ → Width
over n d = record { hz = n; parts = d }

-- Bw83 is a twelfth of a MHz, and Bw41, Bw20 and Bw10 go on by halves; Bw7 and Bw101 end in half a Hz; the others are whole numbers of Hz
abbrev pub exact_width : LoraBw → Width
exact_width Bw7 = over 15625 2
exact_width Bw15 = over 15625 1
exact_width Bw31 = over 31250 1
exact_width Bw62 = over 62500 1
exact_width Bw125 = over 125000 1
exact_width Bw250 = over 250000 1
exact_width Bw500 = over 500000 1
exact_width Bw1000 = over 1000000 1
exact_width Bw10 = over 1000000 96
exact_width Bw20 = over 1000000 48
exact_width Bw41 = over 1000000 24
exact_width Bw83 = over 1000000 12
exact_width Bw101 = over 203125 2
exact_width Bw203 = over 203125 1
exact_width Bw406 = over 406250 1
exact_width Bw812 = over 812500 1

-- in whole Hz, rounded down
abbrev pub hz_of : LoraBw → ℕ
hz_of w = (exact_width w).hz / (exact_width w).parts

-- the Rust's fractional bandwidths
abbrev pub is_fractional : LoraBw → Bool
is_fractional Bw101 = true
is_fractional Bw203 = true
is_fractional Bw406 = true
is_fractional Bw812 = true
is_fractional Bw7 = false
is_fractional Bw15 = false
is_fractional Bw31 = false
is_fractional Bw62 = false
is_fractional Bw125 = false
is_fractional Bw250 = false
is_fractional Bw500 = false
is_fractional Bw1000 = false
is_fractional Bw10 = false
is_fractional Bw20 = false
is_fractional Bw41 = false
is_fractional Bw83 = false

-- the Rust's rates with long interleaving
abbrev pub is_li : LoraCr → Bool
is_li NoCoding = false
is_li Cr1Ham45Si = false
is_li Cr2Ham23Si = false
is_li Cr3Ham47Si = false
is_li Cr4Ham12Si = false
is_li Cr5Ham45Li = true
is_li Cr6Ham23Li = true
is_li Cr7Ham12Li = true
is_li Cr8Cc23 = true
is_li Cr9Cc12 = true

-- the Rust's denominators, supposing a numerator of 4
abbrev pub denominator_of : LoraCr → ℕ
denominator_of NoCoding = 4
denominator_of Cr1Ham45Si = 5
denominator_of Cr2Ham23Si = 6
denominator_of Cr3Ham47Si = 7
denominator_of Cr4Ham12Si = 8
denominator_of Cr5Ham45Li = 5
denominator_of Cr6Ham23Li = 6
denominator_of Cr7Ham12Li = 8
denominator_of Cr8Cc23 = 6
denominator_of Cr9Cc12 = 8
