-- Status and Intr, from bytes and to what their bits say (REFERENCE, "Status and interrupts").
-- Assumes nothing.
use Rattle.std.specs.Prelude.{ℕ, List}
use Rattle.status.specs.Notation.{wide, field}
use Rattle.status.specs.Codes.{cmd_of, reset_of, mode_of}
use Rattle.status.specs.declared.Status.{Status}
use Rattle.status.specs.declared.Intr.{Intr}
use Rattle.status.specs.declared.CmdStatus.{CmdStatus}
use Rattle.status.specs.declared.ResetSrc.{ResetSrc}
use Rattle.status.specs.declared.ChipModeStatus.{ChipModeStatus}

-- the first two bytes, and the first four: a byte that is not there counts as 0, and one behind them is not looked at
abbrev pub status_of : List ℕ → Status
status_of b = record { 0 = wide b 0 1 }

abbrev pub intr : ℕ → Intr
intr v = record { 0 = v }

abbrev pub intr_of : List ℕ → Intr
intr_of b = intr (wide b 0 3)

-- how the command went: bits 11 to 9
abbrev pub cmd_in : ℕ → CmdStatus
cmd_in w = cmd_of (field w 11 9)

-- what reset the chip: bits 7 to 4
abbrev pub reset_in : ℕ → ResetSrc
reset_in w = reset_of (field w 7 4)

-- what the chip does: bits 2 to 0
abbrev pub mode_in : ℕ → ChipModeStatus
mode_in w = mode_of (field w 2 0)
