-- The numbers of the status enums, and what a number says (REFERENCE, "Status and interrupts"). `Unknown` has a number of its own, past those
-- that the bits can hold.
-- Assumes nothing.
use Rattle.std.specs.Prelude.{ℕ, Bool, true, false, List, [], ◌∷◌, get_or, Result, Ok, Err}
use Rattle.status.specs.declared.CmdStatus.{CmdStatus}
use Rattle.status.specs.declared.CmdStatus.TheVariants as cmd
use Rattle.status.specs.declared.ResetSrc.{ResetSrc}
use Rattle.status.specs.declared.ResetSrc.TheVariants as reset
use Rattle.status.specs.declared.ChipModeStatus.{ChipModeStatus}
use Rattle.status.specs.declared.ChipModeStatus.TheVariants as mode
use Rattle.status.specs.declared.Lr2021Error.{Lr2021Error}
use Rattle.status.specs.declared.Lr2021Error.TheVariants as error

abbrev pub cmd_code : CmdStatus → ℕ
cmd_code cmd.Fail = 0
cmd_code cmd.PErr = 1
cmd_code cmd.Ok = 2
cmd_code cmd.Data = 3
cmd_code cmd.Unknown = 8

abbrev pub reset_code : ResetSrc → ℕ
reset_code reset.Cleared = 0
reset_code reset.Analog = 1
reset_code reset.External = 2
reset_code reset.Watchdog = 4
reset_code reset.Iocd = 5
reset_code reset.Rtc = 6
reset_code reset.Unknown = 16

abbrev pub mode_code : ChipModeStatus → ℕ
mode_code mode.Sleep = 0
mode_code mode.Rc = 1
mode_code mode.Xosc = 2
mode_code mode.Fs = 3
mode_code mode.Rx = 4
mode_code mode.Tx = 5
mode_code mode.Unknown = 8

-- What a number says, by its place in a list; a number past the list says `Unknown`.
abbrev pub cmds : List CmdStatus
cmds = cmd.Fail ∷ cmd.PErr ∷ cmd.Ok ∷ cmd.Data ∷ []

abbrev pub cmd_of : ℕ → CmdStatus
cmd_of n = get_or cmds n cmd.Unknown

-- 3 has no name
abbrev pub resets : List ResetSrc
resets = reset.Cleared ∷ reset.Analog ∷ reset.External ∷ reset.Unknown ∷ reset.Watchdog ∷ reset.Iocd ∷ reset.Rtc ∷ []

abbrev pub reset_of : ℕ → ResetSrc
reset_of n = get_or resets n reset.Unknown

abbrev pub modes : List ChipModeStatus
modes = mode.Sleep ∷ mode.Rc ∷ mode.Xosc ∷ mode.Fs ∷ mode.Rx ∷ mode.Tx ∷ []

abbrev pub mode_of : ℕ → ChipModeStatus
mode_of n = get_or modes n mode.Unknown

-- whether a command succeeded, and what a check says of it
abbrev pub good_cmd : CmdStatus → Bool
good_cmd cmd.Fail = false
good_cmd cmd.PErr = false
good_cmd cmd.Ok = true
good_cmd cmd.Data = true
good_cmd cmd.Unknown = false

abbrev pub check_of : CmdStatus → Result (Unit {0}) Lr2021Error
check_of cmd.Fail = Err error.CmdFail
check_of cmd.PErr = Err error.CmdErr
check_of cmd.Ok = Ok tt
check_of cmd.Data = Ok tt
check_of cmd.Unknown = Err error.Unknown
