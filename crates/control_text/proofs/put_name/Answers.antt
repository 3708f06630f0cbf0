-- `put_name` meets its contract: the arm of a status has its name.
-- Assumes nothing.
use mathlib.Core.Path.{◌≡◌, sym, ap, ◌∙◌}
use mathlib.Core.List.{List}
use Prim.Native.Nat.{ℕ}
use Rattle.status.specs.declared.CmdStatus.{CmdStatus}
use Rattle.status.specs.declared.Status.{Status}
use Rattle.status.specs.Words.{cmd_in, status_of}
use Rattle.texts.specs.Written.{Puts}
use Rattle.texts.proofs.Writing.{puts-as}
use Rattle.control_text.specs.Text.{cmd_name, status_name}
use Rattle.control_text.proofs.put_name.Goals as goal

-- what an arm writes is the name of the status that was matched
is : (s : List ℕ) {x y : CmdStatus} {v : Status} {at r : ℕ} {o p : List ℕ} → x ≡ cmd_in v.0 → v ≡ status_of s → x ≡ y
    → Puts (cmd_name y) at o r p → Puts (status_name s) at o r p
unfolding status_name
is s e g f u = puts-as _ (ap cmd_name (sym (e ∙ ap (λ (x : Status). cmd_in x.0) g) ∙ f)) u

pub returns-in-Fail : goal.returns-in-Fail
returns-in-Fail c = is c.args.status.now c.cmd-cmd.ensures c.from_slice.ensures c.in-Fail.is c.put_text.ensures

pub returns-in-PErr : goal.returns-in-PErr
returns-in-PErr c = is c.args.status.now c.cmd-cmd.ensures c.from_slice.ensures c.in-PErr.is c.put_text-in-PErr.ensures

pub returns-in-Ok : goal.returns-in-Ok
returns-in-Ok c = is c.args.status.now c.cmd-cmd.ensures c.from_slice.ensures c.in-Ok.is c.put_text-in-Ok.ensures

pub returns-in-Data : goal.returns-in-Data
returns-in-Data c = is c.args.status.now c.cmd-cmd.ensures c.from_slice.ensures c.in-Data.is c.put_text-in-Data.ensures

pub returns-in-Unknown : goal.returns-in-Unknown
returns-in-Unknown c = is c.args.status.now c.cmd-cmd.ensures c.from_slice.ensures c.in-Unknown.is c.put_text-in-Unknown.ensures
