use mathlib.Core.Path.{ap, sym, ◌≡◌}
use Prim.Native.Nat.{ℕ, zero-le}
use Rattle.table.specs.Table.{settings}
use Rattle.table.proofs.Past.{past}
use Rattle.settings.specs.Settings.{lengths, size_of}
use Rattle.settings.proofs.Settings.{size_none}
use Rattle.settings.proofs.head_of.Goals as goal

-- the length of the arm's slot is the length of what was matched
is : {i k : ℕ} → i ≡ k → size_of k ≡ size_of i
is e = sym (ap size_of e)

-- from commands.json: arms
pub returns-in-0 : goal.returns-in-0
unfolding size_of lengths
returns-in-0 c = is c.in-0.is

pub returns-in-1 : goal.returns-in-1
unfolding size_of lengths
returns-in-1 c = is c.in-1.is

pub returns-in-2 : goal.returns-in-2
unfolding size_of lengths
returns-in-2 c = is c.in-2.is

pub returns-in-3 : goal.returns-in-3
unfolding size_of lengths
returns-in-3 c = is c.in-3.is

pub returns-in-4 : goal.returns-in-4
unfolding size_of lengths
returns-in-4 c = is c.in-4.is

pub returns-in-5 : goal.returns-in-5
unfolding size_of lengths
returns-in-5 c = is c.in-5.is

pub returns-in-6 : goal.returns-in-6
unfolding size_of lengths
returns-in-6 c = is c.in-6.is

pub returns-in-7 : goal.returns-in-7
unfolding size_of lengths
returns-in-7 c = is c.in-7.is

pub returns-in-8 : goal.returns-in-8
unfolding size_of lengths
returns-in-8 c = is c.in-8.is

pub returns-in-9 : goal.returns-in-9
unfolding size_of lengths
returns-in-9 c = is c.in-9.is

pub returns-in-10 : goal.returns-in-10
unfolding size_of lengths
returns-in-10 c = is c.in-10.is

pub returns-in-11 : goal.returns-in-11
unfolding size_of lengths
returns-in-11 c = is c.in-11.is

pub returns-in-12 : goal.returns-in-12
unfolding size_of lengths
returns-in-12 c = is c.in-12.is

pub returns-in-13 : goal.returns-in-13
unfolding size_of lengths
returns-in-13 c = is c.in-13.is

pub returns-in-14 : goal.returns-in-14
unfolding size_of lengths
returns-in-14 c = is c.in-14.is

pub returns-in-15 : goal.returns-in-15
unfolding size_of lengths
returns-in-15 c = is c.in-15.is

pub returns-in-16 : goal.returns-in-16
unfolding size_of lengths
returns-in-16 c = is c.in-16.is

pub returns-in-17 : goal.returns-in-17
unfolding size_of lengths
returns-in-17 c = is c.in-17.is

pub returns-in-18 : goal.returns-in-18
unfolding size_of lengths
returns-in-18 c = is c.in-18.is

pub returns-in-19 : goal.returns-in-19
unfolding size_of lengths
returns-in-19 c = is c.in-19.is

pub returns-in-20 : goal.returns-in-20
unfolding size_of lengths
returns-in-20 c = is c.in-20.is

pub returns-in-21 : goal.returns-in-21
unfolding size_of lengths
returns-in-21 c = is c.in-21.is

pub returns-in-22 : goal.returns-in-22
unfolding size_of lengths
returns-in-22 c = is c.in-22.is

pub returns-in-23 : goal.returns-in-23
unfolding size_of lengths
returns-in-23 c = is c.in-23.is

pub returns-in-24 : goal.returns-in-24
unfolding size_of lengths
returns-in-24 c = is c.in-24.is

pub returns-in-25 : goal.returns-in-25
unfolding size_of lengths
returns-in-25 c = is c.in-25.is

pub returns-in-26 : goal.returns-in-26
unfolding size_of lengths
returns-in-26 c = is c.in-26.is

pub returns-in-27 : goal.returns-in-27
unfolding size_of lengths
returns-in-27 c = is c.in-27.is

pub returns-in-28 : goal.returns-in-28
unfolding size_of lengths
returns-in-28 c = is c.in-28.is

-- end: arms

pub returns-in_default : goal.returns-in_default
unfolding size_of lengths
returns-in_default c = sym (size_none _ (past 0 settings _ zero-le c.in_default.in_default-own.rest))
