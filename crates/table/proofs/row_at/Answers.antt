use mathlib.Core.Path.{◌≡◌, sym, ap}
use mathlib.Core.List.{[]}
use Prim.Native.Nat.{ℕ, zero-le, ◌-◌, ◌≤◌, min}
use native.Mathlib.Omega.{arith}
use lib.ListN.{get_or}
use Rattle.table.specs.Table.{kinds, rows, row_at}
use Rattle.table.proofs.Past.{past}
use Rattle.table.proofs.row_at.Goals as goal

-- the row of the arm's number is the row of what was matched
is : {i k : ℕ} → i ≡ k → row_at k ≡ row_at i
is e = sym (ap row_at e)

last : (i : ℕ) → kinds - 1 ≤ i → row_at (kinds - 1) ≡ row_at i
unfolding row_at
last i h = let e : min i (kinds - 1) ≡ kinds - 1 = omega arith in sym (ap (λ (k : ℕ). get_or rows k []) e)

-- from commands.json: arms
pub returns-in-0 : goal.returns-in-0
unfolding row_at
returns-in-0 c = is c.in-0.is

pub returns-in-1 : goal.returns-in-1
unfolding row_at
returns-in-1 c = is c.in-1.is

pub returns-in-2 : goal.returns-in-2
unfolding row_at
returns-in-2 c = is c.in-2.is

pub returns-in-3 : goal.returns-in-3
unfolding row_at
returns-in-3 c = is c.in-3.is

pub returns-in-4 : goal.returns-in-4
unfolding row_at
returns-in-4 c = is c.in-4.is

pub returns-in-5 : goal.returns-in-5
unfolding row_at
returns-in-5 c = is c.in-5.is

pub returns-in-6 : goal.returns-in-6
unfolding row_at
returns-in-6 c = is c.in-6.is

pub returns-in-7 : goal.returns-in-7
unfolding row_at
returns-in-7 c = is c.in-7.is

pub returns-in-8 : goal.returns-in-8
unfolding row_at
returns-in-8 c = is c.in-8.is

pub returns-in-9 : goal.returns-in-9
unfolding row_at
returns-in-9 c = is c.in-9.is

pub returns-in-10 : goal.returns-in-10
unfolding row_at
returns-in-10 c = is c.in-10.is

pub returns-in-11 : goal.returns-in-11
unfolding row_at
returns-in-11 c = is c.in-11.is

pub returns-in-12 : goal.returns-in-12
unfolding row_at
returns-in-12 c = is c.in-12.is

pub returns-in-13 : goal.returns-in-13
unfolding row_at
returns-in-13 c = is c.in-13.is

pub returns-in-14 : goal.returns-in-14
unfolding row_at
returns-in-14 c = is c.in-14.is

pub returns-in-15 : goal.returns-in-15
unfolding row_at
returns-in-15 c = is c.in-15.is

pub returns-in-16 : goal.returns-in-16
unfolding row_at
returns-in-16 c = is c.in-16.is

pub returns-in-17 : goal.returns-in-17
unfolding row_at
returns-in-17 c = is c.in-17.is

pub returns-in-18 : goal.returns-in-18
unfolding row_at
returns-in-18 c = is c.in-18.is

pub returns-in-19 : goal.returns-in-19
unfolding row_at
returns-in-19 c = is c.in-19.is

pub returns-in-20 : goal.returns-in-20
unfolding row_at
returns-in-20 c = is c.in-20.is

pub returns-in-21 : goal.returns-in-21
unfolding row_at
returns-in-21 c = is c.in-21.is

pub returns-in-22 : goal.returns-in-22
unfolding row_at
returns-in-22 c = is c.in-22.is

pub returns-in-23 : goal.returns-in-23
unfolding row_at
returns-in-23 c = is c.in-23.is

pub returns-in-24 : goal.returns-in-24
unfolding row_at
returns-in-24 c = is c.in-24.is

pub returns-in-25 : goal.returns-in-25
unfolding row_at
returns-in-25 c = is c.in-25.is

pub returns-in-26 : goal.returns-in-26
unfolding row_at
returns-in-26 c = is c.in-26.is

pub returns-in-27 : goal.returns-in-27
unfolding row_at
returns-in-27 c = is c.in-27.is

pub returns-in-28 : goal.returns-in-28
unfolding row_at
returns-in-28 c = is c.in-28.is

pub returns-in-29 : goal.returns-in-29
unfolding row_at
returns-in-29 c = is c.in-29.is

pub returns-in-30 : goal.returns-in-30
unfolding row_at
returns-in-30 c = is c.in-30.is

pub returns-in-31 : goal.returns-in-31
unfolding row_at
returns-in-31 c = is c.in-31.is

pub returns-in-32 : goal.returns-in-32
unfolding row_at
returns-in-32 c = is c.in-32.is

pub returns-in-33 : goal.returns-in-33
unfolding row_at
returns-in-33 c = is c.in-33.is

pub returns-in-34 : goal.returns-in-34
unfolding row_at
returns-in-34 c = is c.in-34.is

pub returns-in-35 : goal.returns-in-35
unfolding row_at
returns-in-35 c = is c.in-35.is

pub returns-in-36 : goal.returns-in-36
unfolding row_at
returns-in-36 c = is c.in-36.is

pub returns-in-37 : goal.returns-in-37
unfolding row_at
returns-in-37 c = is c.in-37.is

-- end: arms

pub returns-in-38-to-max : goal.returns-in-38-to-max
unfolding row_at
returns-in-38-to-max c = last _ (past 0 (kinds - 1) _ zero-le c.in-38-to-max.in-38-to-max-own.rest)
