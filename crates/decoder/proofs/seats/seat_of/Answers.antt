use mathlib.Core.Path.{◌≡◌, sym, ap}
use Prim.Native.Nat.{ℕ}
use Rattle.decoder.specs.Seats.{seat_from, seat_of}
use Rattle.decoder.proofs.Seeking.{seat-none}
use Rattle.decoder.proofs.seats.seat_of.Goals as goal

-- the seat of the arm's number is the seat of what was matched
is : {o k : ℕ} → o ≡ k → seat_of k ≡ seat_of o
is e = sym (ap seat_of e)

-- from commands.json: arms
pub returns-in-544 : goal.returns-in-544
unfolding seat_from
returns-in-544 c = is c.in-544.is

pub returns-in-545 : goal.returns-in-545
unfolding seat_from
returns-in-545 c = is c.in-545.is

pub returns-in-546 : goal.returns-in-546
unfolding seat_from
returns-in-546 c = is c.in-546.is

pub returns-in-547 : goal.returns-in-547
unfolding seat_from
returns-in-547 c = is c.in-547.is

pub returns-in-550 : goal.returns-in-550
unfolding seat_from
returns-in-550 c = is c.in-550.is

pub returns-in-551 : goal.returns-in-551
unfolding seat_from
returns-in-551 c = is c.in-551.is

pub returns-in-552 : goal.returns-in-552
unfolding seat_from
returns-in-552 c = is c.in-552.is

pub returns-in-553 : goal.returns-in-553
unfolding seat_from
returns-in-553 c = is c.in-553.is

pub returns-in-554 : goal.returns-in-554
unfolding seat_from
returns-in-554 c = is c.in-554.is

pub returns-in-555 : goal.returns-in-555
unfolding seat_from
returns-in-555 c = is c.in-555.is

pub returns-in-557 : goal.returns-in-557
unfolding seat_from
returns-in-557 c = is c.in-557.is

pub returns-in-558 : goal.returns-in-558
unfolding seat_from
returns-in-558 c = is c.in-558.is

pub returns-in-541 : goal.returns-in-541
unfolding seat_from
returns-in-541 c = is c.in-541.is

pub returns-in-576 : goal.returns-in-576
unfolding seat_from
returns-in-576 c = is c.in-576.is

pub returns-in-577 : goal.returns-in-577
unfolding seat_from
returns-in-577 c = is c.in-577.is

pub returns-in-578 : goal.returns-in-578
unfolding seat_from
returns-in-578 c = is c.in-578.is

pub returns-in-579 : goal.returns-in-579
unfolding seat_from
returns-in-579 c = is c.in-579.is

pub returns-in-580 : goal.returns-in-580
unfolding seat_from
returns-in-580 c = is c.in-580.is

pub returns-in-581 : goal.returns-in-581
unfolding seat_from
returns-in-581 c = is c.in-581.is

pub returns-in-582 : goal.returns-in-582
unfolding seat_from
returns-in-582 c = is c.in-582.is

pub returns-in-583 : goal.returns-in-583
unfolding seat_from
returns-in-583 c = is c.in-583.is

pub returns-in-512 : goal.returns-in-512
unfolding seat_from
returns-in-512 c = is c.in-512.is

pub returns-in-513 : goal.returns-in-513
unfolding seat_from
returns-in-513 c = is c.in-513.is

pub returns-in-514 : goal.returns-in-514
unfolding seat_from
returns-in-514 c = is c.in-514.is

pub returns-in-524 : goal.returns-in-524
unfolding seat_from
returns-in-524 c = is c.in-524.is

pub returns-in-525 : goal.returns-in-525
unfolding seat_from
returns-in-525 c = is c.in-525.is

pub returns-in-527 : goal.returns-in-527
unfolding seat_from
returns-in-527 c = is c.in-527.is

pub returns-in-528 : goal.returns-in-528
unfolding seat_from
returns-in-528 c = is c.in-528.is

pub returns-in-529 : goal.returns-in-529
unfolding seat_from
returns-in-529 c = is c.in-529.is

pub returns-in-533 : goal.returns-in-533
unfolding seat_from
returns-in-533 c = is c.in-533.is

pub returns-in-534 : goal.returns-in-534
unfolding seat_from
returns-in-534 c = is c.in-534.is

pub returns-in-536 : goal.returns-in-536
unfolding seat_from
returns-in-536 c = is c.in-536.is

pub returns-in-538 : goal.returns-in-538
unfolding seat_from
returns-in-538 c = is c.in-538.is

pub returns-in-539 : goal.returns-in-539
unfolding seat_from
returns-in-539 c = is c.in-539.is

-- end: arms

pub returns-in_default : goal.returns-in_default
unfolding seat_from
returns-in_default c = seat-none _ c.in_default.in_default-own.rest
