use Rattle.decoder.proofs.Seeking.{seat-empty, seat-first, seat-second, seat-other}
use Rattle.decoder.proofs.seek.Goals as goal

pub returns-then-seat-eq0 : goal.returns-then-seat-eq0
returns-then-seat-eq0 c =
    seat-empty c.args.op c.args.len c.requires _ c.seat_of-seat.ensures c.if-seat-eq0.true

pub returns-then-seat-len : goal.returns-then-seat-len
returns-then-seat-len c =
    seat-first c.args.op c.args.len c.requires _ c.seat_of-seat.ensures c.if-seat-eq0.false
    c.if-seat-len.true

pub returns-then-seat-len-2 : goal.returns-then-seat-len-2
returns-then-seat-len-2 c =
    seat-second c.args.op c.args.len c.requires _ c.seat_of-seat.ensures
    c.if-seat-eq0.false c.if-seat-len.false c.if-seat-len-2.true

pub returns : goal.returns
returns c =
    seat-other c.args.op c.args.len c.requires _ c.seat_of-seat.ensures
    c.if-seat-eq0.false c.if-seat-len.false c.if-seat-len-2.false
