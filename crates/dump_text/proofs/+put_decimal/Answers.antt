-- `put_decimal` meets its contract, by induction on its number.
-- Assumes nothing.
use Rattle.std.proofs.Common.{arith}
use Rattle.reading.proofs.Decimals.{decimal-one}
use Rattle.dump_text.proofs.Writing.{puts_then, puts-as, decimal-two, decimal-hundreds, room-one, room-two, room-hundreds}
use Rattle.dump_text.proofs.+put_decimal.Goals as goal

pub put_digit-requires : goal.put_digit-requires
put_digit-requires t c = omega (arith, room-one c.args.n (omega arith))

pub returns-then-n-lt10 : goal.returns-then-n-lt10
returns-then-n-lt10 t c = puts-as _ (decimal-one _ (omega arith)) c.put_digit.ensures

pub put_digit-last-requires : goal.put_digit-last-requires
put_digit-last-requires t c = omega (arith, room-two c.args.n (omega arith) (omega arith))

pub put_digit-requires-then-n-lt100 : goal.put_digit-requires-then-n-lt100
put_digit-requires-then-n-lt100 t c = omega (arith, c.put_digit-last.ensures.behind, room-two c.args.n (omega arith) (omega arith))

pub returns-then-n-lt100 : goal.returns-then-n-lt100
returns-then-n-lt100 t c =
    puts-as _ (decimal-two _ (omega arith) (omega arith)) (puts_then c.put_digit-last.ensures c.put_digit-then-n-lt100.ensures)

pub put_decimal-tens-requires : goal.put_decimal-tens-requires
put_decimal-tens-requires t c = (omega arith, omega (arith, room-hundreds c.args.n (omega arith) (omega arith)))

pub put_digit-last-requires-2 : goal.put_digit-last-requires-2
put_digit-last-requires-2 t c = omega (arith, c.put_decimal-tens.ensures.behind, room-hundreds c.args.n (omega arith) (omega arith))

pub put_digit-requires-2 : goal.put_digit-requires-2
put_digit-requires-2 t c =
    omega (arith, c.put_decimal-tens.ensures.behind, c.put_digit-last-2.ensures.behind, room-hundreds c.args.n (omega arith) (omega arith))

pub returns : goal.returns
returns t c =
    puts-as _ (decimal-hundreds _ (omega arith) (omega arith))
    (puts_then (puts_then c.put_decimal-tens.ensures c.put_digit-last-2.ensures) c.put_digit-2.ensures)
