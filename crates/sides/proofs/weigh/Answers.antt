use native.Mathlib.Omega.{arith}
use Rattle.table.specs.Table.{settings}
use Rattle.owners.specs.Owners.{owns}
use Rattle.sides.proofs.Weighing.{weight-end, weight-step}
use Rattle.sides.proofs.weigh.Goals as goal

pub loop-s-preserved : goal.loop-s-preserved
loop-s-preserved c =
    let a = c.args in (
      omega (arith, c.loop-s.invariant.0, c.slot_weights-more.ensures.first_value.1),
      omega (arith, c.loop-s.invariant.1, c.slot_weights-more.ensures.second_value.1),
      omega (
        arith,
        c.loop-s.invariant.2,
        c.slot_weights-more.ensures.first_value.0,
        weight-step a.slots settings (owns a.owners.now 1) a.book.now c.loop-s.s c.loop-s-test.true,
      ),
      omega (
        arith,
        c.loop-s.invariant.3,
        c.slot_weights-more.ensures.second_value.0,
        weight-step a.slots settings (owns a.owners.now 2) a.book.now c.loop-s.s c.loop-s-test.true,
      ),
    )

pub returns : goal.returns
returns c =
    let a = c.args in record {
      first_value = (
        omega (arith, c.loop-s.invariant.2, weight-end a.slots settings (owns a.owners.now 1) a.book.now c.loop-s.s c.loop-s-test.false),
        omega (arith, c.loop-s.invariant.0),
      );
      second_value = (
        omega (arith, c.loop-s.invariant.3, weight-end a.slots settings (owns a.owners.now 2) a.book.now c.loop-s.s c.loop-s-test.false),
        omega (arith, c.loop-s.invariant.1),
      );
    }
