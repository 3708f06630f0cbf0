use native.Mathlib.Omega.{arith}
use Rattle.contents.proofs.Loops.{len-long, len-other, len-yes, length_at-none}
use Rattle.contents.proofs.len_at.Goals as goal

pub returns-then-slot_of-s : goal.returns-then-slot_of-s
returns-then-slot_of-s c =
    let z = c.size_of-n in (
      len-yes _ _ _ _ _ c.slot_from-s.ensures.0 (omega arith) _ z.ensures.0 _ (omega arith) (omega arith) c.slot_of.ensures
          c.if-slot_of-s.true,
      omega arith,
      omega arith,
    )

pub returns : goal.returns
returns c =
    let z = c.size_of-n in (
      len-other _ _ _ _ _ c.slot_from-s.ensures.0 (omega arith) _ z.ensures.0 _ (omega arith) (omega arith) c.slot_of.ensures
          c.if-slot_of-s.false,
      omega arith,
      omega arith,
    )

pub returns-then-n-e : goal.returns-then-n-e
returns-then-n-e c =
    (len-long _ _ _ _ _ c.slot_from-s.ensures.0 (omega arith) _ c.size_of-n.ensures.0 (omega arith) c.if-n-e.true, omega arith, omega arith)

pub returns-then-s-slots : goal.returns-then-s-slots
returns-then-s-slots c = (length_at-none _ _ _ _ _ c.slot_from-s.ensures.0 (omega arith) c.if-s-slots.true, omega arith, omega arith)
