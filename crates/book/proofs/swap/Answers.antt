use native.Mathlib.Omega.{arith}
use Rattle.book.proofs.Swapping.{swapped-is}
use Rattle.book.proofs.swap.Goals as goal

pub returns : goal.returns
returns c =
    swapped-is _ _ _ _ _ _ _ _ _ _ c.refit.ensures (omega (arith, c.refit.auto.b)) c.write.ensures (omega arith)
    (omega (arith, c.write.auto.b, c.refit.auto.b)) c.put_word.ensures
