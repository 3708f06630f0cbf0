use native.Mathlib.Omega.{arith}
use Rattle.book.proofs.Refitting.{refitted-is}
use Rattle.book.proofs.refit.Goals as goal

pub returns : goal.returns
returns c =
    refitted-is _ _ _ _ _ _ _ _ _ c.shift_offsets.ensures c.move_rest.ensures (omega arith)
    (omega (arith, c.move_rest.auto.b, c.shift_offsets.auto.b)) c.put_word.ensures
