use mathlib.Core.Path.{◌∙◌}
use Prim.Native.Nat.{◌+◌}
use native.Mathlib.Omega.{arith}
use lib.ListN.{length-set, set}
use Rattle.book.proofs.Telling.{part-put}
use Rattle.book.proofs.write_frame.Goals as goal

pub returns : goal.returns
returns c = let a = c.args in c.write.ensures
    ∙ part-put a.b.now a.p a.n (set a.out.now a.w a.n) (a.w + 1) (omega arith) (simp length-set (omega arith))
