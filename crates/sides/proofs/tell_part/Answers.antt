use Prim.Native.Nat.{ℕ, ◌≤◌}
use native.Mathlib.Omega.{arith}
use lib.ListN.{length, length-replicate}
use Rattle.book.specs.Book.{longest_reel}
use Rattle.sides.proofs.Picking.{give-done}
use Rattle.sides.proofs.tell_part.Goals as goal

pub returns : goal.returns
returns c =
    let fits : c.pick-n.result ≤ length c.pick-n.new.out = omega (arith, c.pick-n.ensures.1, c.requires, c.pick-n.auto.out, length-replicate {A = ℕ} longest_reel 0) in
    give-done _ _ _ _ c.pick-n.ensures.0 fits _ c.if-n-out.false c.write.ensures
