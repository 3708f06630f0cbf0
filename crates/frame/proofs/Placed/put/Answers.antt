use native.Mathlib.Omega.{arith}
use Rattle.frame.proofs.Bytewise.{upto-start, upto-end}
use Rattle.frame.proofs.Placed.put.Goals as goal

pub loop-i-init : goal.loop-i-init
loop-i-init c = upto-start _ _ _

pub returns : goal.returns
returns c = upto-end _ _ _ _ _ c.args.self.lies c.loop-i.invariant (λ j h q. omega (arith, c.min-i-end.ensures, c.size.ensures))
