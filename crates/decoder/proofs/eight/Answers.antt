use Prim.Native.Nat.{ℕ}
use mathlib.Core.Path.{ap}
use native.Mathlib.Nat.{add-zero}
use native.Mathlib.Omega.{arith}
use Rattle.frame.specs.Layout.{bytes}
use Rattle.decoder.specs.Words.{big_end}
use Rattle.decoder.proofs.eight.Goals as goal

pub returns : goal.returns
unfolding big_end
returns c =
    let a = c.args in
    omega (arith, ap (λ (i : ℕ). bytes a.s.now i) (add-zero a.at))
