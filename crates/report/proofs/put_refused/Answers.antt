-- `put_refused` meets its contract. The loop's invariant: the lines of the numbers below `number` stand there.
-- Assumes nothing.
use mathlib.Core.Path.{◌≡◌, refl, sym, ap, ◌∙◌}
use Prim.Native.Nat.{ℕ, ◌-◌, ◌≤◌}
use native.Mathlib.Omega.{arith}
use native.Mathlib.Numerals.{add-one}
use borrow.Author.Rules.{rules}
use lib.ListN.{length}
use Rattle.texts.specs.Written.{Puts}
use Rattle.texts.proofs.Writing.{puts_then, puts-as, puts_none, puts-length}
use Rattle.report.specs.Report.{refused_below}
use Rattle.report.proofs.put_refused.Goals as goal

pub loop-number-init : goal.loop-number-init
unfolding refused_below
loop-number-init c = (refl, puts_none _ _)

pub loop-number-preserved : goal.loop-number-preserved
unfolding refused_below
loop-number-preserved c =
    let put = c.put_refused_by-to.ensures in
    let next = ap (λ (k : ℕ). refused_below k c.args.counts) (add-one c.loop-number.number) in
    (puts-length put ∙ c.loop-number.invariant.0, puts-as _ next (puts_then c.loop-number.invariant.1 put))
