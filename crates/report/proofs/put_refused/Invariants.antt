-- `put_refused` meets its contract. The loop's invariant: the lines of the numbers below `number` stand there.
-- Assumes nothing.
use mathlib.Core.Path.{◌≡◌, refl, sym, ap, ◌∙◌}
use Prim.Native.Nat.{ℕ, ◌-◌, ◌≤◌}
use native.Mathlib.Omega.{arith}
use native.Mathlib.Numerals.{add-one}
use borrow.Author.Rules.{rules}
use lib.ListN.{length}
use Rattle.texts.specs.Written.{Puts}
use Rattle.texts.proofs.Writing.{puts_then, puts-as, puts_none, puts-length}
use Rattle.report.specs.Report.{refused_below}
use Rattle.report.proofs.put_refused.Given as goal

abbrev pub invariant-loop-number : goal.invariant-loop-number
invariant-loop-number l = (length l.out ≡ length l.initial.out) × Puts (refused_below l.number l.n-items) l.at l.initial.out l.to l.out
