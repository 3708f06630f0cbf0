-- `line_of` meets its contract.
-- Assumes nothing.
use mathlib.Core.Path.{ap, ◌∙◌}
use Prim.Native.Nat.{ℕ, ◌+◌}
use borrow.Author.Tests.{lt-ltb}
use native.Mathlib.Omega.{arith}
use lib.ListN.{length, length-take, take}
use Rattle.status_list.proofs.Scans.{newlines-le, newlines_count}
use Rattle.status_list.proofs.line_of.Goals as goal

pub overflow_add-result : goal.overflow_add-result
overflow_add-result c =
    let a = c.args in
    omega (arith, c.newlines.ensures ∙ newlines_count (take a.at a.text.now), newlines-le (take a.at a.text.now), length-take a.at a.text.now)

pub returns-then-at-text : goal.returns-then-at-text
returns-then-at-text c =
    let a = c.args in
    rw (lt-ltb a.at (length a.text.now) c.if-at-text.true) (ap (λ (n : ℕ). n + 1) (c.newlines.ensures ∙ newlines_count (take a.at a.text.now)))
