use mathlib.Core.Path.{◌≡◌}
use Prim.Native.Nat.{◌%◌, ◌<◌, ◌≤◌}
use native.Mathlib.Omega.{arith}
use borrow.Author.Tests.{eq-eqb, ne_eqb, lt-ltb, le-ltb}
use Rattle.table.specs.Codes.{takes}
use Rattle.codes.proofs.is_taken.Goals as goal

pub returns-in-0 : goal.returns-in-0
unfolding takes
returns-in-0 c = simp (eq-eqb _ _ c.in-0.is)

pub returns-in-1-to-255 : goal.returns-in-1-to-255
unfolding takes
returns-in-1-to-255 c =
    let n = c.args.number % 2048 in
    let some : n ≡ 0 → ⊥ = (λ e. omega arith) in
    let limit : n < 256 = omega arith in
    simp (ne_eqb n 0 some, lt-ltb n 256 limit, c.from.ensures)

pub returns-in-256-to-4294967295 : goal.returns-in-256-to-4294967295
unfolding takes
returns-in-256-to-4294967295 c =
    let n = c.args.number % 2048 in
    let some : n ≡ 0 → ⊥ = (λ e. omega arith) in
    let list : 256 ≤ n = omega arith in
    simp (ne_eqb n 0 some, le-ltb n 256 list) c.is_listed.ensures
