-- The loop's invariant: the arguments before the j-th fit. Assumes nothing.
use Prim.Native.Nat.{ℕ, ◌+◌}
use mathlib.Core.Path.{◌≡◌, sym, ap, ◌∙◌}
use native.Mathlib.Omega.{arith}
use borrow.Author.Rules.{rules}
use lib.ListN.{length}
use Rattle.std.specs.Prelude.{Some, slice_index_or}
use Rattle.builder.proofs.Arguments.{misfit-missing, misfit-bad, misfit-good, misfit-surplus, misfit-none}
use Rattle.builder.proofs.first_misfit.Goals.{then-args-j-via-then-args-j, then-args-j-via-else-args-j+then-not-is_fine}
use Rattle.builder.proofs.first_misfit.Goals as goal

pub returns-then-args-j : goal.returns-then-args-j
returns-then-args-j g c =
    let l = c.loop-j in
    let a = c.args in
    let n1 : length a.row ≡ 13 = search rules in
    sym (l.invariant.2 ∙ elim c.then-args-j.branch [
      | then-args-j-via-then-args-j w ↦ misfit-missing a.row n1 c.requires g.W.Way.takes a.args.now l.j (omega arith) w.if-args-j.true
      | then-args-j-via-else-args-j+then-not-is_fine w ↦
          misfit-bad a.row n1 c.requires g.W.Way.takes a.args.now l.j (omega arith) w.if-args-j.false (sym w.is_fine.ensures ∙ w.if-not-is_fine.true)
    ])

pub loop-j-preserved : goal.loop-j-preserved
loop-j-preserved g c =
    let l = c.loop-j in
    let n1 : length c.args.row ≡ 13 = search rules in (
      omega arith,
      c.requires,
      l.invariant.2 ∙ misfit-good c.args.row n1 c.requires g.W.Way.takes c.args.args.now l.j (omega arith) c.if-args-j.false
          (sym c.is_fine.ensures ∙ c.if-not-is_fine.false),
    )

pub returns-then-n-args : goal.returns-then-n-args
returns-then-n-args g c =
    let l = c.loop-j in
    let n1 : length c.args.row ≡ 13 = search rules in
    let n = slice_index_or c.args.row 3 0 in
    let e : l.j ≡ n = omega arith in
    ap (λ (k : ℕ). Some (k + 1)) (sym e)
    ∙ sym (l.invariant.2 ∙ misfit-surplus c.args.row n1 c.requires g.W.Way.takes c.args.args.now l.j (omega arith) (omega arith))

pub returns-else-n-args : goal.returns-else-n-args
returns-else-n-args g c =
    let l = c.loop-j in
    let n1 : length c.args.row ≡ 13 = search rules in
    sym (l.invariant.2 ∙ misfit-none c.args.row n1 c.requires g.W.Way.takes c.args.args.now l.j (omega arith) (omega arith))
