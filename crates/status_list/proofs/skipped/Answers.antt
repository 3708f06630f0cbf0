-- `skipped` meets its contract: no word begins at what is passed, and what is left is counted from there.
-- Assumes nothing.
use mathlib.Core.Path.{◌≡◌, sym, ap, ◌∙◌}
use mathlib.Core.Bool.{Bool}
use Prim.Native.Nat.{◌+◌}
use native.Mathlib.Omega.{arith}
use lib.ListN.{drop, get_or, length}
use Rattle.status_list.specs.Found.{skipped_from}
use Rattle.status_list.proofs.Scans.{skipped-end, skipped-pass, skipped-stop}
use Rattle.status_list.proofs.skipped.Goals as goal

pub returns-then-word_begins : goal.returns-then-word_begins
returns-then-word_begins c =
    sym (skipped-stop _ _ _ _ _ c.loop-i.invariant (omega arith) (sym c.word_begins.ensures ∙ c.if-word_begins.true))

pub loop-i-preserved : goal.loop-i-preserved
loop-i-preserved c =
    let s = c.args.s.now in
    skipped-pass _ _ _ _ _ c.loop-i.invariant (omega arith) (sym c.word_begins.ensures ∙ c.if-word_begins.false)
    ∙ ap (λ (u : Bool). c.loop-i.i + 1 + skipped_from u (get_or s c.loop-i.i 0) (drop (c.loop-i.i + 1) s)) (sym c.in_comment-c.ensures)

pub returns : goal.returns
returns c =
    let n : length c.args.s.now ≡ c.loop-i.i = omega arith in
    n ∙ sym (skipped-end _ _ _ _ _ c.loop-i.invariant c.loop-i-test.false)
