use lib.ListN.{drop, get_or}
use mathlib.Core.Path.{ap, sym, ◌∙◌}
use Prim.Native.Nat.{ℕ}
use native.Mathlib.Omega.{arith}
use Rattle.contents.specs.Contents.{all_zero, frames_from, layout, start, verdict_of}
use Rattle.contents.proofs.Loops.{judge-all, judge-count, judge-high, judge-long, judge-low, judge-many, judge-short, judge-tail, judge-version}
use Rattle.contents.proofs.check.Goals as goal

pub returns-then-slots-gt-MOST_SLOTS : goal.returns-then-slots-gt-MOST_SLOTS
returns-then-slots-gt-MOST_SLOTS c =
    let a = c.args in
    ap verdict_of (sym (judge-many (layout a.version a.slots) a.b.now (omega arith)))

pub returns-then-b-first : goal.returns-then-b-first
returns-then-b-first c =
    let a = c.args in
    ap verdict_of (sym (judge-short (layout a.version a.slots) a.b.now (omega arith)))

pub returns-then-b-gt-LONGEST : goal.returns-then-b-gt-LONGEST
returns-then-b-gt-LONGEST c =
    let a = c.args in
    ap verdict_of (sym (judge-long (layout a.version a.slots) a.b.now (omega arith) (omega arith)))

pub returns-then-b-version : goal.returns-then-b-version
returns-then-b-version c =
    let a = c.args in
    ap verdict_of (sym (judge-version (layout a.version a.slots) a.b.now (omega arith) (omega arith) c.if-b-version.true))

pub returns-then-e-first : goal.returns-then-e-first
returns-then-e-first c =
    let a = c.args in
    ap verdict_of (sym (judge-low (layout a.version a.slots) a.b.now (omega arith) (omega arith) (omega arith) (omega arith)))

pub returns-then-b-e : goal.returns-then-b-e
returns-then-b-e c =
    let a = c.args in
    ap verdict_of (sym (judge-high (layout a.version a.slots) a.b.now (omega arith) (omega arith) (omega arith) (omega arith) (omega arith)))

pub returns-then-present-c : goal.returns-then-present-c
returns-then-present-c c =
    let a = c.args in
    ap verdict_of (sym (judge-count (layout a.version a.slots) a.b.now (omega arith) (omega arith) (omega arith) (omega arith) (omega arith)
    (λ x. c.if-present-c.true (c.present.ensures ∙ x))))

pub returns : goal.returns
returns c =
    let a = c.args in
    let b = a.b.now in
    c.tiles.ensures
    ∙ ap (λ (e : ℕ). verdict_of (frames_from a.slots (get_or b 1 0) b (start a.slots) e)) c.word-e.ensures.0
    ∙ ap verdict_of (sym (judge-all (layout a.version a.slots) b (omega arith) (omega arith) (omega arith) (omega arith) (omega arith) (omega arith) (ap (λ (x : ℕ). all_zero (drop x a.b.now)) (sym c.word-e.ensures.0) ∙ sym c.tail_zero.ensures ∙ c.if-not-tail_zero.false)))

pub returns-then-not-tail_zero : goal.returns-then-not-tail_zero
returns-then-not-tail_zero c =
    let a = c.args in
    ap verdict_of (sym (judge-tail (layout a.version a.slots) a.b.now (omega arith) (omega arith) (omega arith) (omega arith) (omega arith)
    (omega arith) (ap (λ (x : ℕ). all_zero (drop x a.b.now)) (sym c.word-e.ensures.0) ∙ sym c.tail_zero.ensures ∙ c.if-not-tail_zero.true)))
