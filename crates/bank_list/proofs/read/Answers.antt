-- `read` meets its contract: a line more keeps the invariant, with its newline and without.
-- Assumes nothing.
use mathlib.Core.Path.{◌≡◌, ap, sym, ◌∙◌}
use mathlib.Core.List.{List}
use Prim.Native.Nat.{ℕ, ◌+◌, ◌-◌, ◌≤◌}
use native.Mathlib.Omega.{arith}
use lib.ListN.{drop, length, length-drop, take}
use lib.Seq.{length-take-le}
use Rattle.std.proofs.Common.{rules}
use Rattle.std.specs.Prelude.{Err, Option, Result}
use Rattle.std.specs.List.{prefix_len}
use Rattle.bank_list.specs.declared.Fault.{Fault}
use Rattle.bank_list.specs.declared.Bank.{Bank}
use Rattle.bank_list.specs.Lines.{body_of, is_inside, leading_of, line_of}
use Rattle.bank_list.proofs.Scans.{leading_count, leading_le}
use Rattle.bank_list.proofs.Said.{tail}
use Rattle.bank_list.proofs.Turns.{going_end, going-last, going-newline, going_start, going-wrong}
use Rattle.bank_list.proofs.read.Goals as goal

-- what is left of the text, and the n bytes of the line there
abbrev rest : List ℕ → ℕ → List ℕ
rest text at = take (length text - at) (drop at text)

module _ (text : List ℕ) (at n : ℕ) where
  -- the line's length in the text's own terms
  long : n ≡ leading_of is_inside (rest text at) → n ≡ leading_of is_inside (drop at text)
  long e = e ∙ ap (leading_of is_inside) (tail at text)

  within : at ≤ length text → n ≡ leading_of is_inside (rest text at) → at + n ≤ length text
  within h e = omega (arith, long e, leading_le is_inside (drop at text), length-drop at text)

  lengthened : n ≡ prefix_len is_inside (rest text at) → n ≡ leading_of is_inside (rest text at)
  lengthened e = e ∙ leading_count is_inside (rest text at)

  -- what the line says
  says : (said : Result (Option Bank) Fault) → said ≡ line_of (body_of (take n (rest text at))) → said ≡ line_of (body_of (take n (drop at text)))
  says said e = e ∙ ap (λ (s : List ℕ). line_of (body_of s)) (ap (take n) (tail at text))

pub loop-at-init : goal.loop-at-init
loop-at-init c = going_start _ _ c.empty-l.ensures

pub slice_bounds-line_said-end : goal.slice_bounds-line_said-end
slice_bounds-line_said-end c =
    let r = rest c.args.text.now c.loop-at.at in
    let h : c.line_length-n.result ≤ length r = omega (arith, c.line_length-n.ensures ∙ leading_count is_inside r, leading_le is_inside r) in
    omega (arith, h, length-take-le c.line_length-n.result r h)

pub overflow_add-at : goal.overflow_add-at
overflow_add-at c = omega (arith, within c.args.text.now _ _ c.loop-at.invariant.inside (c.line_length-n.ensures ∙ leading_count is_inside (rest c.args.text.now c.loop-at.at)))

pub returns-in_err-l : goal.returns-in_err-l
returns-in_err-l c =
    let text = c.args.text.now in
    let x = c.in_err-l in
    let told : c.from_residual.result ≡ Err x.field-0.0 = search rules in
    told
    ∙ going-wrong text _ _ _ c.loop-at.invariant _ (long text _ _ (lengthened text _ _ c.line_length-n.ensures)) c.loop-at-test.true _ _
    (says text c.loop-at.at c.line_length-n.result _ c.line_said.ensures) c.after_line.ensures _ (sym x.was)

pub loop-at-preserved-then-at-text : goal.loop-at-preserved-then-at-text
loop-at-preserved-then-at-text c =
    let text = c.args.text.now in
    going-newline text _ _ _ c.loop-at.invariant _ (long text _ _ (lengthened text _ _ c.line_length-n.ensures)) c.loop-at-test.true _ _
    (says text c.loop-at.at c.line_length-n.result _ c.line_said.ensures) c.after_line.ensures _ (sym c.in_ok-l.was) c.if-at-text.true

pub loop-at-preserved : goal.loop-at-preserved
loop-at-preserved c =
    let text = c.args.text.now in
    let n = lengthened text _ _ c.line_length-n.ensures in
    going-last text _ _ _ c.loop-at.invariant _ (long text _ _ n) c.loop-at-test.true _ _
    (says text c.loop-at.at c.line_length-n.result _ c.line_said.ensures) c.after_line.ensures _ (sym c.in_ok-l.was) c.if-at-text.false
    (within text _ _ c.loop-at.invariant.inside n)

pub returns : goal.returns
returns c = going_end _ _ _ _ c.loop-at.invariant c.loop-at-test.false
