use mathlib.Core.Path.{◌≡◌, sym, ap, ◌∙◌}
use mathlib.Core.Bool.{true}
use Prim.Native.Nat.{ℕ, ◌+◌}
use native.Mathlib.Omega.{arith}
use lib.ListN.{get_or, length}
use Rattle.std.proofs.Common.{rules}
use Rattle.std.specs.Prelude.{Option, Some, None, Ok, Err, ok_or}
use Rattle.refusal.specs.declared.Refusal.TheVariants.{NoWidth}
use Rattle.width_rule.specs.Rule.{is_right}
use Rattle.bank_widths.specs.Keys.{choice_for}
use Rattle.bank_widths.proofs.Banks.{choice-none, choice-right, choice-served, judge-end, judge-other, judge-pass, judge-unserved, right-itself, right-other}
use Rattle.bank_widths.proofs.judge.Goals as goal

pub returns-in_err-right : goal.returns-in_err-right
returns-in_err-right c =
    let l = c.loop-i in
    let a = c.args in
    let x = c.in_err-right in
    let told : c.from_residual.result ≡ Err x.field-0.0 = search rules in
    let none : choice_for (get_or a.needs.now l.i 0) ≡ None = sym c.choice_for.ensures ∙ x.ensures.ok_part in
    let why : Err x.field-0.0 ≡ Err (NoWidth (l.i + 1)) = x.ensures.value ∙ ap (λ (o : Option ℕ). ok_or o (NoWidth (l.i + 1))) x.ensures.ok_part in
    told ∙ why ∙ sym (l.invariant ∙ judge-unserved a.needs.now a.codes.now l.i (omega arith) (omega arith) (choice-none _ none))

pub returns-then-codes-i : goal.returns-then-codes-i
returns-then-codes-i c =
    let l = c.loop-i in
    let a = c.args in
    let e : choice_for (get_or a.needs.now l.i 0) ≡ Some c.in_ok-right.right = sym c.choice_for.ensures ∙ c.in_ok-right.ensures.ok_part in
    let s = choice-served _ _ e in
    sym (l.invariant ∙ judge-other a.needs.now a.codes.now l.i (omega arith) (omega arith) s (right-other _ s _ (λ q. c.if-codes-i.true (q ∙ choice-right _ _ e))))

pub loop-i-preserved : goal.loop-i-preserved
loop-i-preserved c =
    let l = c.loop-i in
    let a = c.args in
    let e : choice_for (get_or a.needs.now l.i 0) ≡ Some c.in_ok-right.right = sym c.choice_for.ensures ∙ c.in_ok-right.ensures.ok_part in
    let s = choice-served _ _ e in
    let same : is_right (get_or a.needs.now l.i 0) (get_or a.codes.now l.i 0) ≡ true = ap (is_right (get_or a.needs.now l.i 0)) (c.if-codes-i.false ∙ sym (choice-right _ _ e)) ∙ right-itself _ s in
    l.invariant ∙ judge-pass a.needs.now a.codes.now l.i (omega arith) (omega arith) s same

pub returns : goal.returns
returns c =
    let l = c.loop-i in
    let a = c.args in
    let n : length a.needs.now ≡ l.i = omega arith in
    sym (l.invariant ∙ judge-end _ _ _ c.loop-i-test.false ∙ ap Ok (sym n))
