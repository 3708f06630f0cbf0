use mathlib.Core.Path.{◌≡◌, sym, ap, ◌∙◌}
use Prim.Native.Nat.{ℕ, ◌+◌}
use native.Mathlib.Omega.{arith}
use lib.ListN.{get_or, length, take}
use lib.Seq.{take_all}
use Rattle.std.proofs.Common.{rules}
use Rattle.std.specs.Prelude.{Option, Some, None, Ok, Err, ok_or}
use Rattle.refusal.specs.declared.Refusal.TheVariants.{NoWidth}
use Rattle.bank_widths.specs.Lists.{right_codes}
use Rattle.bank_widths.specs.Keys.{choice_for}
use Rattle.bank_widths.proofs.Banks.{choice-none, choice-right, choice-served, codes-length, codes-next, found-pass, found-stop, judge-end}
use Rattle.bank_widths.proofs.put_codes.Goals as goal

pub returns-in_err-codes-clause-value : goal.returns-in_err-codes-clause-value
returns-in_err-codes-clause-value c =
    let l = c.loop-i in
    let ns = c.args.needs.now in
    let x = c.in_err-codes in
    let told : c.from_residual.result ≡ Err x.field-0.0 = search rules in
    let none : choice_for (get_or ns l.i 0) ≡ None = sym c.choice_for.ensures ∙ x.ensures.ok_part in
    let why : Err x.field-0.0 ≡ Err (NoWidth (l.i + 1)) = x.ensures.value ∙ ap (λ (o : Option ℕ). ok_or o (NoWidth (l.i + 1))) x.ensures.ok_part in
    told ∙ why ∙ sym (l.invariant.1 ∙ found-stop ns l.i (omega arith) (choice-none _ none))

pub loop-i-preserved : goal.loop-i-preserved
loop-i-preserved c =
    let l = c.loop-i in
    let ns = c.args.needs.now in
    let e : choice_for (get_or ns l.i 0) ≡ Some c.in_ok-codes.field-0 = sym c.choice_for.ensures ∙ c.in_ok-codes.ensures.ok_part in
    (codes-next ns l.codes l.i _ (omega arith) (omega arith) (choice-right _ _ e) l.invariant.0, l.invariant.1 ∙ found-pass ns l.i (omega arith) (choice-served _ _ e))

pub returns-clause-value : goal.returns-clause-value
returns-clause-value c =
    let l = c.loop-i in
    let ns = c.args.needs.now in
    let n : length ns ≡ l.i = omega arith in
    sym (l.invariant.1 ∙ judge-end ns _ _ c.loop-i-test.false ∙ ap Ok (sym n))

pub returns-clause-needs_after : goal.returns-clause-needs_after
returns-clause-needs_after c =
    let l = c.loop-i in
    let ns = c.args.needs.now in
    let n : length ns ≡ l.i = omega arith in
    ap (λ (k : ℕ). take k l.codes) n ∙ l.invariant.0 ∙ take_all l.i (right_codes ns) (omega (arith, codes-length ns))
