-- `answer` meets its contract: each form, filled in, is its line, and there is room for all of it.
-- Assumes nothing.
use mathlib.Core.Path.{ap, ◌∙◌, ◌≡◌}
use Prim.Native.Nat.{ℕ}
use Rattle.std.specs.Prelude.{None, Ok, Option, Some}
use native.Mathlib.Omega.{arith}
use Rattle.texts.proofs.Writing.{puts-as, puts_then, puts_whole}
use Rattle.profile_text.specs.Text.{answer_text, longest}
use Rattle.profile_text.proofs.Longest.{answer-most}
use Rattle.profile_text.proofs.Words.{refused-form, rule-form, yes-form}
use Rattle.profile_text.proofs.answer.Goals as goal

pub returns-in-Ok-None : goal.returns-in-Ok-None
returns-in-Ok-None c =
    let inner : c.in-Ok-None.field-0 ≡ None = rw c.in-Ok-None.is at c.in-Ok-None.field-0-is in
    let text = ap answer_text (c.in-Ok-None.is ∙ ap (λ (o : Option ℕ). Ok o) inner) ∙ yes-form in
    let done = puts_whole longest (answer-most _) (omega arith) (puts-as _ text c.put_text.ensures) in
    record { value = done.0; out_after = done.1.0; upper_bound = done.1.1 }

pub returns-in-Ok-Some : goal.returns-in-Ok-Some
returns-in-Ok-Some c =
    let inner : c.in-Ok-Some.field-0 ≡ Some c.in-Ok-Some.rule = rw c.in-Ok-Some.is at c.in-Ok-Some.field-0-is in
    let text = ap answer_text (c.in-Ok-Some.is ∙ ap (λ (o : Option ℕ). Ok o) inner) ∙ rule-form _ in
    let written = puts_then c.put_form-a.ensures (puts_then c.put_rule_word-b.ensures c.put_byte.ensures) in
    let done = puts_whole longest (answer-most _) (omega arith) (puts-as _ text written) in
    record { value = done.0; out_after = done.1.0; upper_bound = done.1.1 }

pub returns-in-Err : goal.returns-in-Err
returns-in-Err c =
    let text = ap answer_text c.in-Err.is ∙ refused-form _ c.number.ensures in
    let done = puts_whole longest (answer-most _) (omega arith) (puts-as _ text c.put_form.ensures) in
    record { value = done.0; out_after = done.1.0; upper_bound = done.1.1 }
