-- `put_turn` meets its contract, by what the step does.
-- Assumes nothing.
use mathlib.Core.Path.{ap, ◌∙◌, ◌≡◌}
use borrow.Author.Tests.{eq-eqb, ne_eqb}
use Rattle.std.specs.Prelude.{None, Ok, Option, Some}
use Rattle.texts.proofs.Writing.{puts-as, puts_none, puts_then}
use Rattle.controller.specs.declared.Sending.{Sending}
use Rattle.controller.specs.Controller.{Turn}
use Rattle.control_text.specs.Text.{turn_words}
use Rattle.control_text.proofs.Forms.{none-form, read-form, sent-form}
use Rattle.control_text.proofs.put_turn.Goals as goal

-- what a turn is, by what its `Ok` holds
held : (t : Turn) (o x : Option Sending) → t ≡ Ok o → o ≡ x → t ≡ Ok x
held t o x e i = e ∙ ap (λ (y : Option Sending). Ok y) i

pub returns-then-sending-eq0 : goal.returns-then-sending-eq0
unfolding turn_words
returns-then-sending-eq0 c =
    let inner : c.in-Ok-Some.field-0 ≡ Some c.in-Ok-Some.sending = rw c.in-Ok-Some.is at c.in-Ok-Some.field-0-is in
    let is = held c.args.turn _ _ c.in-Ok-Some.is inner in
    puts-as _ (read-form _ (rw (is, eq-eqb _ _ c.if-sending-eq0.true))) c.put_text.ensures

pub returns-else-sending-eq0 : goal.returns-else-sending-eq0
unfolding turn_words
returns-else-sending-eq0 c =
    let inner : c.in-Ok-Some.field-0 ≡ Some c.in-Ok-Some.sending = rw c.in-Ok-Some.is at c.in-Ok-Some.field-0-is in
    let is = held c.args.turn _ _ c.in-Ok-Some.is inner in
    puts-as _ (sent-form _ c.in-Ok-Some.sending.len c.in-Ok-Some.sending.frame (rw (is, ne_eqb _ _ c.if-sending-eq0.false)))
    (puts_then c.put_text-to.ensures c.put_bytes.ensures)

pub returns-in-Ok-None : goal.returns-in-Ok-None
unfolding turn_words
returns-in-Ok-None c =
    let inner : c.in-Ok-None.field-0 ≡ None = rw c.in-Ok-None.is at c.in-Ok-None.field-0-is in
    puts-as _ (none-form _ (rw (held c.args.turn _ _ c.in-Ok-None.is inner))) (puts_none _ _)

pub returns-in-Err : goal.returns-in-Err
unfolding turn_words
returns-in-Err c = puts-as _ (none-form _ (rw c.in-Err.is)) (puts_none _ _)
