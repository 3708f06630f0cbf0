use mathlib.Core.Path.{sym, ◌∙◌}
use borrow.Author.Tests.{eq-eqb, ne_eqb}
use Rattle.locker_profile.specs.Rules.{width}
use Rattle.locker_profile.proofs.breaks_width.Goals as goal

pub returns-then-lora-code : goal.returns-then-lora-code
unfolding width
returns-then-lora-code c =
    rw (c.code-then-lora-code.ensures, ne_eqb c.args.lora.lora_bw 4 (λ z. c.if-lora-code.true (z ∙ sym c.code.ensures)))

pub returns-else-lora-code : goal.returns-else-lora-code
unfolding width
returns-else-lora-code c = rw (c.code.ensures, eq-eqb c.args.lora.lora_bw 4 (c.if-lora-code.false ∙ c.code.ensures))
