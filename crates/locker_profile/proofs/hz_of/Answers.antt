use mathlib.Core.Path.{ap, sym, ◌∙◌}
use Prim.Native.Nat.{ℕ}
use Rattle.cmd_lora.specs.Methods.{over}
use Rattle.locker_profile.proofs.Paths.{width-125, width-250}
use Rattle.locker_profile.proofs.hz_of.Goals as goal

pub returns-then-lora-code : goal.returns-then-lora-code
returns-then-lora-code c =
    ap (λ (n : ℕ). over n 1) c.to_hz.ensures
    ∙ width-125 c.args.lora.lora_bw (c.if-lora-code.true ∙ c.code.ensures)

pub returns : goal.returns
returns c =
    let a = c.args in
    ap (λ (n : ℕ). over n 1) c.to_hz-2.ensures
    ∙ width-250 a.lora c.requires (λ z. c.if-lora-code.false (z ∙ sym c.code.ensures))
