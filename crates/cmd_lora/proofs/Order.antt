-- The orders of the Rust's enums, as their `cmp` promises them: `Sf` by spreading factor, `LoraBw` by width in Hz.
-- Assumes nothing.
use native.Mathlib.Omega.{arith}
use mathlib.Core.Path.{◌≡◌, refl}
use Rattle.std.specs.Ordering.{nat_cmp}
use Rattle.cmd_lora.specs.declared.Sf.{Sf}
use Rattle.cmd_lora.specs.declared.LoraBw.{LoraBw}
use Rattle.cmd_lora.specs.Codes.{sf_code}
use Rattle.cmd_lora.specs.Methods.{hz_of}
use Rattle.cmd_lora.specs.contracts.SfOrd.TheImpl as sf
use Rattle.cmd_lora.specs.contracts.LoraBwOrd.TheImpl as lora_bw

pub sf-by-factor : (a b : Sf) → sf.cmp-value.it a b ≡ nat_cmp (sf_code a) (sf_code b)
sf-by-factor a b = grind arith

pub lora-bw-by-width : (a b : LoraBw) → lora_bw.cmp-value.it a b ≡ nat_cmp (hz_of a) (hz_of b)
lora-bw-by-width a b = refl
