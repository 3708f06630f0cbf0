-- A dump that is refused leaves its output as it was (REFERENCE, "Refusals").
-- Assumes nothing.
use mathlib.Core.Path.{◌≡◌, refl}
use mathlib.Core.Bool.{Bool, true, false, cond}
use mathlib.Core.List.{List, ◌++◌}
use Prim.Native.Nat.{ℕ}
use native.Mathlib.Omega.{arith}
use lib.Dec.{leb}
use lib.ListN.{length, drop}
use Rattle.std.specs.Prelude.{Result, Ok, Err}
use Rattle.refusal.specs.declared.Refusal.{Refusal}
use Rattle.refusal.specs.declared.Refusal.TheVariants.{OutputShort}
use Rattle.dump_text.specs.Whole.{dumped, filled}

pub refused-keeps : (text out : List ℕ) (x : Refusal) → dumped text out ≡ Err x → filled text out ≡ out
refused-keeps text out x = by (leb (length text) (length out))
  where
    by : (t : Bool) → cond {A = Result ℕ Refusal} t (Ok (length text)) (Err OutputShort) ≡ Err x → cond t (text ++ drop (length text) out) out ≡ out
    by true q = absurd (let w : ◌≡◌ {A = ℕ} 0 1 = cc in omega arith)
    by false q = refl
