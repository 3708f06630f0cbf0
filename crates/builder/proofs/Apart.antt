-- Different answers are not equal. Assumes nothing.
use mathlib.Core.Path.{◌≡◌}
use mathlib.Core.List.{List}
use Prim.Native.Nat.{ℕ}
use native.Mathlib.Omega.{arith}
use Rattle.refusal.specs.declared.Refusal.{Refusal}
use Rattle.std.specs.Prelude.{Option, Some, None}
use Rattle.builder.specs.Building.{makes, refuses}

pub at_none : {n : ℕ} → ◌≡◌ {A = Option ℕ} (Some n) None → ⊥
at_none e = let w : ◌≡◌ {A = ℕ} 0 1 = cc in omega arith

pub refuses-makes : {x : Refusal} {f : List ℕ} → refuses x ≡ makes f → ⊥
refuses-makes e = let w : ◌≡◌ {A = ℕ} 0 1 = cc in omega arith
