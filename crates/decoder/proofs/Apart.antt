-- Different answers are not equal. Assumes nothing.
use mathlib.Core.Path.{◌≡◌}
use mathlib.Core.List.{List}
use Prim.Native.Nat.{ℕ}
use native.Mathlib.Omega.{arith}
use Rattle.refusal.specs.declared.Refusal.{Refusal}
use Rattle.std.specs.Prelude.{Result, Ok, Err}
use Rattle.decoder.specs.Decoding.{reading, refuses}

pub refuses-reading : {x : Refusal} {k : ℕ} {vs : List ℕ} → refuses x ≡ reading k vs → ⊥
refuses-reading e = let w : ◌≡◌ {A = ℕ} 0 1 = cc in omega arith

pub err-ok : {A : Type 0} {x : Refusal} {a : A} → ◌≡◌ {A = Result A Refusal} (Err x) (Ok a) → ⊥
err-ok e = let w : ◌≡◌ {A = ℕ} 0 1 = cc in omega arith
