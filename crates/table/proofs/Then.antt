-- One field more, and what it was given: how the calls of a builder with many fields join to its frame. Assumes nothing.
use mathlib.Core.Path.{◌≡◌, ap₂}
use mathlib.Core.List.{List}
use Prim.Native.Nat.{ℕ}
use Rattle.frame.specs.declared.Field.{Field}
use Rattle.frame.specs.Layout.{put}

pub then : (f : Field) {a b : List ℕ} {v w : ℕ} → a ≡ b → v ≡ w → put a f v ≡ put b f w
then f p q = ap₂ (λ (l : List ℕ) (n : ℕ). put l f n) p q
