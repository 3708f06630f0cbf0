-- What the last arm of a match over a, a + 1, a + 2 and on knows. Assumes nothing.
use mathlib.Core.Path.{◌≡◌}
use Prim.Native.Nat.{ℕ, zero, suc, ◌+◌, ◌≤◌}
use native.Mathlib.Omega.{arith}

-- i is none of the n numbers from a on, as such an arm has it
abbrev pub Past : ℕ → ℕ → ℕ → Type 0
Past a zero i = Unit
Past a (suc n) i = Past a n i × (i ≡ a + n → ⊥)

pub past : (a n i : ℕ) → a ≤ i → Past a n i → a + n ≤ i
past a zero i h p = omega arith
past a (suc n) i h p = let l : a + n ≤ i = past a n i h p.0 in let d : i ≡ a + n → ⊥ = p.1 in omega arith
