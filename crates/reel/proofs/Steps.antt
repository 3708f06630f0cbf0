-- The four outcomes of a step, each by the place's own tests: past the end, at the end, a whole frame, a cut one.
-- Assumes nothing.
use mathlib.Core.Path.{◌≡◌, sym, ap}
use mathlib.Core.List.{List}
use Prim.Native.Nat.{ℕ, ◌+◌, ◌-◌, ◌≤◌, ◌<◌}
use native.Mathlib.Omega.{arith}
use lib.ListN.{length, get_or}
use borrow.Author.Tests.{lt-ltb, le-ltb, eq-eqb, ne_eqb, le-leb, lt-leb}
use Rattle.refusal.specs.declared.Refusal.TheVariants.{ReelCut}
use Rattle.std.specs.Prelude.{None, Ok, Err}
use Rattle.reel.specs.Reel.{frame_at, step_at}

module _ (reel : List ℕ) (at : ℕ) where
  pub step_past : length reel < at → step_at reel at ≡ Err ReelCut
  unfolding step_at
  step_past h = simp (lt-ltb (length reel) at h)

  pub step_end : length reel ≡ at → step_at reel at ≡ Ok None
  unfolding step_at
  step_end e = simp (le-ltb (length reel) at (omega arith), eq-eqb (length reel) at e)

  module _ (inside : at < length reel) where
    differs : length reel ≡ at → ⊥
    differs e = omega arith

    pub step-frame : (b : ℕ) → b ≡ get_or reel at 0 → b ≤ length reel - (at + 1) → step_at reel at ≡ frame_at at b
    unfolding step_at
    step-frame b e h =
        simp (
          le-ltb (length reel) at (omega arith),
          ne_eqb (length reel) at differs,
          le-leb (get_or reel at 0) (length reel - (at + 1)) (omega arith),
        ) (ap (frame_at at) (sym e))

    pub step_cut : (b : ℕ) → b ≡ get_or reel at 0 → length reel - (at + 1) < b → step_at reel at ≡ Err ReelCut
    unfolding step_at
    step_cut b e h =
        simp (
          le-ltb (length reel) at (omega arith),
          ne_eqb (length reel) at differs,
          lt-leb (get_or reel at 0) (length reel - (at + 1)) (omega arith),
        )
