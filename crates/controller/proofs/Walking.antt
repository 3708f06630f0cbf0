-- The walk of `look_ahead` over a reel: the invariant of its loop (`Seeking`), what each way out of it finds, and what its callers learn (`lies-..`).
-- Assumes nothing.
use mathlib.Core.Path.{ap, refl, subst, sym, ◌∙◌, ◌≡◌}
use mathlib.Core.Bool.{Bool, cond, false, true}
use mathlib.Core.List.{List, [], ◌∷◌}
use Prim.Native.Nat.{suc, zero, ℕ, ◌+◌, ◌-◌, ◌<◌, ◌≤◌}
use native.Mathlib.Omega.{arith}
use borrow.Author.Tests.{ltb-false, ltb-true}
use lib.Dec.{ltb}
use lib.ListN.{drop, get_or, length, take}
use Rattle.std.specs.Prelude.{Some, Ok}
use Rattle.reel.specs.declared.Cursor.{Cursor}
use Rattle.reel.specs.declared.Framed.{Framed}
use Rattle.reel.specs.Reel.{Unreeled, Step, step_at, unreel}
use Rattle.reel.proofs.Found.{Cut, Ended, Whole, step-whole}
use Rattle.controller.specs.declared.Ahead.{Ahead}
use Rattle.controller.specs.declared.Ahead.TheVariants as ahead
use Rattle.controller.specs.Controller.{Lies, LiesAt, behind_of, is_over}
use Rattle.controller.proofs.Steps.{over_none, over-past}

-- the frames from a place on
abbrev frames_at : List ℕ → ℕ → List (List ℕ)
frames_at reel at = (unreel (drop at reel)).frames

-- at a place, so many of those sent being left to pass
pub record Seeking (reel : List ℕ) (sent at left : ℕ) : Type 0 where
  pub inside : at ≤ length reel
  pub some : left ≤ sent
  pub passed : sent ≤ at + left
  pub count : length (unreel reel).frames + left ≡ sent + length (frames_at reel at)
  pub same : get_or (unreel reel).frames sent [] ≡ get_or (frames_at reel at) left []

pub seeking-start : (reel : List ℕ) (sent : ℕ) → Seeking reel sent 0 sent
seeking-start reel sent = record { inside = omega arith; some = omega arith; passed = omega arith; count = omega arith; same = refl }

-- what stands behind the first of a list
pub behind-one : (f : List ℕ) (fs : List (List ℕ)) (left : ℕ) → 0 < left → get_or (f ∷ fs) left [] ≡ get_or fs (left - 1) []
behind-one f fs zero h = absurd (omega arith)
behind-one f fs (suc n) h = ap (λ (k : ℕ). get_or fs k []) (omega arith)

module _ (reel : List ℕ) (sent at left : ℕ) (g : Seeking reel sent at left) where
  module _ (start end : ℕ) (next : Cursor) (w : Whole reel at start end next) where
    here : frames_at reel at ≡ take (end - start) (drop start reel) ∷ frames_at reel next.at
    here =
        ap (λ (u : Unreeled). u.frames) w.made
        ∙ ap (λ (k : ℕ). take (end - start) (drop start reel) ∷ frames_at reel k) (sym w.onward)

    found : get_or (unreel reel).frames sent [] ≡ get_or (take (end - start) (drop start reel) ∷ frames_at reel next.at) left []
    found = g.same ∙ ap (λ (fs : List (List ℕ)). get_or fs left []) here

    pub seeking-frame : 0 < left → Seeking reel sent next.at (left - 1)
    seeking-frame h =
        record {
          inside = omega (arith, w.onward, w.inside);
          some = omega (arith, g.some);
          passed = omega (arith, g.passed, w.behind, w.forward, w.onward);
          count = omega (arith, g.count, ap length here);
          same = found ∙ behind-one (take (end - start) (drop start reel)) (frames_at reel next.at) left h;
        }

    pub frame_here : left ≡ 0 → Lies reel (unreel reel).frames sent (ahead.Frame start end)
    unfolding Lies
    frame_here z = (
      omega (arith, g.count, ap length here),
      omega (arith, g.passed, w.behind, w.forward, w.inside),
      record {
        forward = w.forward;
        inside = w.inside;
        bytes = sym (found ∙ ap (λ (k : ℕ). get_or (take (end - start) (drop start reel) ∷ frames_at reel next.at) k []) z);
      },
    )

  -- where no frame is left
  nothing_left : frames_at reel at ≡ [] → (a : Ahead) → a ≡ behind_of sent left → Lies reel (unreel reel).frames sent a
  unfolding Lies
  nothing_left e a h = subst (Lies reel (unreel reel).frames sent) (sym h) (by (ltb 0 left) refl (ltb 0 sent) refl)
    where
      many : length (unreel reel).frames + left ≡ sent
      many = omega (arith, g.count, ap length e)

      by : (x : Bool) → ltb 0 left ≡ x → (y : Bool) → ltb 0 sent ≡ y
          → Lies reel (unreel reel).frames sent (cond x ahead.Nothing (cond y ahead.Read ahead.Nothing))
      by true p y q =
          over-past (length (unreel reel).frames) sent (omega (arith, many, ltb-true 0 left p))
      by false p true q = (ltb-true 0 sent q, omega (arith, many, ltb-false 0 left p))
      by false p false q =
          over_none (length (unreel reel).frames) sent (omega (arith, many, ltb-false 0 left p, ltb-false 0 sent q))

  pub left_ended : Ended reel at → (a : Ahead) → a ≡ behind_of sent left → Lies reel (unreel reel).frames sent a
  left_ended e = nothing_left (ap (λ (u : Unreeled). u.frames) e.made)

  pub left_cut : (why : _) → Cut reel at why → (a : Ahead) → a ≡ behind_of sent left → Lies reel (unreel reel).frames sent a
  left_cut why k = nothing_left (ap (λ (u : Unreeled). u.frames) k.made)

-- ---- what a caller learns

module _ (reel : List ℕ) (fs : List (List ℕ)) (sent : ℕ) (a : Ahead) (l : Lies reel fs sent a) where
  pub lies-frame : (start end : ℕ) → a ≡ ahead.Frame start end → (sent < length fs) × (sent < length reel) × LiesAt reel (get_or fs sent []) start end
  unfolding Lies
  lies-frame start end e = subst (Lies reel fs sent) e l

  pub lies-read : a ≡ ahead.Read → (0 < sent) × (sent ≡ length fs)
  unfolding Lies
  lies-read e = subst (Lies reel fs sent) e l

  pub lies-nothing : a ≡ ahead.Nothing → is_over (length fs) sent ≡ true
  unfolding Lies
  lies-nothing e = subst (Lies reel fs sent) e l

-- the frame that is told where none of those sent is left
pub frame_told : (reel : List ℕ) (sent : ℕ) (f : Framed) {at left : ℕ} {told : Step} → Seeking reel sent at left → told ≡ step_at reel at
    → told ≡ Ok (Some f) → left ≡ 0 → Lies reel (unreel reel).frames sent (ahead.Frame f.start f.end)
frame_told reel sent f {at} {left} {told} g e is z =
    frame_here reel sent at left g f.start f.end f.next (step-whole reel at f (sym e ∙ is)) z

-- what the check tries at the goals of `look_ahead`
pub ruleset ahead_steps = (frame_told)
