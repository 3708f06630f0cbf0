-- What a caller of `step` learns from its answer: of a frame, where it lies and that the reel from here on is that frame and the reel behind it;
-- at the end, that nothing is left; and of a refusal, that it is 14 and what is left holds no whole frame.
-- Assumes nothing.
use mathlib.Core.Path.{◌≡◌, refl, ap, ◌∙◌}
use mathlib.Core.Bool.{Bool, true, false, cond}
use mathlib.Core.List.{List, [], ◌∷◌}
use Prim.Native.Nat.{ℕ, ◌+◌, ◌-◌, ◌≤◌, ◌<◌}
use native.Mathlib.Omega.{arith}
use lib.Dec.{ltb, eqb, leb}
use lib.ListN.{length, get_or, take, drop}
use borrow.Author.Tests.{ltb-true, ltb-false, eqb-true, eqb-false, leb-true, leb-false}
use Rattle.refusal.specs.declared.Refusal.{Refusal}
use Rattle.refusal.specs.declared.Refusal.TheVariants.{ReelCut}
use Rattle.std.specs.Prelude.{None, Some, Ok, Err}
use Rattle.reel.specs.declared.Cursor.{Cursor}
use Rattle.reel.specs.declared.Framed.{Framed}
use Rattle.reel.specs.Reel.{preceded, unreel, Step, frame_at, step_at}
use Rattle.reel.proofs.Walks.{from_end, from-frame, from_cut}

-- what the cases of an answer would be, were two of them one
apart : ◌≡◌ {A = ℕ} 0 1 → ⊥
apart e = omega arith

pub record Whole (reel : List ℕ) (at start end : ℕ) (next : Cursor) : Type 0 where
  pub behind : start ≡ at + 1
  pub forward : start ≤ end
  pub inside : end ≤ length reel
  pub onward : next.at ≡ end
  pub made : unreel (drop at reel) ≡ preceded (take (end - start) (drop start reel)) (unreel (drop end reel))

pub record Ended (reel : List ℕ) (at : ℕ) : Type 0 where
  pub here : length reel ≡ at
  pub made : unreel (drop at reel) ≡ record { frames = []; rest = [] }

pub record Cut (reel : List ℕ) (at : ℕ) (why : Refusal) : Type 0 where
  pub cut : why ≡ ReelCut
  pub inside : at < length reel
  pub made : unreel (drop at reel) ≡ record { frames = []; rest = get_or reel at 0 ∷ drop (at + 1) reel }

module _ (reel : List ℕ) (at : ℕ) where
  abbrev b : ℕ
  b = get_or reel at 0

  -- the step as its three tests pick it
  abbrev picked : Bool → Bool → Bool → Step
  picked past end fits = cond past (Err ReelCut) (cond end (Ok None) (cond fits (frame_at at b) (Err ReelCut)))

  whole-at : at < length reel → b ≤ length reel - (at + 1) → Whole reel at (at + 1) (at + 1 + b) (record { at = at + 1 + b })
  whole-at h k =
      let long : b ≡ at + 1 + b - (at + 1) = omega arith in
      record {
        behind = refl;
        forward = omega arith;
        inside = omega arith;
        onward = refl;
        made = from-frame reel at h b refl k ∙ ap (λ (n : ℕ). preceded (take n (drop (at + 1) reel)) (unreel (drop (at + 1 + b) reel))) long;
      }

  pub step-whole : (f : Framed) → step_at reel at ≡ Ok (Some f) → Whole reel at f.start f.end f.next
  unfolding step_at
  step-whole f e =
      by (ltb (length reel) at) refl (eqb (length reel) at) refl (leb b (length reel - (at + 1))) refl e
    where
      by : (x : Bool) → ltb (length reel) at ≡ x → (y : Bool) → eqb (length reel) at ≡ y → (z : Bool) → leb b (length reel - (at + 1)) ≡ z
          → picked x y z ≡ Ok (Some f) → Whole reel at f.start f.end f.next
      by true p y q z r e = absurd (apart (cc))
      by false p true q z r e = absurd (apart (cc))
      by false p false q false r e = absurd (apart (cc))
      by false p false q true r e =
          let x : record { start = at + 1; end = at + 1 + b; next = record { at = at + 1 + b } } ≡ f = cc in
          rw (← x) (whole-at (omega (arith, ltb-false, eqb-false (length reel) at q)) (leb-true b (length reel - (at + 1)) r))

  pub step-ended : step_at reel at ≡ Ok None → Ended reel at
  unfolding step_at
  step-ended e = by (ltb (length reel) at) refl (eqb (length reel) at) refl (leb b (length reel - (at + 1))) refl e
    where
      by : (x : Bool) → ltb (length reel) at ≡ x → (y : Bool) → eqb (length reel) at ≡ y → (z : Bool) → leb b (length reel - (at + 1)) ≡ z
          → picked x y z ≡ Ok None → Ended reel at
      by true p y q z r e = absurd (apart (cc))
      by false p true q z r e =
          let here : length reel ≡ at = eqb-true (length reel) at q in record { here = here; made = from_end reel at here }
      by false p false q false r e = absurd (apart (cc))
      by false p false q true r e = absurd (apart (cc))

  pub step-refused : at ≤ length reel → (why : Refusal) → step_at reel at ≡ Err why → Cut reel at why
  unfolding step_at
  step-refused h why e = by (ltb (length reel) at) refl (eqb (length reel) at) refl (leb b (length reel - (at + 1))) refl e
    where
      by : (x : Bool) → ltb (length reel) at ≡ x → (y : Bool) → eqb (length reel) at ≡ y → (z : Bool) → leb b (length reel - (at + 1)) ≡ z
          → picked x y z ≡ Err why → Cut reel at why
      by true p y q z r e = absurd (let past : length reel < at = ltb-true (length reel) at p in omega arith)
      by false p true q z r e = absurd (apart (cc))
      by false p false q false r e =
          let inside : at < length reel = omega (arith, eqb-false (length reel) at q) in
          record { cut = cc; inside = inside; made = from_cut reel at inside (leb-false b (length reel - (at + 1)) r) }
      by false p false q true r e = absurd (apart (cc))

-- ---- what the check is told of a frame that a step finds

module _ (reel : List ℕ) (at : ℕ) (f : Framed) (e : step_at reel at ≡ Ok (Some f)) where
  pub found-forward : f.start ≤ f.end
  found-forward = (step-whole reel at f e).forward

  pub found-inside : f.end ≤ length reel
  found-inside = (step-whole reel at f e).inside

  pub found-onward : at < f.next.at
  found-onward = let w = step-whole reel at f e in omega (arith, w.behind, w.forward, w.onward)

  pub found-next : f.next.at ≡ f.end
  found-next = (step-whole reel at f e).onward

pub ruleset found_steps = (found-forward, found-inside, found-onward, found-next)
