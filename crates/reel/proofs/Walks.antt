-- Stepping finds the frames that make a reel up, and nothing else: `walk-unreel` from any place in the reel, `walk-whole` from the start of
-- a whole reel, and `walk-cut` of a cut one, which is refused at the cut and not before.
-- Assumes nothing.
use mathlib.Core.Path.{◌≡◌, refl, sym, ap, ◌∙◌}
use mathlib.Core.Bool.{Bool, true, false}
use mathlib.Core.List.{List, [], ◌∷◌, ◌++◌}
use Prim.Native.Nat.{ℕ, zero, suc, ◌+◌, ◌-◌, ◌≤◌, ◌<◌}
use native.Mathlib.Omega.{arith}
use native.Mathlib.Numerals.{add-one}
use lib.Dec.{leb, ltb}
use lib.ListN.{length, get_or, take, drop, length-drop, drop_of_length-le}
use lib.Seq.{drop-cons, drop-drop}
use borrow.Author.Tests.{leb-true, leb-false, ltb-true, ltb-false}
use Rattle.std.specs.Prelude.{None, Ok}
use Rattle.reel.specs.Reel.{reel_of, Unreeled, preceded, unreel, Step, step_at, Walked, met, onward, walk, last_of}
use Rattle.reel.proofs.Steps.{step_end, step-frame, step_cut}
use Rattle.reel.proofs.Reels.{unreel-nil, unreel-frame, unreel-cut, reel-whole, reel-cut}

-- what stepping finds of a reel that is made of u
abbrev pub walked : Unreeled → Walked
walked u = record { found = u.frames; last = last_of u.rest }

-- what lies from a place on, by its length byte
module _ (reel : List ℕ) (at : ℕ) where
  pub from_end : length reel ≡ at → unreel (drop at reel) ≡ record { frames = []; rest = [] }
  from_end e = rw (drop_of_length-le reel {i = at} (omega arith)) unreel-nil

  module _ (inside : at < length reel) where
    pub from-here : drop at reel ≡ get_or reel at 0 ∷ drop (at + 1) reel
    from-here = rw (add-one, drop-cons reel at 0) refl

    left : length (drop (at + 1) reel) ≡ length reel - (at + 1)
    left = length-drop (at + 1) reel

    pub from-frame : (b : ℕ) → b ≡ get_or reel at 0 → b ≤ length reel - (at + 1)
        → unreel (drop at reel) ≡ preceded (take b (drop (at + 1) reel)) (unreel (drop (at + 1 + b) reel))
    from-frame b e h =
        ap unreel (from-here ∙ ap (λ (x : ℕ). x ∷ drop (at + 1) reel) (sym e))
        ∙ unreel-frame b (drop (at + 1) reel) (rw left h)
        ∙ ap (λ (s : List ℕ). preceded (take b (drop (at + 1) reel)) (unreel s)) (drop-drop b (at + 1) reel)

    pub from_cut : length reel - (at + 1) < get_or reel at 0 → unreel (drop at reel) ≡ record { frames = []; rest = get_or reel at 0 ∷ drop (at + 1) reel }
    from_cut h = ap unreel from-here ∙ unreel-cut (get_or reel at 0) (drop (at + 1) reel) (rw left h)

-- a step, where the steps behind it find what they should
module _ (reel : List ℕ) (at : ℕ) (go : ℕ → Walked) where
  turn_end : length reel ≡ at → onward reel go (step_at reel at) ≡ walked (unreel (drop at reel))
  turn_end e = rw (step_end reel at e, from_end reel at e) refl

  module _ (inside : at < length reel) (b : ℕ) (e : b ≡ get_or reel at 0) where
    turn-cut : length reel - (at + 1) < b → onward reel go (step_at reel at) ≡ walked (unreel (drop at reel))
    turn-cut h = rw (step_cut reel at inside b e h, from_cut reel at inside (omega arith)) refl

    turn-frame : b ≤ length reel - (at + 1) → go (at + 1 + b) ≡ walked (unreel (drop (at + 1 + b) reel))
        → onward reel go (step_at reel at) ≡ walked (unreel (drop at reel))
    turn-frame h next =
        let long : at + 1 + b - (at + 1) ≡ b = omega arith in
        rw (step-frame reel at inside b e h, from-frame reel at inside b e h, next)
        (ap (λ (n : ℕ). met (take n (drop (at + 1) reel)) (walked (unreel (drop (at + 1 + b) reel)))) long)

pub walk-unreel : (n : ℕ) (reel : List ℕ) (at : ℕ) → at ≤ length reel → length reel - at ≤ n → walk n reel at ≡ walked (unreel (drop at reel))
unfolding walk
walk-unreel zero reel at h k = rw (from_end reel at (omega arith)) (ap (λ (x : Step). record { found = []; last = x }) (step_end reel at (omega arith)))
walk-unreel (suc n) reel at h k =
    by (ltb at (length reel)) refl (leb (get_or reel at 0) (length reel - (at + 1))) refl (λ p. walk-unreel n reel p)
  where
    by : (t : Bool) → ltb at (length reel) ≡ t → (u : Bool) → leb (get_or reel at 0) (length reel - (at + 1)) ≡ u
        → ((p : ℕ) → p ≤ length reel → length reel - p ≤ n → walk n reel p ≡ walked (unreel (drop p reel)))
        → onward reel (λ p. walk n reel p) (step_at reel at) ≡ walked (unreel (drop at reel))
    by false e u f ih = let past : length reel ≤ at = ltb-false at (length reel) e in turn_end reel at (λ p. walk n reel p) (omega arith)
    by true e false f ih =
        turn-cut reel at (λ p. walk n reel p) (ltb-true at (length reel) e) (get_or reel at 0) refl (leb-false (get_or reel at 0) (length reel - (at + 1)) f)
    by true e true f ih =
        let inside : at < length reel = ltb-true at (length reel) e in
        let fits : get_or reel at 0 ≤ length reel - (at + 1) = leb-true (get_or reel at 0) (length reel - (at + 1)) f in
        turn-frame reel at (λ p. walk n reel p) inside (get_or reel at 0) refl fits (ih (at + 1 + get_or reel at 0) (omega arith) (omega arith))

-- from the start
pub walk-whole : (fs : List (List ℕ)) → walk (length (reel_of fs)) (reel_of fs) 0 ≡ record { found = fs; last = Ok None }
walk-whole fs = walk-unreel (length (reel_of fs)) (reel_of fs) 0 (omega arith) (omega arith) ∙ ap walked (reel-whole fs)

pub walk-cut : (fs : List (List ℕ)) (b : ℕ) (s : List ℕ) → length s < b
    → walk (length (reel_of fs ++ (b ∷ s))) (reel_of fs ++ (b ∷ s)) 0 ≡ record { found = fs; last = last_of (b ∷ s) }
walk-cut fs b s h =
    walk-unreel (length (reel_of fs ++ (b ∷ s))) (reel_of fs ++ (b ∷ s)) 0 (omega arith) (omega arith) ∙ ap walked (reel-cut fs b s h)
