-- The reel: how frames make one, what a reel is made of, and what a step at a place finds (REFERENCE, "Reel").
-- Assumes nothing.
use Rattle.std.specs.Prelude.{ℕ, zero, suc, ◌+◌, ◌-◌, cond, List, [], ◌∷◌, ◌++◌, ltb, eqb, leb, length, get_or, take, drop, Option, None, Some, Result, Ok, Err}
use Rattle.refusal.specs.declared.Refusal.{Refusal}
use Rattle.refusal.specs.declared.Refusal.TheVariants.{ReelCut}
use Rattle.reel.specs.declared.Framed.{Framed}

-- ---- from frames to a reel and back

-- Frames one after the other, each with a byte before it that says how long it is.
unfoldable pub reel_of : List (List ℕ) → List ℕ
reel_of [] = []
reel_of (f ∷ fs) = length f ∷ f ++ reel_of fs

-- What a reel is made of: its whole frames, and what is left behind them. In a reel that is not cut nothing is left.
pub record Unreeled : Type 0 where
  pub frames : List (List ℕ)
  pub rest : List ℕ

-- one frame more in front
abbrev pub preceded : List ℕ → Unreeled → Unreeled
preceded f u = record { frames = f ∷ u.frames; rest = u.rest }

-- the first n frames at the most: each as many bytes as the byte before it says
unfoldable pub unreel_by : ℕ → List ℕ → Unreeled
unreel_by zero s = record { frames = []; rest = s }
unreel_by (suc n) [] = record { frames = []; rest = [] }
unreel_by (suc n) (b ∷ s) = cond (leb b (length s)) (preceded (take b s) (unreel_by n (drop b s))) (record { frames = []; rest = b ∷ s })

-- every frame takes a byte at least, so no reel has more frames than bytes
unfoldable pub unreel : List ℕ → Unreeled
unreel s = unreel_by (length s) s

-- ---- a step

-- what a step finds: a frame, nothing at the end, or why there is no frame
abbrev pub Step : Type 0
Step = Result (Option Framed) Refusal

-- the frame of b bytes behind a length byte
abbrev pub frame_at : ℕ → ℕ → Step
frame_at at b = Ok (Some (record { start = at + 1; end = at + 1 + b; next = record { at = at + 1 + b } }))

-- A step takes a place and hands the next one back. Where the place is the length the reel has ended; where it is past that, or the bytes left
-- are fewer than the length byte says, the step is refused (REFERENCE, "Refusals").
unfoldable pub step_at : List ℕ → ℕ → Step
step_at reel at =
    cond (ltb (length reel) at) (Err ReelCut)
    (cond (eqb (length reel) at) (Ok None)
    (cond (leb (get_or reel at 0) (length reel - (at + 1))) (frame_at at (get_or reel at 0))
    (Err ReelCut)))

-- ---- stepping on and on

-- What steps find from a place on: the frames, and the step that ended them.
pub record Walked : Type 0 where
  pub found : List (List ℕ)
  pub last : Step

abbrev pub met : List ℕ → Walked → Walked
met f w = record { found = f ∷ w.found; last = w.last }

-- a step, and behind a frame what is found from the next place on
abbrev pub onward : List ℕ → (ℕ → Walked) → Step → Walked
onward reel walkOn (Ok (Some f)) = met (take (f.end - f.start) (drop f.start reel)) (walkOn f.next.at)
onward reel walkOn (Ok None) = record { found = []; last = Ok None }
onward reel walkOn (Err why) = record { found = []; last = Err why }

-- what n steps find, and one more
unfoldable pub walk : ℕ → List ℕ → ℕ → Walked
walk zero reel at = record { found = []; last = step_at reel at }
walk (suc n) reel at = onward reel (λ p. walk n reel p) (step_at reel at)

-- the step behind the frames: the end, where nothing is left, and else refusal 14
abbrev pub last_of : List ℕ → Step
last_of [] = Ok None
last_of (b ∷ s) = Err ReelCut
