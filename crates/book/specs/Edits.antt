-- What the code's edits make of a buffer, byte by byte. That they give the image of the list after a call is proved in proofs/.
-- Assumes nothing.
use Rattle.std.specs.Prelude.{ℕ, zero, suc, ◌+◌, ◌-◌, ◌*◌, ◌<◌, ◌≤◌, ◌≡◌, cond, List, eqb, ltb, length, take, drop, get_or, set, replicate}
use Rattle.std.proofs.Math.Seq.{paste}
use Rattle.spans.specs.Spans.{set_word}
use Rattle.contents.specs.Contents.{frames_from, holds, length_at, longest, offset_at}

-- an offset, once the old bytes at `at` are new ones: behind them it moves with what stands there, and that of their own slot is gone
unfoldable pub shifted_at : ℕ → ℕ → ℕ → ℕ → ℕ
shifted_at at old new o = cond (ltb at o) (o - old + new) (cond (eqb o at) 0 o)

-- no offset of m slots is past what a buffer can have
pub record Low (m : ℕ) (b : List ℕ) : Type 0 where
  pub low : (s : ℕ) → s < m → offset_at b s ≤ longest

-- the n offsets from slot s on, each as φ has it
unfoldable pub remap : (ℕ → ℕ) → ℕ → List ℕ → ℕ → List ℕ
remap φ zero b s = b
remap φ (suc n) b s = remap φ n (set_word b (4 + 2 * s) (φ (offset_at b s))) (s + 1)

-- what stands behind the old bytes at `at`, up to e, moved to behind the new ones, and zeros where it leaves bytes
unfoldable pub moved : List ℕ → ℕ → ℕ → ℕ → ℕ → List ℕ
moved b at old new e =
    paste (paste b (at + new) (drop (at + old) b) (e - (at + old))) (e - old + new) (replicate (old - new) 0) (old - new)

-- room for new bytes where the old ones at `at` stood, in a book of m slots that ends at e
unfoldable pub refitted : ℕ → List ℕ → ℕ → ℕ → ℕ → ℕ → List ℕ
refitted m b at old new e = set_word (moved (remap (shifted_at at old new) m b 0) at old new e) 2 (e - old + new)

-- the len bytes at `at` taken out: a refit with no bytes in their place, and one frame less
unfoldable pub taken_out : ℕ → List ℕ → ℕ → ℕ → ℕ → List ℕ
taken_out m b at len e = set (refitted m b at len 0 e) 1 (get_or b 1 0 - 1)

-- the frame f of the slot s where the old bytes at `at` stood
unfoldable pub swapped : ℕ → List ℕ → ℕ → ℕ → List ℕ → ℕ → ℕ → List ℕ
swapped m b at old f s e = set_word (paste (refitted m b at old (length f) e) at f (length f)) (4 + 2 * s) at

-- c frames fill the bytes from p to e
pub record Tiles (m c : ℕ) (b : List ℕ) (p e : ℕ) : Type 0 where
  pub frames : List (List ℕ)
  pub reads : frames_from m c b p e ≡ holds frames

-- the c frames from p on, each after its length, written to o from w on
unfoldable pub reel_from : ℕ → ℕ → List ℕ → ℕ → ℕ → ℕ → List ℕ → List ℕ
reel_from m zero b p e w o = o
reel_from m (suc c) b p e w o =
    reel_from m c b (p + length_at m b p e) e (w + 1 + length_at m b p e)
    (paste (set o w (length_at m b p e)) (w + 1) (take (length_at m b p e) (drop p b)) (length_at m b p e))
