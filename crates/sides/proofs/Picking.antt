-- The frames of a side, picked from a reel one after the other, each with its length byte, and told as the book tells a reel.
-- Assumes nothing.
use mathlib.Core.Path.{ap, ap₂, refl, sym, ◌∙◌, ◌≡◌}
use mathlib.Core.Bool.{Bool, cond, false, true}
use mathlib.Core.List.{List, [], append_assoc, append-nil, ◌++◌, ◌∷◌}
use Prim.Native.Nat.{ℕ, ◌+◌, ◌-◌, ◌<◌, ◌≤◌}
use native.Mathlib.Omega.{arith}
use borrow.Author.Tests.{le-leb, lt-leb}
use lib.Dec.{leb}
use lib.ListN.{drop, length, length-drop, take}
use lib.Seq.{length-take-le, take-append_seam, take-length, take-paste}
use Rattle.refusal.specs.declared.Refusal.TheVariants.{OutputShort}
use Rattle.settings.specs.Settings.{slot_of}
use Rattle.spans.specs.Spans.{written}
use Rattle.spans.proofs.Spans.{written-fits}
use Rattle.reel.specs.declared.Cursor.{Cursor}
use Rattle.reel.specs.Reel.{Unreeled, reel_of, unreel}
use Rattle.reel.proofs.Reels.{reel-again}
use Rattle.reel.proofs.Found.{Whole}
use Rattle.std.specs.Prelude.{Ok, Err}
use Rattle.sides.specs.Parts.{chosen}
use Rattle.sides.specs.Means.{Retold, picked}

-- ---- a step along the reel

-- a length byte and the frame behind it, and the frame
abbrev pub piece_of : List ℕ → ℕ → ℕ → List ℕ
piece_of s at end = take (end - at) (drop at s)

abbrev pub frame_of : List ℕ → ℕ → ℕ → List ℕ
frame_of s start end = take (end - start) (drop start s)

module _ (s : List ℕ) (at start end : ℕ) (next : Cursor) (W : Whole s at start end next) where
  frame-size : length (frame_of s start end) ≡ end - start
  frame-size = length-take-le (end - start) (drop start s) (omega (arith, length-drop start s, W.inside))

  pub piece-size : length (piece_of s at end) ≡ end - at
  piece-size = length-take-le (end - at) (drop at s) (omega (arith, length-drop at s, W.inside))

  -- the reel from there on begins with the piece
  piece_is : piece_of s at end ≡ length (frame_of s start end) ∷ frame_of s start end
  unfolding reel_of
  piece_is =
      let f : List ℕ = frame_of s start end in
      let u : Unreeled = unreel (drop end s) in
      let whole : drop at s ≡ (length (frame_of s start end) ∷ frame_of s start end) ++ (reel_of (unreel (drop end s)).frames ++ (unreel (drop end s)).rest) =
      sym (reel-again (drop at s))
      ∙ ap (λ (x : Unreeled). reel_of x.frames ++ x.rest) W.made
      ∙ append_assoc (length f ∷ f) (reel_of u.frames) u.rest in
      let size : end - at ≡ length (length (frame_of s start end) ∷ frame_of s start end) = omega (arith, frame-size, W.behind, W.forward) in
      ap₂ (λ (k : ℕ) (x : List ℕ). take k x) size whole
      ∙ take-append_seam (length f ∷ f) (reel_of u.frames ++ u.rest)

  -- its frame is picked or passed over
  pub picked-on : (q : ℕ → Bool)
      → picked q (drop at s) ≡ cond (q (slot_of (frame_of s start end))) (piece_of s at end ++ picked q (drop end s)) (picked q (drop end s))
  unfolding picked reel_of chosen
  picked-on q = ap (λ (x : Unreeled). reel_of (chosen q x.frames)) W.made ∙ by (q (slot_of (frame_of s start end)))
    where
      by : (t : Bool)
          → reel_of (cond t (frame_of s start end ∷ chosen q (unreel (drop end s)).frames) (chosen q (unreel (drop end s)).frames))
          ≡ cond t (piece_of s at end ++ reel_of (chosen q (unreel (drop end s)).frames)) (reel_of (chosen q (unreel (drop end s)).frames))
      by true = ap (λ (x : List ℕ). x ++ reel_of (chosen q (unreel (drop end s)).frames)) (sym piece_is)
      by false = refl

-- where no frame is left
pub picked_none : (q : ℕ → Bool) (s : List ℕ) (at : ℕ) (r : List ℕ) → unreel (drop at s) ≡ record { frames = []; rest = r } → picked q (drop at s) ≡ []
unfolding picked reel_of chosen
picked_none q s at r e = ap (λ (x : Unreeled). reel_of (chosen q x.frames)) e

-- ---- what stands in the output

-- the bytes that were picked before a place stand at its front
pub record Picked (q : ℕ → Bool) (s out : List ℕ) (w at : ℕ) : Type 0 where
  pub within : at ≤ length s
  pub behind : w ≤ at
  pub text : picked q s ≡ take w out ++ picked q (drop at s)

pub pick-start : (q : ℕ → Bool) (s out : List ℕ) → Picked q s out 0 0
pick-start q s out = record { within = omega arith; behind = omega arith; text = refl }

module _ (q : ℕ → Bool) (s out : List ℕ) (w at : ℕ) (P : Picked q s out w at) where
  -- where nothing more is picked
  pub pick-stop : picked q (drop at s) ≡ [] → take w out ≡ picked q s
  pick-stop e = sym (P.text ∙ ap (λ (x : List ℕ). take w out ++ x) e ∙ append-nil (take w out))

  -- where the reel has no frame left
  pub pick-over : (r : List ℕ) → unreel (drop at s) ≡ record { frames = []; rest = r } → (take w out ≡ picked q s) × (w ≤ length s)
  pick-over r e = (pick-stop (picked_none q s at r e), omega (arith, P.behind, P.within))

  module _ (room : length s ≤ length out) (start end : ℕ) (next : Cursor) (W : Whole s at start end next) where
    pub piece-fits : w + length (piece_of s at end) ≤ length out
    piece-fits = omega (arith, piece-size s at start end next W, P.behind, W.inside, W.forward, W.behind)

    front : take (w + length (piece_of s at end)) (written out w (piece_of s at end)) ≡ take w out ++ piece_of s at end
    front =
        ap (take (w + length (piece_of s at end))) (written-fits out w (piece_of s at end) piece-fits)
        ∙ take-paste out w (piece_of s at end) (length (piece_of s at end)) (omega (arith, piece-fits)) (omega arith)
        ∙ ap (λ (x : List ℕ). take w out ++ x) (take-length (piece_of s at end))

    pub pick-on : (slot r : ℕ) (y : List ℕ) → slot ≡ slot_of (frame_of s start end) → r ≡ cond (q slot) (w + length (piece_of s at end)) w
        → y ≡ cond (q slot) (written out w (piece_of s at end)) out → Picked q s y r end
    pick-on slot r y f g k = by (q slot) refl g k
      where
        rest : (t : Bool) → q slot ≡ t → picked q (drop at s) ≡ cond t (piece_of s at end ++ picked q (drop end s)) (picked q (drop end s))
        rest t z =
            picked-on s at start end next W q
            ∙ ap (λ (u : Bool). cond u (piece_of s at end ++ picked q (drop end s)) (picked q (drop end s))) (ap q (sym f) ∙ z)

        by : (t : Bool) → q slot ≡ t → r ≡ cond t (w + length (piece_of s at end)) w → y ≡ cond t (written out w (piece_of s at end)) out → Picked q s y r end
        by true z gr ky =
            record {
              within = W.inside;
              behind = omega (arith, gr, piece-size s at start end next W, P.behind, W.forward, W.behind);
              text = P.text
                  ∙ ap (λ (x : List ℕ). take w out ++ x) (rest true z)
                  ∙ sym (append_assoc (take w out) (piece_of s at end) (picked q (drop end s)))
                  ∙ ap (λ (x : List ℕ). x ++ picked q (drop end s)) (sym front ∙ ap₂ (λ (i : ℕ) (x : List ℕ). take i x) (sym gr) (sym ky));
            }
        by false z gr ky =
            record {
              within = W.inside;
              behind = omega (arith, gr, P.behind, W.forward, W.behind);
              text = P.text
                  ∙ ap (λ (x : List ℕ). take w out ++ x) (rest false z)
                  ∙ ap₂ (λ (i : ℕ) (x : List ℕ). take i x ++ picked q (drop end s)) (sym gr) (sym ky);
            }

-- ---- telling what was picked

module _ (x o part : List ℕ) (n : ℕ) (text : take n part ≡ x) (fits : n ≤ length part) where
  count : n ≡ length x
  count = sym (length-take-le n part fits) ∙ ap length text

  lent : take (n - 0) part ≡ x
  lent = ap (λ (k : ℕ). take k part) less ∙ text
    where
      less : n - 0 ≡ n
      less = omega arith

  pub give-done : (y : List ℕ) → n ≤ length o → y ≡ written o 0 (take (n - 0) part) → Retold x o (Ok n) y
  give-done y h e =
      let in-room : leb (length x) (length o) ≡ true = le-leb (length x) (length o) (omega (arith, count)) in (
        ap Ok count ∙ sym (rw in-room refl),
        e ∙ ap (written o 0) lent ∙ written-fits o 0 x (omega (arith, count)) ∙ ap₂ (λ (c : List ℕ) (k : ℕ). c ++ drop k o) (take-length x) none
            ∙ sym (rw in-room refl),
      )
    where
      none : 0 + length x ≡ length x
      none = omega arith

  pub give-short : length o < n → Retold x o (Err OutputShort) o
  give-short h =
      let short : leb (length x) (length o) ≡ false = lt-leb (length x) (length o) (omega (arith, count)) in
      (sym (rw short refl), sym (rw short refl))
