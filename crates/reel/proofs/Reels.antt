-- Frames and reels. What a reel is made of, byte by byte (`unreel-frame`, `unreel-cut`); that a reel is read back whole, and a cut one
-- up to the cut (`unreel-reel`, `reel-whole`, `reel-cut`); that nothing of a reel is lost (`reel-again`), and that what is left holds no whole
-- frame (`unreel-rest`).
-- Assumes nothing.
use mathlib.Core.Path.{◌≡◌, refl, ap, ◌∙◌}
use mathlib.Core.Bool.{Bool, true, false, cond}
use mathlib.Core.List.{List, [], ◌∷◌, ◌++◌, append_assoc, append-nil}
use Prim.Native.Nat.{ℕ, zero, suc, ◌≤◌, ◌<◌}
use native.Mathlib.Omega.{arith}
use lib.Dec.{leb}
use lib.ListN.{length, take, drop, length-append, length-drop, take-append-drop}
use lib.Seq.{take-append_seam, drop-append_seam, length-take-le}
use borrow.Author.Tests.{le-leb, lt-leb, leb-true, leb-false}
use Rattle.reel.specs.Reel.{reel_of, Unreeled, preceded, unreel_by, unreel}

-- a reel that is no longer than the number of frames allowed is read to its end
enough : (n m : ℕ) (s : List ℕ) → length s ≤ n → length s ≤ m → unreel_by n s ≡ unreel_by m s
unfolding unreel_by
enough zero zero s h k = refl
enough zero (suc m) [] h k = refl
enough zero (suc m) (b ∷ s) h k = absurd (omega arith)
enough (suc n) zero [] h k = refl
enough (suc n) zero (b ∷ s) h k = absurd (omega arith)
enough (suc n) (suc m) [] h k = refl
enough (suc n) (suc m) (b ∷ s) h k =
    ap (λ (u : Unreeled). cond (leb b (length s)) (preceded (take b s) u) (record { frames = []; rest = b ∷ s }))
    (enough n m (drop b s) (simp length-drop (omega arith)) (simp length-drop (omega arith)))

module _ (b : ℕ) (s : List ℕ) where
  pub unreel-frame : b ≤ length s → unreel (b ∷ s) ≡ preceded (take b s) (unreel (drop b s))
  unfolding unreel unreel_by
  unreel-frame h =
      simp (le-leb b (length s) h)
      (ap (preceded (take b s)) (enough (length s) (length (drop b s)) (drop b s) (simp length-drop (omega arith)) (omega arith)))

  pub unreel-cut : length s < b → unreel (b ∷ s) ≡ record { frames = []; rest = b ∷ s }
  unfolding unreel unreel_by
  unreel-cut h = simp (lt-leb b (length s) h)

pub unreel-nil : unreel [] ≡ record { frames = []; rest = [] }
unfolding unreel unreel_by
unreel-nil = refl

-- the frames of a reel come out in front of what follows it
pub unreel-reel : (fs : List (List ℕ)) (t : List ℕ) → unreel (reel_of fs ++ t) ≡ record { frames = fs ++ (unreel t).frames; rest = (unreel t).rest }
unfolding reel_of
unreel-reel [] t = refl
unreel-reel (f ∷ fs) t =
    let s : List ℕ = f ++ (reel_of fs ++ t) in
    ap (λ (x : List ℕ). unreel (length f ∷ x)) (append_assoc f (reel_of fs) t)
    ∙ unreel-frame (length f) s (simp length-append (omega arith))
    ∙ ap (λ (x : List ℕ). preceded x (unreel (drop (length f) s))) (take-append_seam f (reel_of fs ++ t))
    ∙ ap (λ (x : List ℕ). preceded f (unreel x)) (drop-append_seam f (reel_of fs ++ t))
    ∙ ap (preceded f) (unreel-reel fs t)

-- a reel of whole frames is read back whole. This holds of frames of any length; those of up to 255 bytes have their length in a byte
pub reel-whole : (fs : List (List ℕ)) → unreel (reel_of fs) ≡ record { frames = fs; rest = [] }
reel-whole fs =
    let e : unreel (reel_of fs ++ []) ≡ record { frames = fs ++ []; rest = [] } = rw unreel-nil at (unreel-reel fs []) in
    simp append-nil at e

-- a reel that ends inside a frame is read up to that frame's length byte
pub reel-cut : (fs : List (List ℕ)) (b : ℕ) (s : List ℕ) → length s < b → unreel (reel_of fs ++ (b ∷ s)) ≡ record { frames = fs; rest = b ∷ s }
reel-cut fs b s h =
    let e : unreel (reel_of fs ++ (b ∷ s)) ≡ record { frames = fs ++ []; rest = b ∷ s } = rw (unreel-cut b s h) at (unreel-reel fs (b ∷ s)) in
    simp append-nil at e

-- the frames of a reel make it up, with what is left
again : (n : ℕ) (s : List ℕ) → reel_of (unreel_by n s).frames ++ (unreel_by n s).rest ≡ s
unfolding reel_of unreel_by
again zero s = refl
again (suc n) [] = refl
again (suc n) (b ∷ s) = by (leb b (length s)) refl (again n (drop b s))
  where
    by : (t : Bool) → leb b (length s) ≡ t → reel_of (unreel_by n (drop b s)).frames ++ (unreel_by n (drop b s)).rest ≡ drop b s
        → reel_of (cond t (preceded (take b s) (unreel_by n (drop b s))) (record { frames = []; rest = b ∷ s })).frames ++ (cond t
        (preceded (take b s) (unreel_by n (drop b s))) (record { frames = []; rest = b ∷ s })).rest ≡ b ∷ s
    by true e ih =
        rw (append_assoc, ih, take-append-drop b s)
        (ap (λ (k : ℕ). k ∷ s) (length-take-le b s (leb-true b (length s) e)))
    by false e ih = refl

pub reel-again : (s : List ℕ) → reel_of (unreel s).frames ++ (unreel s).rest ≡ s
unfolding unreel
reel-again s = again (length s) s

-- and what is left holds no whole frame
rest-by : (n : ℕ) (s : List ℕ) → length s ≤ n → unreel (unreel_by n s).rest ≡ record { frames = []; rest = (unreel_by n s).rest }
unfolding unreel_by
rest-by zero [] h = unreel-nil
rest-by zero (b ∷ s) h = absurd (omega arith)
rest-by (suc n) [] h = unreel-nil
rest-by (suc n) (b ∷ s) h = by (leb b (length s)) refl (rest-by n (drop b s) (simp length-drop (omega arith)))
  where
    made : Bool → Unreeled
    made t = cond t (preceded (take b s) (unreel_by n (drop b s))) (record { frames = []; rest = b ∷ s })

    by : (t : Bool) → leb b (length s) ≡ t → unreel (unreel_by n (drop b s)).rest ≡ record { frames = []; rest = (unreel_by n (drop b s)).rest }
        → unreel (made t).rest ≡ record { frames = []; rest = (made t).rest }
    by true e ih = ih
    by false e ih = unreel-cut b s (leb-false b (length s) e)

pub unreel-rest : (s : List ℕ) → unreel (unreel s).rest ≡ record { frames = []; rest = (unreel s).rest }
unfolding unreel
unreel-rest s = rest-by (length s) s (omega arith)
