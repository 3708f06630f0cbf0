-- A dump in parts. What one pass writes, and the text of what it leaves, are the text of the whole (`part-text`); so passes that use a reel up,
-- whatever its parts, write the text of the reel (`fed-text`). A pass that has room and a whole frame, or the end of the reel, uses some
-- of its part (`part-goes`).
-- Assumes nothing.
use mathlib.Core.Path.{◌≡◌, refl, sym, ap, ◌∙◌}
use mathlib.Core.Bool.{Bool, true, false}
use mathlib.Core.List.{List, [], ◌∷◌, ◌++◌, append_assoc, append-nil}
use Prim.Native.Nat.{ℕ, suc, ◌+◌, ◌≤◌, ◌<◌}
use native.Mathlib.Omega.{arith}
use lib.Dec.{leb}
use lib.ListN.{length, take, drop, drop_of_length-le}
use lib.Seq.{drop-drop, drop-append_seam}
use borrow.Author.Tests.{leb-true, leb-false}
use Rattle.refusal.specs.declared.Refusal.TheVariants.{ReelCut}
use Rattle.decoder.specs.Decoding.{refuses, decode}
use Rattle.reel.specs.Reel.{reel_of, Unreeled, unreel}
use Rattle.reel.proofs.Reels.{unreel-nil, unreel-frame, unreel-cut, unreel-reel, reel-again, unreel-rest}
use Rattle.dump_text.specs.Text.{line_of, text_from, text_at, text_of}
use Rattle.dump_text.specs.Parts.{Lines, none, line, goes_on, lines_from, lines_of}
use Rattle.dump_text.proofs.Passing.{lines-stop, lines-line, lines_more, lines_cut, lines_end}

-- the lines l, and the text of what they leave of a reel, are the text of the reel
abbrev pub Tells : ℕ → List ℕ → Lines → Type 0
Tells index reel l = text_at index reel ≡ l.text ++ text_at l.next (drop l.used reel)

pub text-nil : (index : ℕ) → text_at index [] ≡ []
unfolding text_from
text-nil index = rw unreel-nil refl

module _ (index : ℕ) (f : List ℕ) (fs : List (List ℕ)) (t : List ℕ) where
  text-frame : text_at index (reel_of (f ∷ fs) ++ t) ≡ line_of index (decode f) ++ text_at (suc index) (reel_of fs ++ t)
  unfolding text_from
  text-frame = rw (unreel-reel (f ∷ fs) t, unreel-reel fs t) refl

  drop-frame : (n : ℕ) → drop (suc (length f) + n) (reel_of (f ∷ fs) ++ t) ≡ drop n (reel_of fs ++ t)
  unfolding reel_of
  drop-frame n =
      sym (drop-drop n (suc (length f)) (reel_of (f ∷ fs) ++ t))
      ∙ ap (λ (s : List ℕ). drop n (drop (length f) s)) (append_assoc f (reel_of fs) t)
      ∙ ap (drop n) (drop-append_seam f (reel_of fs ++ t))

  tells-line : (l : Lines) → Tells (suc index) (reel_of fs ++ t) l → Tells index (reel_of (f ∷ fs) ++ t) (line (suc (length f)) (line_of index (decode f)) l)
  tells-line l e =
      text-frame
      ∙ ap (λ (s : List ℕ). line_of index (decode f) ++ s) e
      ∙ sym (append_assoc (line_of index (decode f)) l.text (text_at l.next (drop l.used (reel_of fs ++ t))))
      ∙ ap (λ (s : List ℕ). (line_of index (decode f) ++ l.text) ++ text_at l.next s) (sym (drop-frame l.used))

-- a cut frame's line ends the text
tells-cut : (index b : ℕ) (rest : List ℕ) → unreel (b ∷ rest) ≡ record { frames = []; rest = b ∷ rest }
    → Tells index (b ∷ rest) (line (suc (length rest)) (line_of index (refuses ReelCut)) (none (suc index)))
unfolding text_from
tells-cut index b rest e =
    let gone : drop (suc (length rest) + 0) (b ∷ rest) ≡ [] = drop_of_length-le (b ∷ rest) {i = suc (length rest) + 0} (omega arith) in
    let cut : text_at index (b ∷ rest) ≡ line_of index (refuses ReelCut) = rw e refl in
    cut
    ∙ sym
    (ap (λ (s : List ℕ). (line_of index (refuses ReelCut) ++ []) ++ text_at (suc index) s) gone
    ∙ ap (λ (s : List ℕ). (line_of index (refuses ReelCut) ++ []) ++ s) (text-nil (suc index))
    ∙ append-nil (line_of index (refuses ReelCut) ++ [])
    ∙ append-nil (line_of index (refuses ReelCut)))

-- frames and what is left behind them, with q to come
module _ (more : Bool) (q : List ℕ) (last : more ≡ false → q ≡ []) where
  tells-rest : (room index b : ℕ) (rest : List ℕ) → unreel (b ∷ rest) ≡ record { frames = []; rest = b ∷ rest }
      → Tells index ((b ∷ rest) ++ q) (lines_from more room index [] (b ∷ rest))
  tells-rest room index b rest e = by more refl (goes_on room index) refl
    where
      by : (m : Bool) → more ≡ m → (g : Bool) → goes_on room index ≡ g → Tells index ((b ∷ rest) ++ q) (lines_from more room index [] (b ∷ rest))
      by true x g y = rw (lines_more more room index b rest x) refl
      by false x false y = rw (lines-stop more room index [] (b ∷ rest) y) refl
      by false x true y = rw (lines_cut more room index b rest x y, last x, append-nil (b ∷ rest)) (tells-cut index b rest e)

  tells-frames : (fs : List (List ℕ)) (rest : List ℕ) → unreel rest ≡ record { frames = []; rest = rest } → (room index : ℕ)
      → Tells index (reel_of fs ++ (rest ++ q)) (lines_from more room index fs rest)
  unfolding reel_of
  tells-frames [] [] e room index = rw (lines_end more room index) refl
  tells-frames [] (b ∷ rest) e room index = tells-rest room index b rest e
  tells-frames (f ∷ fs) rest e room index = by (goes_on room index) refl (tells-frames fs rest e)
    where
      by : (g : Bool) → goes_on room index ≡ g → ((room index : ℕ) → Tells index (reel_of fs ++ (rest ++ q)) (lines_from more room index fs rest))
          → Tells index (reel_of (f ∷ fs) ++ (rest ++ q)) (lines_from more room index (f ∷ fs) rest)
      by false y ih = rw (lines-stop more room index (f ∷ fs) rest y) refl
      by true y ih = rw (lines-line more room index f fs rest y) (tells-line index f fs (rest ++ q) _ (ih _ (suc index)))

  -- one pass over a part p of a reel that goes on with q
  pub part-text : (room index : ℕ) (p : List ℕ) → Tells index (p ++ q) (lines_of more room index (unreel p))
  part-text room index p =
      let u : Unreeled = unreel p in
      let e : reel_of u.frames ++ (u.rest ++ q) ≡ p ++ q =
      sym (append_assoc (reel_of u.frames) u.rest q) ∙ ap (λ (s : List ℕ). s ++ q) (reel-again p)
      in
      rw e at (tells-frames u.frames u.rest (unreel-rest p) room index)

-- Fed index reel text: passes that begin at the index and use the reel up write the text. Each takes any part of what is left, with any room;
-- that no more follows is said only of a part that is all that is left.
pub data Fed : ℕ → List ℕ → List ℕ → Type 0 where
  fed : {index : ℕ} → Fed index [] []
  pass : {index : ℕ} {text : List ℕ} (more : Bool) (room : ℕ) (p q : List ℕ) → (more ≡ false → q ≡ [])
      → Fed (lines_of more room index (unreel p)).next (drop (lines_of more room index (unreel p)).used (p ++ q)) text
      → Fed index (p ++ q) ((lines_of more room index (unreel p)).text ++ text)

pub fed-text : {index : ℕ} {reel text : List ℕ} → Fed index reel text → text ≡ text_at index reel
fed-text {index} fed = sym (text-nil index)
fed-text {index} (pass more room p q last f) =
    ap (λ (s : List ℕ). (lines_of more room index (unreel p)).text ++ s) (fed-text f) ∙ sym (part-text more q last room index p)

pub dump-text : (reel text : List ℕ) → Fed 0 reel text → text ≡ text_of reel
dump-text reel text f = fed-text f

-- a pass goes on
pub part-goes : (more : Bool) (room index b : ℕ) (s : List ℕ) → goes_on room index ≡ true → (more ≡ true → b ≤ length s)
    → 0 < (lines_of more room index (unreel (b ∷ s))).used
part-goes more room index b s g h = by (leb b (length s)) refl more refl
  where
    by : (t : Bool) → leb b (length s) ≡ t → (m : Bool) → more ≡ m → 0 < (lines_of more room index (unreel (b ∷ s))).used
    by true x m y =
        rw (unreel-frame b s (leb-true b (length s) x), lines-line more room index (take b s) (unreel (drop b s)).frames (unreel (drop b s)).rest g)
        (omega arith)
    by false x true y = absurd (let k : length s < b = leb-false b (length s) x in omega (arith, h y))
    by false x false y = rw (unreel-cut b s (leb-false b (length s) x), lines_cut more room index b s y g) (omega arith)
