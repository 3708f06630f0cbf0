-- A step by its tests: what the state becomes (`heard-..`), what is sent (`sends-..`), and each over what a replay told of a book (`start-..`, `send-..`,
-- `hear-..`).
-- Assumes nothing.
use mathlib.Core.Path.{ap, ap₂, refl, sym, ◌∙◌, ◌≡◌}
use mathlib.Core.Bool.{Bool, cond, false, true}
use mathlib.Core.List.{List, [], ◌∷◌}
use Prim.Native.Nat.{ℕ, ◌+◌, ◌-◌, ◌<◌, ◌≤◌}
use native.Mathlib.Omega.{arith}
use borrow.Author.Tests.{eq-eqb, le-ltb, lt-ltb, ne_eqb}
use lib.Dec.{eqb, ltb}
use lib.ListN.{get_or-eq_default, drop, get_or, length, length-drop, length-replicate, replicate, take}
use lib.Seq.{length-take-le, paste-zero}
use Rattle.reel.specs.Reel.{Unreeled, reel_of, unreel}
use Rattle.reel.proofs.Reels.{reel-whole}
use Rattle.spans.specs.Spans.{written}
use Rattle.spans.proofs.Spans.{written-fits}
use Rattle.contents.specs.Contents.{Contents}
use Rattle.book.specs.Book.{Read, longest_reel, opened_for}
use Rattle.book.proofs.Told.{Replayed}
use Rattle.controller.specs.declared.State.{State}
use Rattle.controller.specs.declared.State.TheVariants as state
use Rattle.std.specs.Prelude.{None, Ok, Option, Some}
use Rattle.controller.specs.declared.Sending.{Sending}
use Rattle.controller.specs.Controller.{LiesAt, heard_of, heard_on, is_over, judged_by, onward_of, reads, sending_of, sends, sends_of, start_of}

-- when nothing is left to do, in numbers: in a book of no frames, and past the final read; and when something is
pub over_none : (n sent : ℕ) → n ≡ 0 → is_over n sent ≡ true
over_none n sent e = ap (λ (t : Bool). cond t true (ltb n sent)) (eq-eqb n 0 e)

pub over-past : (n sent : ℕ) → n < sent → is_over n sent ≡ true
over-past n sent h = ap (λ (t : Bool). cond (eqb n 0) true t) (lt-ltb n sent h) ∙ always (eqb n 0)
  where
    always : (t : Bool) → cond t true true ≡ true
    always true = refl
    always false = refl

pub going : (n sent : ℕ) → 0 < n → sent ≤ n → is_over n sent ≡ false
going n sent h k = ap (λ (t : Bool). cond t true (ltb n sent)) (ne_eqb n 0 (λ e. omega arith)) ∙ le-ltb n sent k

-- ---- the state

module _ (n : ℕ) (good : Bool) where
  pub heard-by : (st x y : State) → st ≡ x → y ≡ heard_on n x good → y ≡ heard_on n st good
  heard-by st x y e h = h ∙ sym (ap (λ (z : State). heard_on n z good) e)

  pub heard-done : state.Done ≡ heard_on n state.Done good
  unfolding heard_on
  heard-done = refl

  pub heard-stopped : (p : ℕ) → state.Stopped p ≡ heard_on n (state.Stopped p) good
  unfolding heard_on
  heard-stopped p = refl

  module _ (sent : ℕ) where
    pub heard-over : is_over n sent ≡ true → state.Running sent ≡ heard_on n (state.Running sent) good
    unfolding heard_on
    heard-over e = sym (ap (λ (t : Bool). cond t (state.Running sent) (judged_by sent good (onward_of n sent))) e)

    -- and else by its status
    pub heard-going : is_over n sent ≡ false → judged_by sent good (onward_of n sent) ≡ heard_on n (state.Running sent) good
    unfolding heard_on
    heard-going e = sym (ap (λ (t : Bool). cond t (state.Running sent) (judged_by sent good (onward_of n sent))) e)

    -- a frame comes next
    pub heard-frame : sent < n → judged_by sent good (state.Running (sent + 1)) ≡ heard_on n (state.Running sent) good
    heard-frame h =
        sym (ap (λ (t : Bool). judged_by sent good (cond t (state.Running (sent + 1)) state.Done)) (lt-ltb sent n h))
        ∙ heard-going (going n sent (omega arith) (omega arith))

    -- the final read comes next
    pub heard-read : 0 < sent → sent ≡ n → judged_by sent good state.Done ≡ heard_on n (state.Running sent) good
    heard-read h e =
        sym (ap (λ (t : Bool). judged_by sent good (cond t (state.Running (sent + 1)) state.Done)) (le-ltb sent n (omega arith)))
        ∙ heard-going (going n sent (omega arith) (omega arith))

-- ---- what is sent

-- the bytes between a frame's bounds, with zeros behind them
spans-sends : (reel f : List ℕ) (start end : ℕ) → LiesAt reel f start end → (frame : List ℕ)
    → frame ≡ written (replicate 12 0) 0 (take (end - start) (drop start reel)) → Some (record { len = end - start; frame = frame }) ≡ sends f
spans-sends reel f start end p frame e =
    ap₂ (λ (n : ℕ) (x : List ℕ). Some (record { len = n; frame = x })) size (e ∙ ap (written (replicate 12 0) 0) p.bytes)
  where
    size : end - start ≡ length f
    size =
        sym (length-take-le (end - start) (drop start reel) (simp length-drop (omega (arith, p.forward, p.inside))))
        ∙ ap length p.bytes

-- no bytes leave an output as it was
written_none : (o : List ℕ) → o ≡ written o 0 []
written_none o = paste-zero o 0 [] ∙ sym (written-fits o 0 [] (omega arith))

module _ (fs : List (List ℕ)) where
  pub sends-by : (st x : State) (y : Option Sending) → st ≡ x → y ≡ sends_of fs x → y ≡ sends_of fs st
  sends-by st x y e h = h ∙ sym (ap (sends_of fs) e)

  pub sends-done : None ≡ sends_of fs state.Done
  unfolding sends_of
  sends-done = refl

  pub sends-stopped : (p : ℕ) → None ≡ sends_of fs (state.Stopped p)
  unfolding sends_of
  sends-stopped p = refl

  module _ (sent : ℕ) where
    pub sends-over : is_over (length fs) sent ≡ true → None ≡ sends_of fs (state.Running sent)
    unfolding sends_of
    sends-over e = sym (ap (λ (t : Bool). cond t None (sends (get_or fs sent []))) e)

    pub sends-next : 0 < length fs → sent ≤ length fs → sends (get_or fs sent []) ≡ sends_of fs (state.Running sent)
    unfolding sends_of
    sends-next h k = sym (ap (λ (t : Bool). cond t None (sends (get_or fs sent []))) (going (length fs) sent h k))

    pub sends-frame : sent < length fs → (reel : List ℕ) (start end : ℕ) → LiesAt reel (get_or fs sent []) start end → (frame : List ℕ)
        → frame ≡ written (replicate 12 0) 0 (take (end - start) (drop start reel))
        → Some (record { len = end - start; frame = frame }) ≡ sends_of fs (state.Running sent)
    sends-frame h reel start end p frame e = spans-sends reel (get_or fs sent []) start end p frame e ∙ sends-next (omega arith) (omega arith)

    -- no byte at the final read
    pub sends-read : 0 < sent → sent ≡ length fs → reads ≡ sends_of fs (state.Running sent)
    sends-read h e =
        ap (λ (x : List ℕ). Some (record { len = 0; frame = x })) (written_none (replicate 12 0))
        ∙ ap sends (sym (get_or-eq_default fs [] {n = sent} (omega arith)))
        ∙ sends-next (omega arith) (omega arith)

-- ---- over a book

-- the array takes every reel
pub long : longest_reel ≤ length {A = ℕ} (replicate longest_reel 0)
long = omega (arith, length-replicate {A = ℕ} longest_reel 0)

-- a reel of no bytes has no frames
none-empty : (fs : List (List ℕ)) → length (reel_of fs) ≡ 0 → length fs ≡ 0
unfolding reel_of
none-empty [] e = refl
none-empty (f ∷ fs) e = absurd (omega arith)

some-frames : (fs : List (List ℕ)) → (length (reel_of fs) ≡ 0 → ⊥) → length fs ≡ 0 → ⊥
unfolding reel_of
some-frames [] h e = h refl
some-frames (f ∷ fs) h e = omega arith

-- what a replay told of a book
module _ (b out : List ℕ) (n : ℕ) (T : Replayed b out n) where
  -- its reel has the book's frames
  frames-told : (unreel (take (n - 0) out)).frames ≡ T.frames
  frames-told = ap (λ (x : List ℕ). (unreel x).frames) T.reel ∙ ap (λ (u : Unreeled). u.frames) (reel-whole T.frames)

  pub start-empty : n ≡ 0 → Ok state.Done ≡ start_of (opened_for Read b)
  start-empty z =
      sym (ap start_of T.opens
      ∙ ap (λ (t : Bool). Ok (cond t state.Done (state.Running 0))) (eq-eqb (length T.frames) 0 (none-empty T.frames (sym T.size ∙ z))))

  pub start-some : (n ≡ 0 → ⊥) → Ok (state.Running 0) ≡ start_of (opened_for Read b)
  start-some z =
      sym (ap start_of T.opens
      ∙ ap (λ (t : Bool). Ok (cond t state.Done (state.Running 0)))
      (ne_eqb (length T.frames) 0 (some-frames T.frames (λ e. z (T.size ∙ e)))))

  pub send-told : (st : State) (r : Option Sending) → r ≡ sends_of (unreel (take (n - 0) out)).frames st → Ok r ≡ sending_of (opened_for Read b) st
  send-told st r k =
      ap (λ (x : Option Sending). Ok x) (k ∙ ap (λ (x : List (List ℕ)). sends_of x st) frames-told) ∙ sym (ap (λ (q : Contents). sending_of q st) T.opens)

  pub hear-told : (st : State) (good right : Bool) (r : State) → r ≡ heard_on (length (unreel (take (n - 0) out)).frames) st good → good ≡ right
      → Ok r ≡ heard_of (opened_for Read b) st right
  hear-told st good right r k g =
      ap Ok (k ∙ ap₂ (λ (fs : List (List ℕ)) (t : Bool). heard_on (length fs) st t) frames-told g)
      ∙ sym (ap (λ (q : Contents). heard_of q st right) T.opens)
