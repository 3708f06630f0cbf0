-- The offsets that a header of so many slots has (`offset-among`, `offset-outside`): they tell which slots of its list are held (`present-tells`).
-- Assumes nothing.
use mathlib.Core.Path.{refl, ◌∙◌, ◌≡◌}
use mathlib.Core.Bool.{Bool, false, true}
use mathlib.Core.List.{List, [], ◌∷◌}
use Prim.Native.Nat.{ℕ, ◌<◌, ◌≤◌}
use native.Mathlib.Omega.{arith}
use borrow.Author.Tests.{eq-eqb, le-ltb, lt-ltb, ltb-false, ltb-true, ne_eqb}
use lib.Dec.{ltb}
use lib.ListN.{get_or}
use Rattle.settings.specs.Settings.{slot_of}
use Rattle.contents.specs.Frames.{held}
use Rattle.contents.specs.Contents.{Layout, holds, judge, offset_at, offset_for, present_for, start, word_at}
use Rattle.contents.proofs.Shape.{Within, place-ge, place_none}
use Rattle.contents.proofs.Judged.{Tiled, frames_from-tiled, judge-reads, offsets}

module _ (m : ℕ) (b : List ℕ) (s : ℕ) where
  pub offset-outside : m ≤ s → offset_for m b s ≡ 0
  unfolding offset_for
  offset-outside h = rw (le-ltb s m h)

  pub offset-among : s < m → offset_for m b s ≡ offset_at b s
  unfolding offset_for
  offset-among h = rw (lt-ltb s m h)

  -- a slot that has an offset is among the slots
  pub offset-slot : (offset_for m b s ≡ 0 → ⊥) → s < m
  offset-slot n = go (ltb s m) refl
    where
      go : (t : Bool) → ltb s m ≡ t → s < m
      go true e = ltb-true s m e
      go false e = absurd (n (offset-outside (ltb-false s m e)))

-- a list of slots under m holds none that is not
pub within_held : (m : ℕ) (fs : List (List ℕ)) → Within m fs → (s : ℕ) → m ≤ s → held s fs ≡ false
unfolding held
within_held m [] w s h = refl
within_held m (f ∷ fs) w s h = rw (ne_eqb (slot_of f) s (λ e. absurd (omega (arith, w.0)))) (within_held m fs w.1 s h)

-- the offsets of a header tell which slots are held
pub present-tells : (l : Layout) (b : List ℕ) (fs : List (List ℕ)) → judge l b ≡ holds fs → (s : ℕ) → present_for l.slots b s ≡ held s fs
present-tells l b fs h s = by (ltb s l.slots) refl
  where
    T : Tiled l.slots b (start l.slots) (word_at b 2) (get_or b 1 0) fs
    T = frames_from-tiled l.slots (get_or b 1 0) b (start l.slots) (word_at b 2) fs (judge-reads l b fs h).tiled

    among : s < l.slots → (t : Bool) → held s fs ≡ t → present_for l.slots b s ≡ held s fs
    among a true q =
        let o = offset-among l.slots b s a ∙ offsets l b fs (judge-reads l b fs h) s a in
        rw (ne_eqb (offset_for l.slots b s) 0 (λ z. absurd (omega (arith, o, place-ge (start l.slots) fs s q))), q)
    among a false q =
        let o = offset-among l.slots b s a ∙ offsets l b fs (judge-reads l b fs h) s a in
        rw (eq-eqb (offset_for l.slots b s) 0 (o ∙ place_none (start l.slots) fs s q), q)

    by : (t : Bool) → ltb s l.slots ≡ t → present_for l.slots b s ≡ held s fs
    by true e = among (ltb-true s l.slots e) (held s fs) refl
    by false e =
        let a : l.slots ≤ s = ltb-false s l.slots e in
        rw (eq-eqb (offset_for l.slots b s) 0 (offset-outside l.slots b s a), within_held l.slots fs T.within s a)
