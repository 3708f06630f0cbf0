-- The frames whose slots pass a test (`chosen`), and what the edits of a list do to them: an edit of a slot that passes is the same edit of the
-- chosen frames, and any other leaves them. In order: held and frame_of, the edits, a put, two tests, bytes, what a book can hold.
-- Assumes nothing.
use mathlib.Core.Path.{ap, ap₂, refl, sym, ◌∙◌, ◌≡◌}
use mathlib.Core.Bool.{Bool, cond, false, false≢true, not, true, ◌&&◌}
use mathlib.Core.List.{List, [], ◌++◌, ◌∷◌}
use Prim.Native.Nat.{ℕ, ◌+◌, ◌<◌, ◌≤◌}
use native.Mathlib.Omega.{arith}
use borrow.Author.Tests.{eqb-true}
use lib.Dec.{eqb}
use lib.ListN.{length, length-append}
use Rattle.table.specs.Table.{settings}
use Rattle.settings.specs.Settings.{slot_of}
use Rattle.contents.specs.Frames.{flat, held}
use Rattle.contents.proofs.Shape.{Sound}
use Rattle.forms.specs.Forms.{other}
use Rattle.forms.proofs.Forms.{OneForm}
use Rattle.book.specs.Plain.{frame_of, placed, seat, swap_in, without}
use Rattle.sides.specs.Parts.{chosen}

-- a test's value at one slot is its value at an equal one
at_slot : (q : ℕ → Bool) (a b : ℕ) (x y : Bool) → eqb a b ≡ true → q a ≡ x → q b ≡ y → x ≡ y
at_slot q a b x y e p r = sym p ∙ ap q (eqb-true a b e) ∙ r

module _ (q : ℕ → Bool) where
  -- ---- held and frame_of

  pub held-chosen : (s : ℕ) → q s ≡ true → (fs : List (List ℕ)) → held s (chosen q fs) ≡ held s fs
  unfolding held chosen
  held-chosen s e [] = refl
  held-chosen s e (g ∷ fs) = go (held-chosen s e fs) (q (slot_of g)) refl (eqb (slot_of g) s) refl
    where
      go : held s (chosen q fs) ≡ held s fs → (t : Bool) → q (slot_of g) ≡ t → (u : Bool) → eqb (slot_of g) s ≡ u
          → held s (cond t (g ∷ chosen q fs) (chosen q fs)) ≡ cond u true (held s fs)
      go ih true a u b = rw (b, ih)
      go ih false a true b = absurd (false≢true (at_slot q (slot_of g) s false true b a e))
      go ih false a false b = ih

  -- a slot that does not pass is not among the chosen
  pub chosen-out : (s : ℕ) → q s ≡ false → (fs : List (List ℕ)) → held s (chosen q fs) ≡ false
  unfolding held chosen
  chosen-out s n [] = refl
  chosen-out s n (g ∷ fs) = go (chosen-out s n fs) (q (slot_of g)) refl (eqb (slot_of g) s) refl
    where
      go : held s (chosen q fs) ≡ false → (t : Bool) → q (slot_of g) ≡ t → (u : Bool) → eqb (slot_of g) s ≡ u
          → held s (cond t (g ∷ chosen q fs) (chosen q fs)) ≡ false
      go ih true a true b = absurd (false≢true (sym (at_slot q (slot_of g) s true false b a n)))
      go ih true a false b = rw b ih
      go ih false a u b = ih

  pub frame-chosen : (s : ℕ) → q s ≡ true → (fs : List (List ℕ)) → frame_of s (chosen q fs) ≡ frame_of s fs
  unfolding frame_of chosen
  frame-chosen s e [] = refl
  frame-chosen s e (g ∷ fs) = go (frame-chosen s e fs) (q (slot_of g)) refl (eqb (slot_of g) s) refl
    where
      go : frame_of s (chosen q fs) ≡ frame_of s fs → (t : Bool) → q (slot_of g) ≡ t → (u : Bool) → eqb (slot_of g) s ≡ u
          → frame_of s (cond t (g ∷ chosen q fs) (chosen q fs)) ≡ cond u g (frame_of s fs)
      go ih true a u b = rw (b, ih)
      go ih false a true b = absurd (false≢true (at_slot q (slot_of g) s false true b a e))
      go ih false a false b = ih

  -- ---- the edits

  chosen-append : (f : List ℕ) → q (slot_of f) ≡ true → (fs : List (List ℕ)) → chosen q (fs ++ (f ∷ [])) ≡ chosen q fs ++ (f ∷ [])
  unfolding chosen
  chosen-append f e [] = rw e
  chosen-append f e (g ∷ fs) = go (chosen-append f e fs) (q (slot_of g))
    where
      go : chosen q (fs ++ (f ∷ [])) ≡ chosen q fs ++ (f ∷ []) → (t : Bool)
          → cond t (g ∷ chosen q (fs ++ (f ∷ []))) (chosen q (fs ++ (f ∷ []))) ≡ cond t (g ∷ chosen q fs) (chosen q fs) ++ (f ∷ [])
      go ih true = ap (λ (x : List (List ℕ)). g ∷ x) ih
      go ih false = ih

  chosen-append-out : (f : List ℕ) → q (slot_of f) ≡ false → (fs : List (List ℕ)) → chosen q (fs ++ (f ∷ [])) ≡ chosen q fs
  unfolding chosen
  chosen-append-out f e [] = rw e
  chosen-append-out f e (g ∷ fs) = ap (λ (x : List (List ℕ)). cond (q (slot_of g)) (g ∷ x) x) (chosen-append-out f e fs)

  chosen-swap : (s : ℕ) (f : List ℕ) → q s ≡ true → q (slot_of f) ≡ true → (fs : List (List ℕ)) → chosen q (swap_in s f fs) ≡ swap_in s f (chosen q fs)
  unfolding chosen swap_in
  chosen-swap s f e e' [] = refl
  chosen-swap s f e e' (g ∷ fs) = go (chosen-swap s f e e' fs) (eqb (slot_of g) s) refl (q (slot_of g)) refl
    where
      go : chosen q (swap_in s f fs) ≡ swap_in s f (chosen q fs) → (t : Bool) → eqb (slot_of g) s ≡ t → (u : Bool) → q (slot_of g) ≡ u
          → chosen q (cond t (f ∷ fs) (g ∷ swap_in s f fs)) ≡ swap_in s f (cond u (g ∷ chosen q fs) (chosen q fs))
      go ih true a true b = rw (e', a)
      go ih true a false b = absurd (false≢true (at_slot q (slot_of g) s false true a b e))
      go ih false a true b = rw (b, a, ih)
      go ih false a false b = rw b ih

  chosen-swap-out : (s : ℕ) (f : List ℕ) → q s ≡ false → q (slot_of f) ≡ false → (fs : List (List ℕ)) → chosen q (swap_in s f fs) ≡ chosen q fs
  unfolding chosen swap_in
  chosen-swap-out s f e e' [] = refl
  chosen-swap-out s f e e' (g ∷ fs) = go (chosen-swap-out s f e e' fs) (eqb (slot_of g) s) refl
    where
      go : chosen q (swap_in s f fs) ≡ chosen q fs → (t : Bool) → eqb (slot_of g) s ≡ t
          → chosen q (cond t (f ∷ fs) (g ∷ swap_in s f fs)) ≡ cond (q (slot_of g)) (g ∷ chosen q fs) (chosen q fs)
      go ih true a = rw (e', at_slot q (slot_of g) s (q (slot_of g)) false a refl e)
      go ih false a = ap (λ (x : List (List ℕ)). cond (q (slot_of g)) (g ∷ x) x) ih

  pub chosen-without : (s : ℕ) → q s ≡ true → (fs : List (List ℕ)) → chosen q (without s fs) ≡ without s (chosen q fs)
  unfolding chosen without
  chosen-without s e [] = refl
  chosen-without s e (g ∷ fs) = go (chosen-without s e fs) (eqb (slot_of g) s) refl (q (slot_of g)) refl
    where
      go : chosen q (without s fs) ≡ without s (chosen q fs) → (t : Bool) → eqb (slot_of g) s ≡ t → (u : Bool) → q (slot_of g) ≡ u
          → chosen q (cond t fs (g ∷ without s fs)) ≡ without s (cond u (g ∷ chosen q fs) (chosen q fs))
      go ih true a true b = rw a
      go ih true a false b = absurd (false≢true (at_slot q (slot_of g) s false true a b e))
      go ih false a true b = rw (b, a, ih)
      go ih false a false b = rw b ih

  pub chosen-without-out : (s : ℕ) → q s ≡ false → (fs : List (List ℕ)) → chosen q (without s fs) ≡ chosen q fs
  unfolding chosen without
  chosen-without-out s e [] = refl
  chosen-without-out s e (g ∷ fs) = go (chosen-without-out s e fs) (eqb (slot_of g) s) refl
    where
      go : chosen q (without s fs) ≡ chosen q fs → (t : Bool) → eqb (slot_of g) s ≡ t
          → chosen q (cond t fs (g ∷ without s fs)) ≡ cond (q (slot_of g)) (g ∷ chosen q fs) (chosen q fs)
      go ih true a = rw (at_slot q (slot_of g) s (q (slot_of g)) false a refl e)
      go ih false a = ap (λ (x : List (List ℕ)). cond (q (slot_of g)) (g ∷ x) x) ih

  -- ---- a put

  -- the seat of a frame, among all frames and among the chosen, where the test does not part a slot from that of its other form
  module _ (f : List ℕ) (joined : q (other (slot_of f)) ≡ q (slot_of f)) where
    seat-passes : (fs : List (List ℕ)) → q (seat (slot_of f) fs) ≡ q (slot_of f)
    unfolding seat
    seat-passes fs = go (held (slot_of f) fs)
      where
        go : (t : Bool) → q (cond t (slot_of f) (other (slot_of f))) ≡ q (slot_of f)
        go true = refl
        go false = joined

    seat-chosen : (fs : List (List ℕ)) → q (slot_of f) ≡ true → seat (slot_of f) (chosen q fs) ≡ seat (slot_of f) fs
    unfolding seat
    seat-chosen fs e = ap (λ (t : Bool). cond t (slot_of f) (other (slot_of f))) (held-chosen (slot_of f) e fs)

    pub chosen-placed : q (slot_of f) ≡ true → (fs : List (List ℕ)) → chosen q (placed f fs) ≡ placed f (chosen q fs)
    unfolding placed
    chosen-placed e fs = rw (seat-chosen fs e, held-chosen (seat (slot_of f) fs) in_place fs) (go (held (seat (slot_of f) fs) fs))
      where
        in_place : q (seat (slot_of f) fs) ≡ true
        in_place = seat-passes fs ∙ e

        go : (t : Bool) → chosen q (cond t (swap_in (seat (slot_of f) fs) f fs) (fs ++ (f ∷ [])))
            ≡ cond t (swap_in (seat (slot_of f) fs) f (chosen q fs)) (chosen q fs ++ (f ∷ []))
        go true = chosen-swap (seat (slot_of f) fs) f in_place e fs
        go false = chosen-append f e fs

    pub chosen-placed-out : q (slot_of f) ≡ false → (fs : List (List ℕ)) → chosen q (placed f fs) ≡ chosen q fs
    unfolding placed
    chosen-placed-out e fs = go (held (seat (slot_of f) fs) fs)
      where
        go : (t : Bool) → chosen q (cond t (swap_in (seat (slot_of f) fs) f fs) (fs ++ (f ∷ []))) ≡ chosen q fs
        go true = chosen-swap-out (seat (slot_of f) fs) f (seat-passes fs ∙ e) e fs
        go false = chosen-append-out f e fs

  -- ---- two tests

  -- none is chosen of what passed a test that rules this one out
  pub chosen_none : (p : ℕ → Bool) → ((s : ℕ) → p s ≡ true → q s ≡ false) → (fs : List (List ℕ)) → chosen q (chosen p fs) ≡ []
  unfolding chosen
  chosen_none p out [] = refl
  chosen_none p out (g ∷ fs) = go (chosen_none p out fs) (p (slot_of g)) refl
    where
      go : chosen q (chosen p fs) ≡ [] → (t : Bool) → p (slot_of g) ≡ t → chosen q (cond t (g ∷ chosen p fs) (chosen p fs)) ≡ []
      go ih true a = rw (out (slot_of g) a) ih
      go ih false a = ih

  -- all are chosen of what passed a test that follows from this one
  pub chosen-all : (p : ℕ → Bool) → ((s : ℕ) → p s ≡ false → q s ≡ false) → (fs : List (List ℕ)) → chosen q (chosen p fs) ≡ chosen q fs
  unfolding chosen
  chosen-all p out [] = refl
  chosen-all p out (g ∷ fs) = go (chosen-all p out fs) (p (slot_of g)) refl
    where
      go : chosen q (chosen p fs) ≡ chosen q fs → (t : Bool) → p (slot_of g) ≡ t
          → chosen q (cond t (g ∷ chosen p fs) (chosen p fs)) ≡ cond (q (slot_of g)) (g ∷ chosen q fs) (chosen q fs)
      go ih true a = ap (λ (x : List (List ℕ)). cond (q (slot_of g)) (g ∷ x) x) ih
      go ih false a = rw (out (slot_of g) a) ih

  -- ---- bytes

  -- what is chosen and what is not have all the bytes
  pub flat-parts : (fs : List (List ℕ)) → length (flat fs) ≡ length (flat (chosen q fs)) + length (flat (chosen (λ s. not (q s)) fs))
  unfolding flat chosen
  flat-parts [] = omega arith
  flat-parts (f ∷ fs) = go (flat-parts fs) (q (slot_of f))
    where
      others : List (List ℕ)
      others = chosen (λ s. not (q s)) fs

      go : length (flat fs) ≡ length (flat (chosen q fs)) + length (flat (chosen (λ s. not (q s)) fs)) → (t : Bool)
          → length (f ++ flat fs) ≡ length (flat (cond t (f ∷ chosen q fs) (chosen q fs))) + length
          (flat (cond (not t) (f ∷ chosen (λ s. not (q s)) fs) (chosen (λ s. not (q s)) fs)))
      go ih true = omega (arith, length-append f (flat fs), length-append f (flat (chosen q fs)))
      go ih false = omega (arith, length-append f (flat fs), length-append f (flat (chosen (λ s. not (q s)) fs)))

  -- the bytes of what is chosen are not more
  pub chosen-le : (fs : List (List ℕ)) → length (flat (chosen q fs)) ≤ length (flat fs)
  chosen-le fs = omega (arith, flat-parts fs)

  -- ---- what a book can hold

  pub chosen-absent : (s : ℕ) (fs : List (List ℕ)) → held s fs ≡ false → held s (chosen q fs) ≡ false
  unfolding held chosen
  chosen-absent s [] h = refl
  chosen-absent s (g ∷ fs) h = go (chosen-absent s fs) (q (slot_of g)) (eqb (slot_of g) s) refl h
    where
      go : (held s fs ≡ false → held s (chosen q fs) ≡ false) → (t u : Bool) → eqb (slot_of g) s ≡ u → cond u true (held s fs) ≡ false
          → held s (cond t (g ∷ chosen q fs) (chosen q fs)) ≡ false
      go ih t true e r = absurd (false≢true (sym r))
      go ih true false e r = rw e (ih r)
      go ih false false e r = ih r

  pub sound-chosen : (fs : List (List ℕ)) → Sound fs → Sound (chosen q fs)
  unfolding chosen
  sound-chosen [] S = tt
  sound-chosen (g ∷ fs) S = go (sound-chosen fs S.2) (q (slot_of g))
    where
      go : Sound (chosen q fs) → (t : Bool) → Sound (cond t (g ∷ chosen q fs) (chosen q fs))
      go ih true = (S.0, chosen-absent (slot_of g) fs S.1, ih)
      go ih false = ih

  -- what is held of the chosen frames is held, and its slot passes
  pub held_both : (s : ℕ) (fs : List (List ℕ)) → held s (chosen q fs) ≡ held s fs && q s
  held_both s fs = go (q s) refl (held s fs) refl
    where
      go : (t : Bool) → q s ≡ t → (u : Bool) → held s fs ≡ u → held s (chosen q fs) ≡ u && t
      go true e true h = held-chosen s e fs ∙ h
      go true e false h = chosen-absent s fs h
      go false e true h = chosen-out s e fs
      go false e false h = chosen-out s e fs

  pub forms-chosen : (fs : List (List ℕ)) → OneForm fs → OneForm (chosen q fs)
  forms-chosen fs S s p r = S s (was s p) (was (other s) r)
    where
      was : (j : ℕ) → held j (chosen q fs) ≡ true → held j fs ≡ true
      was j e = go (held j fs) refl
        where
          go : (t : Bool) → held j fs ≡ t → held j fs ≡ true
          go true h = h
          go false h = absurd (false≢true (sym (chosen-absent j fs h) ∙ e))

-- tests that agree on every setting's slot choose the same frames
pub chosen-same : (p q : ℕ → Bool) → ((s : ℕ) → s < settings → p s ≡ q s) → (fs : List (List ℕ)) → Sound fs → chosen p fs ≡ chosen q fs
unfolding chosen
chosen-same p q same [] S = refl
chosen-same p q same (f ∷ fs) S =
    ap₂ (λ (b : Bool) (x : List (List ℕ)). cond b (f ∷ x) x) (same (slot_of f) S.0) (chosen-same p q same fs S.2)
