-- A put on the list. Its frame goes over the one of its kind, or in the place of the other form's, or behind all others (`by_place`); after
-- it the other form is not held (`placed-gone`), and the list is still one that a book can hold (`placed-sound`, `placed-forms`).
-- Assumes nothing.
use mathlib.Core.Path.{ap, refl, subst, sym, ◌∙◌, ◌≡◌}
use mathlib.Core.Bool.{Bool, cond, false, false≢true, true}
use mathlib.Core.List.{List, [], ◌++◌, ◌∷◌}
use Prim.Native.Nat.{ℕ, ◌<◌}
use borrow.Author.Tests.{eqb-false, eqb-true, ne_eqb}
use lib.Dec.{eqb}
use Rattle.table.specs.Table.{settings}
use Rattle.settings.specs.Settings.{slot_of}
use Rattle.contents.specs.Frames.{held}
use Rattle.contents.proofs.Shape.{Sound}
use Rattle.forms.specs.Forms.{other}
use Rattle.forms.proofs.Forms.{OneForm, other-other}
use Rattle.book.specs.Plain.{placed, seat, swap_in}

-- ---- where the frame goes

module _ (f : List ℕ) (fs : List (List ℕ)) where
  pub placed-over : held (slot_of f) fs ≡ true → placed f fs ≡ swap_in (slot_of f) f fs
  unfolding placed seat
  placed-over h = rw (h, h)

  module _ (h : held (slot_of f) fs ≡ false) where
    pub placed-swap : held (other (slot_of f)) fs ≡ true → placed f fs ≡ swap_in (other (slot_of f)) f fs
    unfolding placed seat
    placed-swap q = rw (h, q)

    pub placed-last : held (other (slot_of f)) fs ≡ false → placed f fs ≡ fs ++ (f ∷ [])
    unfolding placed seat
    placed-last q = rw (h, q)

  -- what holds in each of the three cases holds of the list after the put
  pub by_place : (P : List (List ℕ) → Type 0) → (held (slot_of f) fs ≡ true → P (swap_in (slot_of f) f fs))
      → (held (slot_of f) fs ≡ false → held (other (slot_of f)) fs ≡ true → P (swap_in (other (slot_of f)) f fs))
      → (held (slot_of f) fs ≡ false → held (other (slot_of f)) fs ≡ false → P (fs ++ (f ∷ []))) → P (placed f fs)
  by_place P over swap last = go (held (slot_of f) fs) refl (held (other (slot_of f)) fs) refl
    where
      go : (t : Bool) → held (slot_of f) fs ≡ t → (u : Bool) → held (other (slot_of f)) fs ≡ u → P (placed f fs)
      go true h u q = subst P (sym (placed-over h)) (over h)
      go false h true q = subst P (sym (placed-swap h q)) (swap h q)
      go false h false q = subst P (sym (placed-last h q)) (last h q)

-- ---- what is held

pub held_cons : (j : ℕ) (g : List ℕ) (fs : List (List ℕ)) → held j (g ∷ fs) ≡ false → (slot_of g ≡ j → ⊥) × (held j fs ≡ false)
unfolding held
held_cons j g fs h = go (eqb (slot_of g) j) refl h
  where
    go : (t : Bool) → eqb (slot_of g) j ≡ t → cond t true (held j fs) ≡ false → (slot_of g ≡ j → ⊥) × (held j fs ≡ false)
    go true w q = absurd (false≢true (sym q))
    go false w q = (eqb-false _ _ w, q)

-- what a swap does not bring is not held after it
held-swap-out : (k : ℕ) (f : List ℕ) (j : ℕ) → (slot_of f ≡ j → ⊥) → (fs : List (List ℕ)) → held j fs ≡ false → held j (swap_in k f fs) ≡ false
unfolding held swap_in
held-swap-out k f j n [] h = refl
held-swap-out k f j n (g ∷ fs) h = go (held-swap-out k f j n fs) (eqb (slot_of g) k) (held_cons j g fs h)
  where
    go : (held j fs ≡ false → held j (swap_in k f fs) ≡ false) → (t : Bool) → (slot_of g ≡ j → ⊥) × (held j fs ≡ false)
        → held j (cond t (f ∷ fs) (g ∷ swap_in k f fs)) ≡ false
    go ih true z = rw (ne_eqb (slot_of f) j n) z.1
    go ih false z = rw (ne_eqb (slot_of g) j z.0) (ih z.1)

-- the slot that a swap takes the place of is gone
held-swap-gone : (k : ℕ) (f : List ℕ) → (slot_of f ≡ k → ⊥) → (fs : List (List ℕ)) → Sound fs → held k (swap_in k f fs) ≡ false
unfolding held swap_in
held-swap-gone k f n [] s = refl
held-swap-gone k f n (g ∷ fs) s = go (held-swap-gone k f n fs s.2) (eqb (slot_of g) k) refl
  where
    go : held k (swap_in k f fs) ≡ false → (t : Bool) → eqb (slot_of g) k ≡ t → held k (cond t (f ∷ fs) (g ∷ swap_in k f fs)) ≡ false
    go ih true w = rw (ne_eqb (slot_of f) k n) (ap (λ (x : ℕ). held x fs) (sym (eqb-true _ _ w)) ∙ s.1)
    go ih false w = rw w ih

-- f takes the place of its own slot's frame, or of another's where its own is not held
sound-swap : (k : ℕ) (f : List ℕ) → slot_of f < settings → (fs : List (List ℕ)) → ((slot_of f ≡ k → ⊥) → held (slot_of f) fs ≡ false) → Sound fs
    → Sound (swap_in k f fs)
unfolding swap_in
sound-swap k f a [] r s = tt
sound-swap k f a (g ∷ fs) r s =
    go (sound-swap k f a fs (λ n. (held_cons (slot_of f) g fs (r n)).1) s.2) (eqb (slot_of g) k) refl (eqb (slot_of f) k) refl
  where
    go : Sound (swap_in k f fs) → (t : Bool) → eqb (slot_of g) k ≡ t → (u : Bool) → eqb (slot_of f) k ≡ u → Sound (cond t (f ∷ fs) (g ∷ swap_in k f fs))
    go ih true e true w = (a, ap (λ (j : ℕ). held j fs) (eqb-true _ _ w ∙ sym (eqb-true _ _ e)) ∙ s.1, s.2)
    go ih true e false w = (a, (held_cons (slot_of f) g fs (r (eqb-false _ _ w))).1, s.2)
    go ih false e u w =
        let apart : slot_of f ≡ slot_of g → ⊥ = λ z. (held_cons (slot_of f) g fs (r (λ y. eqb-false _ _ e (sym z ∙ y)))).0 (sym z) in
        (s.0, held-swap-out k f (slot_of g) apart fs s.1, ih)

held-append : (f : List ℕ) (j : ℕ) (fs : List (List ℕ)) → held j fs ≡ false → (slot_of f ≡ j → ⊥) → held j (fs ++ (f ∷ [])) ≡ false
unfolding held
held-append f j [] h n = rw (ne_eqb (slot_of f) j n)
held-append f j (g ∷ fs) h n = go (λ q. held-append f j fs q n) (eqb (slot_of g) j) h
  where
    go : (held j fs ≡ false → held j (fs ++ (f ∷ [])) ≡ false) → (t : Bool) → cond t true (held j fs) ≡ false → cond t true (held j (fs ++ (f ∷ []))) ≡ false
    go ih true q = absurd (false≢true (sym q))
    go ih false q = ih q

sound-append : (f : List ℕ) (fs : List (List ℕ)) → slot_of f < settings → held (slot_of f) fs ≡ false → Sound fs → Sound (fs ++ (f ∷ []))
unfolding held
sound-append f [] a h s = (a, refl, tt)
sound-append f (g ∷ fs) a h s = go (λ q. sound-append f fs a q s.2) (eqb (slot_of g) (slot_of f)) refl h
  where
    go : (held (slot_of f) fs ≡ false → Sound (fs ++ (f ∷ []))) → (t : Bool) → eqb (slot_of g) (slot_of f) ≡ t → cond t true (held (slot_of f) fs) ≡ false
        → Sound (g ∷ (fs ++ (f ∷ [])))
    go ih true w q = absurd (false≢true (sym q))
    go ih false w q = (s.0, held-append f (slot_of g) fs s.1 (λ e. eqb-false _ _ w (sym e)), ih q)

-- ---- a put keeps what a book can hold

pub placed-sound : (f : List ℕ) (fs : List (List ℕ)) → slot_of f < settings → Sound fs → Sound (placed f fs)
placed-sound f fs a s =
    by_place f fs Sound (λ h. sound-swap (slot_of f) f a fs (λ n. absurd (n refl)) s) (λ h q. sound-swap (other (slot_of f)) f a fs (λ n. h) s)
    (λ h q. sound-append f fs a h s)

-- a put brings no slot but its own
placed-out : (f : List ℕ) (fs : List (List ℕ)) (j : ℕ) → (slot_of f ≡ j → ⊥) → held j fs ≡ false → held j (placed f fs) ≡ false
placed-out f fs j n h =
    by_place f fs (λ gs. held j gs ≡ false) (λ e. held-swap-out (slot_of f) f j n fs h) (λ e q. held-swap-out (other (slot_of f)) f j n fs h)
    (λ e q. held-append f j fs h n)

module _ (f : List ℕ) (fs : List (List ℕ)) (s : Sound fs) (S : OneForm fs) where
  -- after a put of one form the other is not held
  pub placed-gone : (other (slot_of f) ≡ slot_of f → ⊥) → held (other (slot_of f)) (placed f fs) ≡ false
  placed-gone n =
      by_place f fs (λ gs. held (other (slot_of f)) gs ≡ false) (λ h. held-swap-out (slot_of f) f (other (slot_of f)) (λ z. n (sym z)) fs (not-both h))
      (λ h q. held-swap-gone (other (slot_of f)) f (λ z. n (sym z)) fs s) (λ h q. held-append f (other (slot_of f)) fs q (λ z. n (sym z)))
    where
      not-both : held (slot_of f) fs ≡ true → held (other (slot_of f)) fs ≡ false
      not-both h = go (held (other (slot_of f)) fs) refl
        where
          go : (t : Bool) → held (other (slot_of f)) fs ≡ t → t ≡ false
          go true q = absurd (n (S (slot_of f) h q))
          go false q = refl

  -- a slot whose form is put, with its other form held after it, has no other form
  own-form : (j : ℕ) → slot_of f ≡ j → held (other j) (placed f fs) ≡ true → other j ≡ j
  own-form j e q = go (eqb (other (slot_of f)) (slot_of f)) refl
    where
      go : (t : Bool) → eqb (other (slot_of f)) (slot_of f) ≡ t → other j ≡ j
      go true w = ap other (sym e) ∙ eqb-true _ _ w ∙ e
      go false w = absurd (false≢true (sym (placed-gone (eqb-false _ _ w)) ∙ ap (λ (x : ℕ). held (other x) (placed f fs)) e ∙ q))

  pub placed-forms : OneForm (placed f fs)
  placed-forms j p q = go (eqb (slot_of f) j) refl (eqb (slot_of f) (other j)) refl (held j fs) refl (held (other j) fs) refl
    where
      go : (t : Bool) → eqb (slot_of f) j ≡ t → (u : Bool) → eqb (slot_of f) (other j) ≡ u → (x : Bool) → held j fs ≡ x → (y : Bool) → held (other j) fs ≡ y
          → other j ≡ j
      go true w u z x g y h = own-form j (eqb-true _ _ w) q
      go false w true z x g y h =
          let d : other (other j) ≡ other j = own-form (other j) (eqb-true _ _ z) (ap (λ (i : ℕ). held i (placed f fs)) (other-other j) ∙ p) in
          sym d ∙ other-other j
      go false w false z false g y h = absurd (false≢true (sym (placed-out f fs j (eqb-false _ _ w) g) ∙ p))
      go false w false z true g false h = absurd (false≢true (sym (placed-out f fs (other j) (eqb-false _ _ z) h) ∙ q))
      go false w false z true g true h = S j g h
