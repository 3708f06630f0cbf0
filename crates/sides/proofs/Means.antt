-- A side's calls made of the book's own, on the joint list: once 17 and 18 are ruled out, a put that fits the quota, a removal and an ask are the
-- book's own step (`put-means`, `remove-means`, `ask-means`), and a clear is the book's removals of the side's kinds (`emptied-rest`).
-- Assumes nothing.
use mathlib.Core.Path.{ap, refl, subst, sym, ◌∙◌, ◌≡◌}
use mathlib.Core.Bool.{Bool, cond, false, false≢true, not, true, ◌&&◌}
use mathlib.Core.List.{List, [], ◌++◌, ◌∷◌}
use Prim.Native.Nat.{suc, zero, ℕ, ◌+◌, ◌<◌, ◌≤◌}
use native.Mathlib.Omega.{arith}
use borrow.Author.Tests.{eqb-true, le-leb, le-ltb, lt-leb, lt-ltb, ltb-false, ne_eqb}
use lib.Dec.{T, eqb, leb, ltb}
use lib.ListN.{drop, length}
use Rattle.refusal.specs.declared.Refusal.TheVariants.{NoRoom, NotAKind, NotHeld, OutputShort}
use Rattle.table.specs.Table.{action, kinds, settings}
use Rattle.table.proofs.Below.{below, below_at}
use Rattle.settings.specs.Settings.{slot_for, slot_of}
use Rattle.contents.specs.Frames.{flat, held}
use Rattle.contents.proofs.Shape.{Sound, Within}
use Rattle.contents.proofs.Offsets.{within_held}
use Rattle.owners.specs.Owners.{OwnerTable, owns, quota_of}
use Rattle.std.specs.Prelude.{Ok}
use Rattle.book.specs.Plain.{Turn, ask_on, become, frame_of, placed, put_on, refuse, remove_on, tell, without}
use Rattle.book.proofs.Placed.{placed-sound}
use Rattle.sides.specs.Parts.{chosen, part_of, rest_of, within_quotas}
use Rattle.sides.specs.Calls.{Ask, Put, Remove, amid, barred, foreign, may_call, side_on}
use Rattle.sides.specs.Means.{emptied}
use Rattle.sides.proofs.Parts.{chosen-absent, chosen-same, frame-chosen, held-chosen, sound-chosen}
use Rattle.sides.proofs.Views.{own-slot, quotas-fit}
use Rattle.sides.proofs.Quotas.{quotas-within, side-within}
use Rattle.sides.proofs.Answers.{may-call, side-step}

module _ (m : ℕ) (t : OwnerTable) (w room : ℕ) (fs : List (List ℕ)) (may : may_call m t w room (part_of t 1 fs) (part_of t 2 fs) ≡ true) where
  -- ---- remove, ask

  pub remove-means : (k : ℕ) (o : List ℕ) → barred t w (Remove k) ≡ false → side_on m t w (Remove k) o room fs ≡ remove_on k o room fs
  unfolding remove_on barred
  remove-means k o u = side-step m t w room fs may (Remove k) o u ∙ go (ltb (slot_for k) settings) refl
    where
      by : (y : Bool)
          → amid (cond y (become o (without (slot_for k) (part_of t w fs))) (refuse NotHeld o (part_of t w fs))) (without (slot_for k) fs) fs
          ≡ cond y (become o (without (slot_for k) fs)) (refuse NotHeld o fs)
      by true = refl
      by false = refl

      go : (x : Bool) → ltb (slot_for k) settings ≡ x
          → amid (cond x (cond (held (slot_for k) (part_of t w fs)) (become o (without (slot_for k) (part_of t w fs))) (refuse NotHeld o (part_of t w fs)))
          (refuse NotAKind o (part_of t w fs))) (without (slot_for k) fs) fs
          ≡ cond x (cond (held (slot_for k) fs) (become o (without (slot_for k) fs)) (refuse NotHeld o fs)) (refuse NotAKind o fs)
      go true e = rw (held-chosen (owns t.owners w) (slot_for k) (own-slot t w (slot_for k) u e) fs) (by (held (slot_for k) fs))
      go false e = refl

  tell-means : (x o : List ℕ) → amid (tell x o (part_of t w fs)) fs fs ≡ tell x o fs
  tell-means x o = go (leb (length x) (length o))
    where
      go : (y : Bool)
          → amid (cond {A = Turn} y (record { answer = Ok (length x); output = x ++ drop (length x) o; frames = part_of t w fs })
          (refuse OutputShort o (part_of t w fs))) fs fs
          ≡ cond {A = Turn} y (record { answer = Ok (length x); output = x ++ drop (length x) o; frames = fs }) (refuse OutputShort o fs)
      go true = refl
      go false = refl

  pub ask-means : Within m fs → (k : ℕ) (o : List ℕ) → barred t w (Ask k) ≡ false → side_on m t w (Ask k) o room fs ≡ ask_on k o room fs
  unfolding ask_on barred
  ask-means W k o u = side-step m t w room fs may (Ask k) o u ∙ go (ltb (slot_for k) settings) refl
    where
      by : (y : Bool)
          → amid (cond y (tell (frame_of (slot_for k) fs) o (part_of t w fs)) (refuse NotHeld o (part_of t w fs))) fs fs
          ≡ cond y (tell (frame_of (slot_for k) fs) o fs) (refuse NotHeld o fs)
      by true = tell-means (frame_of (slot_for k) fs) o
      by false = refl

      go : (x : Bool) → ltb (slot_for k) settings ≡ x
          → amid (cond x (cond (held (slot_for k) (part_of t w fs)) (tell (frame_of (slot_for k) (part_of t w fs)) o (part_of t w fs))
          (refuse NotHeld o (part_of t w fs)))
          (refuse NotAKind o (part_of t w fs))) fs fs
          ≡ cond x (cond (held (slot_for k) fs) (tell (frame_of (slot_for k) fs) o fs) (refuse NotHeld o fs)) (refuse NotAKind o fs)
      go true e = entry (ltb (slot_for k) (length t.owners)) refl u
        where
          -- a slot that the table has an entry for is the side's; one that it has none for is not held
          entry : (y : Bool) → ltb (slot_for k) (length t.owners) ≡ y → foreign t w (cond y (slot_for k) action) ≡ false
              → amid (cond (held (slot_for k) (part_of t w fs)) (tell (frame_of (slot_for k) (part_of t w fs)) o (part_of t w fs))
              (refuse NotHeld o (part_of t w fs))) fs fs
              ≡ cond (held (slot_for k) fs) (tell (frame_of (slot_for k) fs) o fs) (refuse NotHeld o fs)
          entry true q v =
              let own : owns t.owners w (slot_for k) ≡ true = own-slot t w (slot_for k) v e in
              rw (held-chosen (owns t.owners w) (slot_for k) own fs, frame-chosen (owns t.owners w) (slot_for k) own fs) (by (held (slot_for k) fs))
          entry false q v =
              let M = may-call m t w room (part_of t 1 fs) (part_of t 2 fs) may in
              let n = M.right.entries in
              let h : held (slot_for k) fs ≡ false = within_held m fs W (slot_for k) (omega (arith, ltb-false (slot_for k) (length t.owners) q)) in
              rw (chosen-absent (owns t.owners w) (slot_for k) fs h, h)
      go false e = refl

  -- ---- put

  -- what is no setting's frame is refused as the book refuses it
  pub put-none : (f o : List ℕ) → settings ≤ slot_of f → barred t w (Put f) ≡ false → side_on m t w (Put f) o room fs ≡ put_on f o room fs
  unfolding put_on
  put-none f o a u = side-step m t w room fs may (Put f) o u ∙ rw (le-ltb (slot_of f) settings a)

  pub put_full : (f o : List ℕ) → slot_of f < settings → barred t w (Put f) ≡ false → quota_of t w < length (flat (placed f (part_of t w fs)))
      → side_on m t w (Put f) o room fs ≡ refuse NoRoom o fs
  unfolding put_on
  put_full f o a u h =
      side-step m t w room fs may (Put f) o u ∙ rw (lt-ltb (slot_of f) settings a, lt-leb (length (flat (placed f (part_of t w fs)))) (quota_of t w) h)

  side-placed : (f o : List ℕ) → slot_of f < settings → barred t w (Put f) ≡ false → length (flat (placed f (part_of t w fs))) ≤ quota_of t w
      → side_on m t w (Put f) o room fs ≡ become o (placed f fs)
  unfolding put_on
  side-placed f o a u h =
      side-step m t w room fs may (Put f) o u ∙ rw (lt-ltb (slot_of f) settings a, le-leb (length (flat (placed f (part_of t w fs)))) (quota_of t w) h)

  -- a frame that fits the quota is put by the book's own put, in the book's room
  pub put-means : settings ≤ m → Sound fs → (f o : List ℕ) → slot_of f < settings → barred t w (Put f) ≡ false
      → length (flat (placed f (part_of t w fs))) ≤ quota_of t w → side_on m t w (Put f) o room fs ≡ put_on f o room fs
  unfolding put_on
  put-means big S f o a u h =
      let M = may-call m t w room (part_of t 1 fs) (part_of t 2 fs) may in
      let e : side_on m t w (Put f) o room fs ≡ become o (placed f fs) = side-placed f o a u h in
      let was = quotas-within t (part_of t 1 fs) (part_of t 2 fs) M.first M.second in
      let q : within_quotas t (part_of t 1 (placed f fs)) (part_of t 2 (placed f fs)) ≡ true =
      subst (λ (x : Turn). within_quotas t (part_of t 1 x.frames) (part_of t 2 x.frames) ≡ true) e (side-within m room t fs was w (Put f) o) in
      e
      ∙ sym (rw (
        lt-ltb (slot_of f) settings a,
        le-leb (length (flat (placed f fs))) room
            (quotas-fit m room t M.right big (placed f fs) (placed-sound f fs a S) q),
      ))

-- ---- clear

-- a test that every slot passes
chosen-every : (fs : List (List ℕ)) → chosen (λ s. true) fs ≡ fs
unfolding chosen
chosen-every [] = refl
chosen-every (f ∷ fs) = ap (λ (x : List (List ℕ)). f ∷ x) (chosen-every fs)

-- two tests, one after the other
chosen-twice : (p q : ℕ → Bool) (fs : List (List ℕ)) → chosen p (chosen q fs) ≡ chosen (λ s. q s && p s) fs
unfolding chosen
chosen-twice p q [] = refl
chosen-twice p q (f ∷ fs) = go (chosen-twice p q fs) (q (slot_of f))
  where
    go : chosen p (chosen q fs) ≡ chosen (λ s. q s && p s) fs → (t : Bool)
        → chosen p (cond t (f ∷ chosen q fs) (chosen q fs)) ≡ cond (t && p (slot_of f)) (f ∷ chosen (λ s. q s && p s) fs) (chosen (λ s. q s && p s) fs)
    go ih true = ap (λ (x : List (List ℕ)). cond (p (slot_of f)) (f ∷ x) x) ih
    go ih false = ih

-- what is not held is not missed
absent-chosen : (s : ℕ) (fs : List (List ℕ)) → held s fs ≡ false → chosen (λ j. not (eqb j s)) fs ≡ fs
unfolding held chosen
absent-chosen s [] h = refl
absent-chosen s (f ∷ fs) h = go (absent-chosen s fs) (eqb (slot_of f) s) h
  where
    go : (held s fs ≡ false → chosen (λ j. not (eqb j s)) fs ≡ fs) → (t : Bool) → cond t true (held s fs) ≡ false
        → cond (not t) (f ∷ chosen (λ j. not (eqb j s)) fs) (chosen (λ j. not (eqb j s)) fs) ≡ f ∷ fs
    go ih true q = absurd (false≢true (sym q))
    go ih false q = ap (λ (x : List (List ℕ)). f ∷ x) (ih q)

-- a removal leaves the frames of all other slots
without-chosen : (s : ℕ) (fs : List (List ℕ)) → Sound fs → without s fs ≡ chosen (λ j. not (eqb j s)) fs
unfolding without chosen
without-chosen s [] S = refl
without-chosen s (f ∷ fs) S = go (without-chosen s fs S.2) (eqb (slot_of f) s) refl
  where
    go : without s fs ≡ chosen (λ j. not (eqb j s)) fs → (t : Bool) → eqb (slot_of f) s ≡ t
        → cond t fs (f ∷ without s fs) ≡ cond (not t) (f ∷ chosen (λ j. not (eqb j s)) fs) (chosen (λ j. not (eqb j s)) fs)
    go ih true e = sym (absent-chosen s fs (ap (λ (x : ℕ). held x fs) (sym (eqb-true (slot_of f) s e)) ∙ S.1))
    go ih false e = ap (λ (x : List (List ℕ)). f ∷ x) ih

-- no frame has a slot past the settings
sound-absent : (s : ℕ) → settings ≤ s → (fs : List (List ℕ)) → Sound fs → held s fs ≡ false
unfolding held
sound-absent s h [] S = refl
sound-absent s h (f ∷ fs) S = rw (ne_eqb (slot_of f) s (λ e. absurd (omega (arith, S.0)))) (sound-absent s h fs S.2)

-- the book's removal of any kind, held or not
remove-chosen : (k : ℕ) (o : List ℕ) (room : ℕ) (fs : List (List ℕ)) → Sound fs → (remove_on k o room fs).frames ≡ chosen (λ j. not (eqb j (slot_for k))) fs
unfolding remove_on
remove-chosen k o room fs S = go (ltb (slot_for k) settings) refl (held (slot_for k) fs) refl
  where
    go : (x : Bool) → ltb (slot_for k) settings ≡ x → (y : Bool) → held (slot_for k) fs ≡ y
        → (cond {A = Turn} x (cond y (become o (without (slot_for k) fs)) (refuse NotHeld o fs)) (refuse NotAKind o fs)).frames
        ≡ chosen (λ j. not (eqb j (slot_for k))) fs
    go true p true q = without-chosen (slot_for k) fs S
    go true p false q = sym (absent-chosen (slot_for k) fs q)
    go false p y q = sym (absent-chosen (slot_for k) fs (sound-absent (slot_for k) (ltb-false (slot_for k) settings p) fs S))

-- whether a slot is one that is emptied
unfoldable taken : (ℕ → Bool) → ℕ → ℕ → ℕ → Bool
taken q zero k s = false
taken q (suc n) k s = cond (q (slot_for k)) (cond (eqb s (slot_for k)) true (taken q n (k + 1) s)) (taken q n (k + 1) s)

both-not : (x y : Bool) → not x && not y ≡ not (cond x true y)
both-not true y = refl
both-not false y = refl

emptied-chosen : (q : ℕ → Bool) (n k : ℕ) (fs : List (List ℕ)) → Sound fs → emptied q n k fs ≡ chosen (λ s. not (taken q n k s)) fs
unfolding emptied taken
emptied-chosen q zero k fs S = sym (chosen-every fs)
emptied-chosen q (suc n) k fs S = go (emptied-chosen q n (k + 1)) (q (slot_for k))
  where
    go : ((gs : List (List ℕ)) → Sound gs → emptied q n (k + 1) gs ≡ chosen (λ s. not (taken q n (k + 1) s)) gs) → (x : Bool)
        → emptied q n (k + 1) (cond x (remove_on k [] 0 fs).frames fs)
        ≡ chosen (λ s. not (cond x (cond (eqb s (slot_for k)) true (taken q n (k + 1) s)) (taken q n (k + 1) s))) fs
    go ih false = ih fs S
    go ih true =
        ap (emptied q n (k + 1)) (remove-chosen k [] 0 fs S)
        ∙ ih (chosen (λ j. not (eqb j (slot_for k))) fs) (sound-chosen (λ j. not (eqb j (slot_for k))) fs S)
        ∙ chosen-twice (λ s. not (taken q n (k + 1) s)) (λ j. not (eqb j (slot_for k))) fs
        ∙ chosen-same (λ s. not (eqb s (slot_for k)) && not (taken q n (k + 1) s)) (λ s. not (cond (eqb s (slot_for k)) true (taken q n (k + 1) s)))
        (λ s a. both-not (eqb s (slot_for k)) (taken q n (k + 1) s)) fs S

-- whether one of the n kinds from k on has the slot
unfoldable covered : ℕ → ℕ → ℕ → Bool
covered zero k s = false
covered (suc n) k s = cond (eqb s (slot_for k)) true (covered n (k + 1) s)

-- each setting's slot has a kind
all-covered : T (below (covered kinds 1) settings)
unfolding below covered slot_for
all-covered = tt

slot-covered : (s : ℕ) → s < settings → covered kinds 1 s ≡ true
slot-covered s a = is_true (covered kinds 1 s) (below_at (covered kinds 1) settings s all-covered a)
  where
    is_true : (x : Bool) → T x → x ≡ true
    is_true true e = refl
    is_true false e = elim e [ ]

taken_not : (q : ℕ → Bool) (n k s : ℕ) → q s ≡ false → taken q n k s ≡ false
unfolding taken
taken_not q zero k s e = refl
taken_not q (suc n) k s e = go (taken_not q n (k + 1) s e) (q (slot_for k)) refl (eqb s (slot_for k)) refl
  where
    go : taken q n (k + 1) s ≡ false → (x : Bool) → q (slot_for k) ≡ x → (y : Bool) → eqb s (slot_for k) ≡ y
        → cond x (cond y true (taken q n (k + 1) s)) (taken q n (k + 1) s) ≡ false
    go ih true p true r = absurd (false≢true (sym e ∙ ap q (eqb-true s (slot_for k) r) ∙ p))
    go ih true p false r = ih
    go ih false p y r = ih

taken-all : (q : ℕ → Bool) (n k s : ℕ) → q s ≡ true → covered n k s ≡ true → taken q n k s ≡ true
unfolding taken covered
taken-all q zero k s e h = absurd (false≢true h)
taken-all q (suc n) k s e h = go (taken-all q n (k + 1) s e) (q (slot_for k)) refl (eqb s (slot_for k)) refl h
  where
    go : (covered n (k + 1) s ≡ true → taken q n (k + 1) s ≡ true) → (x : Bool) → q (slot_for k) ≡ x → (y : Bool) → eqb s (slot_for k) ≡ y
        → cond y true (covered n (k + 1) s) ≡ true → cond x (cond y true (taken q n (k + 1) s)) (taken q n (k + 1) s) ≡ true
    go ih true p true r z = refl
    go ih true p false r z = ih z
    go ih false p true r z = absurd (false≢true (sym p ∙ ap q (sym (eqb-true s (slot_for k) r)) ∙ e))
    go ih false p false r z = ih z

-- The book's removals of a side's kinds, each in turn, leave all other frames.
pub emptied-rest : (t : OwnerTable) (w : ℕ) (fs : List (List ℕ)) → Sound fs → emptied (owns t.owners w) kinds 1 fs ≡ rest_of t w fs
emptied-rest t w fs S =
    emptied-chosen (owns t.owners w) kinds 1 fs S
    ∙ chosen-same (λ s. not (taken (owns t.owners w) kinds 1 s)) (λ s. not (owns t.owners w s)) (λ s a. ap not (go s a (owns t.owners w s) refl)) fs S
  where
    go : (s : ℕ) → s < settings → (x : Bool) → owns t.owners w s ≡ x → taken (owns t.owners w) kinds 1 s ≡ owns t.owners w s
    go s a true e = taken-all (owns t.owners w) kinds 1 s e (slot-covered s a) ∙ sym e
    go s a false e = taken_not (owns t.owners w) kinds 1 s e ∙ sym e
