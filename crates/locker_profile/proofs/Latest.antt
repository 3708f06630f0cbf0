-- What one call leaves of a setting, and a list's answer by its latest frames. Histories are in Shared.antt.
--     turn-latest      what was heard of a call of the whole book tells which frame the list has of a setting after it
--     others-leave     a call that is not about the setting leaves the latest frame, and so does a refused one (`refused-leaves`)
--     about-own        a put is about its own kind alone, where the kind has no second form, as 1, 2 and 4 have none (`no-second-form`)
--     profile-latest   the answer for a list is that of its frames of kinds 1, 2 and 4
-- Assumes nothing.
use mathlib.Core.Path.{ap, refl, sym, ◌∙◌, ◌≡◌}
use mathlib.Core.Bool.{Bool, cond, false, false≢true, true, ◌&&◌, ◌||◌}
use mathlib.Core.List.{List, [], ◌∷◌}
use Prim.Native.Nat.{ℕ, ◌<◌, ◌≤◌}
use native.Mathlib.Omega.{arith}
use borrow.Author.Tests.{eqb-false, eqb-true, ltb-true}
use lib.Dec.{eqb, leb, ltb}
use lib.ListN.{length}
use Rattle.refusal.specs.declared.Refusal.TheVariants.{NoRoom, NotAKind, NotHeld, SettingMissing}
use Rattle.decoder.specs.Decoding.{decode}
use Rattle.table.specs.Table.{settings}
use Rattle.settings.specs.Settings.{lacks, size_of, slot_for, slot_of}
use Rattle.settings.proofs.Settings.{size_low, slot_of-length}
use Rattle.contents.specs.Frames.{flat, held}
use Rattle.reel.specs.Reel.{reel_of}
use Rattle.forms.specs.Forms.{other, other_in}
use Rattle.forms.proofs.Forms.{other-other}
use Rattle.std.specs.Prelude.{Ok, Err}
use Rattle.book.specs.Plain.{Turn, ask_on, become, clear_on, frame_of, placed, put_on, refuse, remove_on, replay_on, tell, without, Answer}
use Rattle.book.specs.History.{Ask, Call, Clear, Make, Put, Remove, Replay, turn}
use Rattle.book.proofs.Kept.{Kept, tell-frames}
use Rattle.book.proofs.Laws.{frame-slot, placed-newest, placed-others, without_gone, without-others}
use Rattle.book.proofs.Placed.{placed-gone}
use Rattle.locker_profile.specs.Profile.{Refused, answered, frame_for, lora_in, profile_of}
use Rattle.locker_profile.specs.Latest.{Latest, answered_by, heard_to, is_about, latest, none}
use Rattle.locker_profile.proofs.Asking.{slots-low}

-- ---- a list's frame as a latest one

-- a frame that is held is not empty
abbrev pub as_latest : List ℕ → Latest
as_latest [] = none
as_latest (x ∷ xs) = latest (x ∷ xs)

pub absent : (s : ℕ) (fs : List (List ℕ)) → held s fs ≡ false → frame_of s fs ≡ []
unfolding held frame_of
absent s [] h = refl
absent s (g ∷ fs) h = by (eqb (slot_of g) s) h (absent s fs)
  where
    by : (t : Bool) → cond t true (held s fs) ≡ false → (held s fs ≡ false → frame_of s fs ≡ []) → cond t g (frame_of s fs) ≡ []
    by true q r = absurd (false≢true (sym q))
    by false q r = r q

setting-latest : (f : List ℕ) → slot_of f < settings → as_latest f ≡ latest f
setting-latest f a = by f (slot_of-length f a) (size_low (slot_of f) a)
  where
    by : (g : List ℕ) → length g ≡ size_of (slot_of f) → 3 ≤ size_of (slot_of f) → as_latest g ≡ latest g
    by [] e h = absurd (omega arith)
    by (x ∷ xs) e h = refl

-- ---- a call on the list

-- a call that is not about a slot leaves its latest frame, and so does one that is refused
pub others-leave : (s : ℕ) (c : Call) (a : Answer) (x : Latest) → is_about s c ≡ false → heard_to s c a x ≡ x
others-leave s c (Err y) x e = refl
others-leave s Make (Ok n) x e = absurd (false≢true (sym e))
others-leave s (Put f) (Ok n) x e = by (eqb (slot_of f) s) (eqb (other (slot_of f)) s) e
  where
    by : (t u : Bool) → t || u ≡ false → cond t (latest f) (cond u none x) ≡ x
    by true u q = absurd (false≢true (sym q))
    by false true q = absurd (false≢true (sym q))
    by false false q = refl
others-leave s (Remove k) (Ok n) x e = rw e
others-leave s (Ask k o) (Ok n) x e = refl
others-leave s Clear (Ok n) x e = absurd (false≢true (sym e))
others-leave s (Replay o) (Ok n) x e = refl

abbrev pub IsRefused : Answer → Type 0
IsRefused (Ok n) = ⊥
IsRefused (Err x) = Unit

pub refused-leaves : (s : ℕ) (c : Call) (a : Answer) (x : Latest) → IsRefused a → heard_to s c a x ≡ x
refused-leaves s c (Ok n) x r = absurd r
refused-leaves s c (Err y) x r = refl

module _ (n s : ℕ) (fs : List (List ℕ)) (K : Kept settings n fs) where
  abbrev is : List (List ℕ) → Latest
  is gs = as_latest (frame_of s gs)

  pub put-latest : (f : List ℕ) → slot_of f < settings
      → cond (eqb (slot_of f) s) (latest f) (cond (eqb (other (slot_of f)) s) none (is fs)) ≡ is (placed f fs)
  put-latest f a = by (eqb (slot_of f) s) refl (eqb (other (slot_of f)) s) refl
    where
      by : (t : Bool) → eqb (slot_of f) s ≡ t → (u : Bool) → eqb (other (slot_of f)) s ≡ u
          → cond t (latest f) (cond u none (is fs)) ≡ is (placed f fs)
      by true e u w =
          sym (setting-latest f a) ∙ sym (ap as_latest (ap (λ (j : ℕ). frame_of j (placed f fs)) (sym (eqb-true _ _ e)) ∙ placed-newest f fs))
      by false e true w =
          let o : other (slot_of f) ≡ s = eqb-true _ _ w in
          let gone = placed-gone f fs K.sound K.forms (λ z. eqb-false _ _ e (sym z ∙ o)) in
          sym (ap as_latest (absent s (placed f fs) (ap (λ (j : ℕ). held j (placed f fs)) (sym o) ∙ gone)))
      by false e false w = sym (ap as_latest (placed-others f fs s (eqb-false _ _ e) (eqb-false _ _ w)))

  pub remove-latest : (k : ℕ) → cond (eqb (slot_for k) s) none (is fs) ≡ is (without (slot_for k) fs)
  remove-latest k = by (eqb (slot_for k) s) refl
    where
      by : (t : Bool) → eqb (slot_for k) s ≡ t → cond t none (is fs) ≡ is (without (slot_for k) fs)
      by true e =
          let o : slot_for k ≡ s = eqb-true _ _ e in
          sym (ap as_latest (absent s (without (slot_for k) fs)
          (ap (λ (j : ℕ). held j (without (slot_for k) fs)) (sym o) ∙ without_gone (slot_for k) fs K.sound)))
      by false e = sym (ap as_latest (without-others (slot_for k) s (eqb-false _ _ e) fs))

  -- what was heard of a call tells what the list has of the slot after it
  pub turn-latest : (c : Call) → heard_to s c (turn n c fs).answer (is fs) ≡ is (turn n c fs).frames
  unfolding turn put_on remove_on ask_on clear_on replay_on frame_of
  turn-latest Make = refl
  turn-latest (Put f) = by (ltb (slot_of f) settings) refl (leb (length (flat (placed f fs))) n)
    where
      picked : Bool → Bool → Turn
      picked t u = cond t (cond u (become [] (placed f fs)) (refuse NoRoom [] fs)) (refuse (lacks (decode f)) [] fs)

      by : (t : Bool) → ltb (slot_of f) settings ≡ t → (u : Bool) → heard_to s (Put f) (picked t u).answer (is fs) ≡ is (picked t u).frames
      by true e true = put-latest f (ltb-true _ _ e)
      by true e false = refl
      by false e u = refl
  turn-latest (Remove k) = by (ltb (slot_for k) settings) (held (slot_for k) fs)
    where
      picked : Bool → Bool → Turn
      picked t u = cond t (cond u (become [] (without (slot_for k) fs)) (refuse NotHeld [] fs)) (refuse NotAKind [] fs)

      by : (t u : Bool) → heard_to s (Remove k) (picked t u).answer (is fs) ≡ is (picked t u).frames
      by true true = remove-latest k
      by true false = refl
      by false u = refl
  turn-latest (Ask k o) = others-leave s (Ask k o) (turn n (Ask k o) fs).answer (is fs) refl ∙ sym (ap is (frames (ltb (slot_for k) settings) (held (slot_for k) fs)))
    where
      frames : (t u : Bool) → (cond {A = Turn} t (cond u (tell (frame_of (slot_for k) fs) o fs) (refuse NotHeld o fs)) (refuse NotAKind o fs)).frames ≡ fs
      frames true true = tell-frames (frame_of (slot_for k) fs) o fs
      frames true false = refl
      frames false u = refl
  turn-latest Clear = refl
  turn-latest (Replay o) = others-leave s (Replay o) (turn n (Replay o) fs).answer (is fs) refl ∙ sym (ap is (tell-frames (reel_of fs) o fs))

-- ---- a list's answer by its latest frames

module _ (s : ℕ) (a : s < settings) (fs : List (List ℕ)) where
  there : held s fs ≡ true → as_latest (frame_of s fs) ≡ latest (frame_of s fs)
  there h = let e = frame-slot s fs h in setting-latest (frame_of s fs) (omega (arith, e))

  gone : held s fs ≡ false → as_latest (frame_of s fs) ≡ none
  gone h = ap as_latest (absent s fs h)

pub profile-latest : (fs : List (List ℕ))
    → profile_of fs ≡ answered_by (as_latest (frame_for 1 fs)) (as_latest (frame_for 2 fs)) (as_latest (frame_for 4 fs))
unfolding profile_of
profile-latest fs = by (held (slot_for 1) fs) refl (held (slot_for 2) fs) refl (held (slot_for 4) fs) refl
  where
    by : (x : Bool) → held (slot_for 1) fs ≡ x → (y : Bool) → held (slot_for 2) fs ≡ y → (z : Bool) → held (slot_for 4) fs ≡ z
        → cond (x && (y && z)) (answered (lora_in fs)) (Refused SettingMissing)
        ≡ answered_by (as_latest (frame_for 1 fs)) (as_latest (frame_for 2 fs)) (as_latest (frame_for 4 fs))
    by false e y f z g = rw (gone (slot_for 1) slots-low.0 fs e)
    by true e false f z g = rw (there (slot_for 1) slots-low.0 fs e, gone (slot_for 2) slots-low.1.0 fs f)
    by true e true f false g =
        rw (there (slot_for 1) slots-low.0 fs e, there (slot_for 2) slots-low.1.0 fs f, gone (slot_for 4) slots-low.1.1 fs g)
    by true e true f true g =
        rw (there (slot_for 1) slots-low.0 fs e, there (slot_for 2) slots-low.1.0 fs f, there (slot_for 4) slots-low.1.1 fs g)

-- ---- a put of another kind

-- a put of a setting without a second form is about its own slot alone; kinds 1, 2 and 4 are such
pub about-own : (s : ℕ) → other s ≡ s → (f : List ℕ) → is_about s (Put f) ≡ eqb (slot_of f) s
about-own s o f = by (eqb (slot_of f) s) refl (eqb (other (slot_of f)) s) refl
  where
    by : (t : Bool) → eqb (slot_of f) s ≡ t → (u : Bool) → eqb (other (slot_of f)) s ≡ u → t || u ≡ t
    by true e u w = refl
    by false e false w = refl
    by false e true w = absurd (eqb-false _ _ e (sym (other-other (slot_of f)) ∙ ap other (eqb-true _ _ w) ∙ o))

pub no-second-form : (other (slot_for 1) ≡ slot_for 1) × ((other (slot_for 2) ≡ slot_for 2) × (other (slot_for 4) ≡ slot_for 4))
unfolding other other_in slot_for
no-second-form = (refl, (refl, refl))
