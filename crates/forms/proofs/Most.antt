-- How much a list with one form of each setting can hold: so many bytes of frames (`most_bytes_lem`), so many frames (`most-frames`). Twice the sum over
-- the slots is the sum of a slot's share and its other form's, since the other forms are the slots in another order. And a list that holds
-- every setting in its longest form holds that much (`full-bytes`, `full-frames`).
-- Assumes nothing.
use mathlib.Core.Path.{ap, ap₂, refl, sym, ◌∙◌, ◌≡◌}
use mathlib.Core.Bool.{Bool, cond, false, true}
use mathlib.Core.List.{List}
use Prim.Native.Nat.{suc, zero, ℕ, ◌+◌, ◌<◌, ◌≤◌}
use native.Mathlib.Nat.{le_refl}
use native.Mathlib.Omega.{arith}
use borrow.Author.Tests.{eqb-false, eqb-true, le-leb, leb-false, leb-true}
use lib.Dec.{eqb, leb}
use lib.ListN.{length}
use Rattle.table.specs.Table.{settings}
use Rattle.settings.specs.Settings.{lengths, size_of, slot_for}
use Rattle.contents.specs.Frames.{flat, held}
use Rattle.contents.proofs.Shape.{Sound, count_held, sound-within, sum-held, sum_from, sum_of}
use Rattle.forms.specs.Forms.{most_bytes, most_frames, other, other_in}
use Rattle.forms.proofs.Forms.{OneForm, other-low, other-other}

-- ---- sums

sum-le : (n k : ℕ) (g h : ℕ → ℕ) → ((j : ℕ) → g j ≤ h j) → sum_from n g k ≤ sum_from n h k
unfolding sum_from
sum-le zero k g h p = le_refl 0
sum-le (suc n) k g h p = omega (arith, p k, sum-le n (k + 1) g h p)

sum-plus : (n k : ℕ) (g h : ℕ → ℕ) → sum_from n (λ j. g j + h j) k ≡ sum_from n g k + sum_from n h k
unfolding sum_from
sum-plus zero k g h = refl
sum-plus (suc n) k g h = omega (arith, sum-plus n (k + 1) g h)

sum-other : (g : ℕ → ℕ) → sum_from settings (λ j. g (other j)) 0 ≡ sum_from settings g 0
unfolding sum_from other other_in slot_for
sum-other g = omega arith

-- ---- the share of a setting

module _ (w : ℕ → ℕ) where
  -- twice what the slot's setting has at the most: its own share twice, or the larger of its two forms' shares, once for each form
  unfoldable twice : ℕ → ℕ
  twice s = cond (eqb (other s) s) (w s + w s) (cond (leb (w s) (w (other s))) (w (other s)) (w s))

  module _ (fs : List (List ℕ)) (S : OneForm fs) where
    share-most : (s : ℕ) → cond (held s fs) (w s) 0 + cond (held (other s) fs) (w (other s)) 0 ≤ twice s
    unfolding twice
    share-most s = go (eqb (other s) s) refl (leb (w s) (w (other s))) refl (held s fs) refl (held (other s) fs) refl
      where
        go : (t : Bool) → eqb (other s) s ≡ t → (u : Bool) → leb (w s) (w (other s)) ≡ u → (x : Bool) → held s fs ≡ x → (y : Bool) → held (other s) fs ≡ y
            → cond x (w s) 0 + cond y (w (other s)) 0 ≤ cond t (w s + w s) (cond u (w (other s)) (w s))
        go true e u l true p true q = omega (arith, ap w (eqb-true (other s) s e))
        go true e u l true p false q = omega arith
        go true e u l false p true q = omega (arith, ap w (eqb-true (other s) s e))
        go true e u l false p false q = omega arith
        go false e u l true p true q = absurd (eqb-false _ _ e (S s p q))
        go false e true l true p false q = omega (arith, leb-true (w s) (w (other s)) l)
        go false e true l false p true q = omega arith
        go false e true l false p false q = omega arith
        go false e false l true p false q = omega arith
        go false e false l false p true q = omega (arith, leb-false (w s) (w (other s)) l)
        go false e false l false p false q = omega arith

    most : sum_of settings (λ j. held j fs) w 0 + sum_of settings (λ j. held j fs) w 0 ≤ sum_from settings twice 0
    most = omega (
      arith,
      sum-other (λ j. cond (held j fs) (w j) 0),
      sum-plus settings 0 (λ j. cond (held j fs) (w j) 0) (λ j. cond (held (other j) fs) (w (other j)) 0),
      sum-le settings 0 (λ j. cond (held j fs) (w j) 0 + cond (held (other j) fs) (w (other j)) 0) twice share-most,
    )

-- ---- bytes and frames

all-bytes : sum_from settings (twice size_of) 0 ≡ most_bytes + most_bytes
unfolding sum_from twice other other_in slot_for size_of lengths
all-bytes = refl

all-frames : sum_from settings (twice (λ j. 1)) 0 ≡ most_frames + most_frames
unfolding sum_from twice other other_in slot_for
all-frames = refl

module _ (fs : List (List ℕ)) (D : Sound fs) (S : OneForm fs) where
  pub most_bytes_lem : length (flat fs) ≤ most_bytes
  most_bytes_lem = omega (arith, sum-held fs D, most size_of fs S, all-bytes)

  pub most-frames : length fs ≤ most_frames
  most-frames = omega (arith, count_held settings fs D (sound-within settings (le_refl settings) fs D), most (λ j. 1) fs S, all-frames)

-- ---- a full list

-- a slot whose setting has no longer form
abbrev pub longest : ℕ → Bool
longest s = leb (size_of (other s)) (size_of s)

sum-cong : (n k : ℕ) (w : ℕ → ℕ) (q r : ℕ → Bool) → ((j : ℕ) → k ≤ j → j < k + n → q j ≡ r j) → sum_of n q w k ≡ sum_of n r w k
unfolding sum_from
sum-cong zero k w q r h = refl
sum-cong (suc n) k w q r h =
    ap₂ (λ (t : Bool) (m : ℕ). cond t (w k) 0 + m) (h k (le_refl k) (omega arith)) (sum-cong n (k + 1) w q r (λ j a b. h j (omega arith) (omega arith)))

all-longest : (sum_of settings longest size_of 0 ≡ most_bytes) × (sum_of settings longest (λ j. 1) 0 ≡ most_frames)
unfolding sum_from other other_in slot_for size_of lengths
all-longest = (refl, refl)

-- every setting held in its longest form takes just that much, in whichever order
module _ (fs : List (List ℕ)) (D : Sound fs) (S : OneForm fs) (every : (s : ℕ) → s < settings → longest s ≡ true → held s fs ≡ true) where
  held-longest : (s : ℕ) → s < settings → held s fs ≡ longest s
  held-longest s a = go (longest s) refl (held s fs) refl
    where
      back : size_of (other (other s)) ≡ size_of s
      back = ap size_of (other-other s)

      go : (t : Bool) → longest s ≡ t → (u : Bool) → held s fs ≡ u → u ≡ t
      go true e u w = sym w ∙ every s a e
      go false e false w = refl
      go false e true w =
          let less : size_of s < size_of (other s) = leb-false (size_of (other s)) (size_of s) e in
          let two : held (other s) fs ≡ true = every (other s) (other-low s a) (le-leb (size_of (other (other s))) (size_of (other s)) (omega (arith, back))) in
          absurd (omega (arith, ap size_of (S s w two)))

  pub full-bytes : length (flat fs) ≡ most_bytes
  full-bytes = sym (sum-held fs D) ∙ sum-cong settings 0 size_of (λ j. held j fs) longest (λ j x y. held-longest j (omega arith)) ∙ all-longest.0

  pub full-frames : length fs ≡ most_frames
  full-frames =
      sym (count_held settings fs D (sound-within settings (le_refl settings) fs D))
      ∙ sum-cong settings 0 (λ j. 1) (λ j. held j fs) longest (λ j x y. held-longest j (omega arith)) ∙ all-longest.1
