-- A side's bytes as a header tells them are those of its frames (`weight_is`), and so what they would be after a put (`weight-placed`); the sum
-- slot by slot, in the code's own terms (`weight-..`).
-- Assumes nothing.
use mathlib.Core.Path.{ap, ap₂, refl, sym, ◌∙◌, ◌≡◌}
use mathlib.Core.Bool.{Bool, cond, false, true, ◌&&◌}
use mathlib.Core.List.{List, [], ◌++◌, ◌∷◌}
use Prim.Native.Nat.{suc, zero, ℕ, ◌+◌, ◌-◌, ◌<◌, ◌≤◌}
use native.Mathlib.Omega.{arith}
use borrow.Author.Tests.{eq-eqb, ne_eqb}
use lib.Dec.{eqb}
use lib.ListN.{length, length-append}
use Rattle.table.specs.Table.{settings}
use Rattle.settings.specs.Settings.{size_of, slot_of}
use Rattle.settings.proofs.Settings.{slot_of-length}
use Rattle.contents.specs.Frames.{flat, held}
use Rattle.contents.specs.Contents.{Layout, holds, offset_for, present_for}
use Rattle.contents.proofs.Shape.{Sound, place_in, sum-held, sum_from}
use Rattle.contents.proofs.Offsets.{present-tells}
use Rattle.contents.proofs.Loops.{minus-end, minus-step}
use Rattle.forms.specs.Forms.{other}
use Rattle.owners.specs.Owners.{OwnerTable, is_side, owner_of, owns}
use Rattle.book.specs.Plain.{placed}
use Rattle.book.specs.Book.{opened}
use Rattle.book.proofs.Calls.{opened-judge}
use Rattle.book.proofs.Kept.{opened-kept}
use Rattle.book.proofs.Placed.{by_place}
use Rattle.contents.proofs.Lists.{flat-split}
use Rattle.book.proofs.Swapping.{swap-room}
use Rattle.sides.specs.Parts.{chosen, part_of}
use Rattle.sides.specs.Means.{weight_after, weight_from}
use Rattle.sides.proofs.Parts.{held_both, held-chosen, sound-chosen}
use Rattle.sides.proofs.Quotas.{by_side}

-- ---- the sum, slot by slot

module _ (m n : ℕ) (q : ℕ → Bool) (b : List ℕ) (k : ℕ) where
  pub weight-step : k < n → weight_from m (n - k) q b k ≡ cond (present_for m b k && q k) (size_of k) 0 + weight_from m (n - (k + 1)) q b (k + 1)
  unfolding weight_from
  weight-step h = ap (λ (i : ℕ). weight_from m i q b k) (minus-step n k h)

  pub weight-end : n ≤ k → weight_from m (n - k) q b k ≡ 0
  unfolding weight_from
  weight-end h = ap (λ (i : ℕ). weight_from m i q b k) (minus-end n k h)

-- one slot
module _ (m : ℕ) (b ws : List ℕ) (w k : ℕ) where
  pub slot-absent : offset_for m b k ≡ 0 → 0 ≡ cond (present_for m b k && owns ws w k) (size_of k) 0
  slot-absent o = sym (rw (eq-eqb (offset_for m b k) 0 o))

  module _ (o : offset_for m b k ≡ 0 → ⊥) where
    pub slot-own : owner_of ws k ≡ w → size_of k ≡ cond (present_for m b k && owns ws w k) (size_of k) 0
    unfolding owns
    slot-own e = sym (rw (ne_eqb (offset_for m b k) 0 o, eq-eqb (owner_of ws k) w e))

    pub slot-foreign : (owner_of ws k ≡ w → ⊥) → 0 ≡ cond (present_for m b k && owns ws w k) (size_of k) 0
    unfolding owns
    slot-foreign e = sym (rw (ne_eqb (offset_for m b k) 0 o, ne_eqb (owner_of ws k) w e))

-- a side's weight, of both
pub side-few : (w a b n : ℕ) → a ≤ n → b ≤ n → cond (eqb w 1) a b ≤ n
side-few w a b n p q = go (eqb w 1)
  where
    go : (x : Bool) → cond x a b ≤ n
    go true = p
    go false = q

pub side-weight : (m : ℕ) (b ws : List ℕ) (w : ℕ) → is_side w ≡ true
    → cond (eqb w 1) (weight_from m settings (owns ws 1) b 0) (weight_from m settings (owns ws 2) b 0) ≡ weight_from m settings (owns ws w) b 0
side-weight m b ws w e =
    by_side (λ v. cond (eqb v 1) (weight_from m settings (owns ws 1) b 0) (weight_from m settings (owns ws 2) b 0)
    ≡ weight_from m settings (owns ws v) b 0) refl refl w e

-- after a put
module _ (m : ℕ) (b : List ℕ) (s held n : ℕ) where
  pub after-over : (offset_for m b s ≡ 0 → ⊥) → held ≡ weight_after m b s held n
  unfolding weight_after
  after-over o = sym (rw (ne_eqb (offset_for m b s) 0 o))

  module _ (z : offset_for m b s ≡ 0) (t : ℕ) (e : t ≡ other s) where
    pub after_last : offset_for m b t ≡ 0 → held + n ≡ weight_after m b s held n
    unfolding weight_after
    after_last o = sym (rw (eq-eqb (offset_for m b s) 0 z, eq-eqb (offset_for m b (other s)) 0 (ap (offset_for m b) (sym e) ∙ o)))

    pub after-swap : (offset_for m b t ≡ 0 → ⊥) → (k : ℕ) → k ≡ size_of t → held - k + n ≡ weight_after m b s held n
    unfolding weight_after
    after-swap o k q =
        ap (λ (x : ℕ). held - x + n) (q ∙ ap size_of e)
        ∙ sym (rw (eq-eqb (offset_for m b s) 0 z, ne_eqb (offset_for m b (other s)) 0 (λ y. o (ap (offset_for m b) e ∙ y))))

    pub after_less : (offset_for m b t ≡ 0 → ⊥) → (k : ℕ) → k ≡ size_of t → held < k → n ≡ weight_after m b s held n
    after_less o k q l = let d : n ≡ held - k + n = omega arith in d ∙ after-swap o k q

-- ---- a book's frames

module _ (l : Layout) (b : List ℕ) (fs : List (List ℕ)) (h : opened l b ≡ holds fs) where
  weight-sum : (q : ℕ → Bool) (n s : ℕ) → weight_from l.slots n q b s ≡ sum_from n (λ j. cond (held j (chosen q fs)) (size_of j) 0) s
  unfolding weight_from sum_from
  weight-sum q zero s = refl
  weight-sum q (suc n) s =
      ap₂ (λ (x : Bool) (y : ℕ). cond x (size_of s) 0 + y)
      (ap (λ (x : Bool). x && q s) (present-tells l b fs (opened-judge l b fs h) s) ∙ sym (held_both q s fs))
      (weight-sum q n (s + 1))

  pub weight_is : (q : ℕ → Bool) → weight_from l.slots settings q b 0 ≡ length (flat (chosen q fs))
  weight_is q = weight-sum q settings 0 ∙ sum-held (chosen q fs) (sound-chosen q fs (opened-kept l b fs h).sound)

  -- what the code weighs is the side's list after the put
  module _ (t : OwnerTable) (w : ℕ) (f : List ℕ) (a : slot_of f < settings) (own : owns t.owners w (slot_of f) ≡ true)
      (twin : owns t.owners w (other (slot_of f)) ≡ true) where
    S : Sound (part_of t w fs)
    S = sound-chosen (owns t.owners w) fs (opened-kept l b fs h).sound

    present : (s : ℕ) → owns t.owners w s ≡ true → present_for l.slots b s ≡ held s (part_of t w fs)
    present s e = present-tells l b fs (opened-judge l b fs h) s ∙ sym (held-chosen (owns t.owners w) s e fs)

    pub weight-placed : weight_after l.slots b (slot_of f) (length (flat (part_of t w fs))) (length f) ≡ length (flat (placed f (part_of t w fs)))
    unfolding weight_after flat
    weight-placed =
        by_place f (part_of t w fs) (λ gs. weight_after l.slots b (slot_of f) (length (flat (part_of t w fs))) (length f) ≡ length (flat gs))
        (λ x.
        rw (present (slot_of f) own, x)
        (omega (arith, swap-room (slot_of f) f (part_of t w fs) S x, slot_of-length f a, place_in 0 (part_of t w fs) (slot_of f) S x)))
        (λ x y.
        rw (present (slot_of f) own, x, present (other (slot_of f)) twin, y)
        (sym (swap-room (other (slot_of f)) f (part_of t w fs) S y)))
        (λ x y.
        rw (present (slot_of f) own, x, present (other (slot_of f)) twin, y)
        (omega (
          arith,
          ap length (flat-split (part_of t w fs) (f ∷ [])),
          length-append (flat (part_of t w fs)) (f ++ []),
          length-append f [],
        )))
