-- A side's calls keep its frames within its quota (`own-stays`), and so both sides' (`side-within`).
-- Assumes nothing.
use mathlib.Core.Path.{ap, refl, subst, sym, ◌≡◌}
use mathlib.Core.Bool.{Bool, cond, false, true}
use mathlib.Core.List.{List}
use mathlib.Core.Logic.{◌⊎◌, inl, inr}
use Prim.Native.Nat.{ℕ, ◌≤◌}
use native.Mathlib.Omega.{arith}
use borrow.Author.Tests.{eqb-false, eqb-true, le-leb, leb-true}
use lib.Dec.{eqb, leb, ltb}
use lib.ListN.{length}
use Rattle.refusal.specs.declared.Refusal.TheVariants.{NoRoom, NotAKind, NotHeld, OtherSide, OwnersWrong}
use Rattle.decoder.specs.Decoding.{decode}
use Rattle.reel.specs.Reel.{reel_of}
use Rattle.table.specs.Table.{settings}
use Rattle.settings.specs.Settings.{lacks, slot_for, slot_of}
use Rattle.contents.specs.Frames.{flat, held}
use Rattle.owners.specs.Owners.{OwnerTable, is_side, quota_of}
use Rattle.owners.proofs.Laws.{side-means}
use Rattle.settings.proofs.Settings.{both}
use Rattle.book.specs.Plain.{Turn, ask_on, become, clear_on, frame_of, placed, put_on, refuse, remove_on, replay_on, tell, without}
use Rattle.book.proofs.Kept.{tell-frames, without-le}
use Rattle.sides.specs.Parts.{part_of, within_quotas}
use Rattle.sides.specs.Calls.{Ask, Clear, Put, Remove, Replay, Request, barred, may_call, own_turn, side_on, step_of}
use Rattle.sides.proofs.Views.{side-apart, side-own}

-- ---- the quotas, side by side

-- a side is 1 or 2
pub by_side : (P : ℕ → Type 0) → P 1 → P 2 → (w : ℕ) → is_side w ≡ true → P w
by_side P one two w e = go (side-means w e)
  where
    go : (w ≡ 1) ⊎ (w ≡ 2) → P w
    go (inl q) = subst P (sym q) one
    go (inr q) = subst P (sym q) two

-- the list of a side, of both sides' parts
pub part-side : (t : OwnerTable) (fs : List (List ℕ)) (w : ℕ) → is_side w ≡ true → cond (eqb w 1) (part_of t 1 fs) (part_of t 2 fs) ≡ part_of t w fs
part-side t fs w e = by_side (λ v. cond (eqb v 1) (part_of t 1 fs) (part_of t 2 fs) ≡ part_of t v fs) refl refl w e

module _ (t : OwnerTable) where
  pub within-quota : (gs hs : List (List ℕ)) → within_quotas t gs hs ≡ true → (w : ℕ) → is_side w ≡ true → length (flat (cond (eqb w 1) gs hs)) ≤ quota_of t w
  unfolding within_quotas
  within-quota gs hs h w e =
      let b = both (leb (length (flat gs)) t.quota1) (leb (length (flat hs)) t.quota2) h in
      by_side (λ v. length (flat (cond (eqb v 1) gs hs)) ≤ quota_of t v) (leb-true (length (flat gs)) t.quota1 b.0)
      (leb-true (length (flat hs)) t.quota2 b.1) w e

  pub quotas-within : (gs hs : List (List ℕ)) → length (flat gs) ≤ t.quota1 → length (flat hs) ≤ t.quota2 → within_quotas t gs hs ≡ true
  unfolding within_quotas
  quotas-within gs hs a b = rw (le-leb (length (flat gs)) t.quota1 a, le-leb (length (flat hs)) t.quota2 b)

-- ---- a side's own list

-- the book's steps keep a list within its room
step_stays : (c : Request) (o : List ℕ) (n : ℕ) (gs : List (List ℕ)) → length (flat gs) ≤ n → length (flat (step_of c o n gs).frames) ≤ n
unfolding put_on remove_on ask_on clear_on replay_on flat
step_stays (Put f) o n gs h = go (ltb (slot_of f) settings) (leb (length (flat (placed f gs))) n) refl
  where
    go : (x y : Bool) → leb (length (flat (placed f gs))) n ≡ y
        → length (flat (cond {A = Turn} x (cond y (become o (placed f gs)) (refuse NoRoom o gs)) (refuse (lacks (decode f)) o gs)).frames) ≤ n
    go true true e = leb-true (length (flat (placed f gs))) n e
    go true false e = h
    go false y e = h
step_stays (Remove k) o n gs h = go (ltb (slot_for k) settings) (held (slot_for k) gs)
  where
    go : (x y : Bool)
        → length (flat (cond {A = Turn} x (cond y (become o (without (slot_for k) gs)) (refuse NotHeld o gs)) (refuse NotAKind o gs)).frames) ≤ n
    go true true = omega (arith, without-le (slot_for k) gs)
    go true false = h
    go false y = h
step_stays (Ask k) o n gs h = go (ltb (slot_for k) settings) (held (slot_for k) gs)
  where
    go : (x y : Bool)
        → length (flat (cond {A = Turn} x (cond y (tell (frame_of (slot_for k) gs) o gs) (refuse NotHeld o gs)) (refuse NotAKind o gs)).frames) ≤ n
    go true true = omega (arith, ap (λ (x : List (List ℕ)). length (flat x)) (tell-frames (frame_of (slot_for k) gs) o gs))
    go true false = h
    go false y = h
step_stays Clear o n gs h = omega arith
step_stays Replay o n gs h = omega (arith, ap (λ (x : List (List ℕ)). length (flat x)) (tell-frames (reel_of gs) o gs))

pub own-stays : (t : OwnerTable) (w : ℕ) (c : Request) (o : List ℕ) (gs : List (List ℕ)) → length (flat gs) ≤ quota_of t w
    → length (flat (own_turn t w c o gs).frames) ≤ quota_of t w
unfolding own_turn
own-stays t w c o gs h = go (barred t w c)
  where
    go : (u : Bool) → length (flat (cond u (refuse OtherSide o gs) (step_of c o (quota_of t w) gs)).frames) ≤ quota_of t w
    go true = h
    go false = step_stays c o (quota_of t w) gs h

-- ---- both sides

-- EVERY SIDE'S CALL KEEPS BOTH SIDES WITHIN THEIR QUOTAS
module _ (m room : ℕ) (t : OwnerTable) (fs : List (List ℕ)) (h : within_quotas t (part_of t 1 fs) (part_of t 2 fs) ≡ true) (v : ℕ) (c : Request) (o : List ℕ) where
  side-stays : (w : ℕ) → is_side w ≡ true → length (flat (part_of t w (side_on m t v c o room fs).frames)) ≤ quota_of t w
  side-stays w e = go (eqb v w) refl
    where
      was : length (flat (part_of t w fs)) ≤ quota_of t w
      was = subst (λ (x : List (List ℕ)). length (flat x) ≤ quota_of t w) (part-side t fs w e) (within-quota t (part_of t 1 fs) (part_of t 2 fs) h w e)

      own : (x : Bool) → length (flat (cond x (own_turn t w c o (part_of t w fs)) (refuse OwnersWrong o (part_of t w fs))).frames) ≤ quota_of t w
      own true = own-stays t w c o (part_of t w fs) was
      own false = was

      go : (x : Bool) → eqb v w ≡ x → length (flat (part_of t w (side_on m t v c o room fs).frames)) ≤ quota_of t w
      go true q =
          subst (λ (u : ℕ). length (flat (part_of t w (side_on m t u c o room fs).frames)) ≤ quota_of t w) (sym (eqb-true v w q))
          (subst (λ (x : List (List ℕ)). length (flat x) ≤ quota_of t w) (sym (side-own m room t w c o fs))
          (own (may_call m t w room (part_of t 1 fs) (part_of t 2 fs))))
      go false q = subst (λ (x : List (List ℕ)). length (flat x) ≤ quota_of t w) (sym (side-apart t w v (eqb-false v w q) m room c o fs)) was

  pub side-within : within_quotas t (part_of t 1 (side_on m t v c o room fs).frames) (part_of t 2 (side_on m t v c o room fs).frames) ≡ true
  unfolding is_side
  side-within =
      quotas-within t (part_of t 1 (side_on m t v c o room fs).frames) (part_of t 2 (side_on m t v c o room fs).frames) (side-stays 1 refl) (side-stays 2 refl)
