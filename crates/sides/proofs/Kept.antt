-- A side's call leaves a list that the book can hold (`side-kept`), and so does every event of a shared book's history (`event-kept`).
-- Assumes nothing.
use mathlib.Core.Path.{refl, subst, sym, ◌≡◌}
use mathlib.Core.Bool.{Bool, false, not, true}
use mathlib.Core.List.{List}
use Prim.Native.Nat.{ℕ, ◌≤◌}
use native.Mathlib.Omega.{arith}
use borrow.Author.Tests.{leb-false, leb-true, ltb-false, ltb-true}
use lib.Dec.{leb, ltb}
use lib.ListN.{length}
use Rattle.table.specs.Table.{settings}
use Rattle.settings.specs.Settings.{slot_of}
use Rattle.contents.specs.Frames.{flat}
use Rattle.contents.proofs.Shape.{sound-within}
use Rattle.owners.specs.Owners.{OwnerTable, owns, quota_of}
use Rattle.std.specs.Prelude.{Ok, Err}
use Rattle.book.specs.Plain.{Turn, clear_on, placed, replay_on, Answer}
use Rattle.book.proofs.Kept.{Kept, ask-kept, put-kept, remove-kept, turn-kept}
use Rattle.sides.specs.Parts.{chosen, part_of}
use Rattle.sides.specs.Calls.{Ask, Clear, Put, Remove, Replay, Request, barred, if_accepted, may_call, side_on}
use Rattle.sides.specs.Histories.{Event, Side, Whole, jointly}
use Rattle.sides.proofs.Parts.{chosen-le, forms-chosen, sound-chosen}
use Rattle.sides.proofs.Answers.{side-barred, side-step, side-wrong}
use Rattle.sides.proofs.Means.{ask-means, put_full, put-means, put-none, remove-means}

module _ (m room : ℕ) (big : settings ≤ m) (t : OwnerTable) (fs : List (List ℕ)) (K : Kept m room fs) (w : ℕ) (o : List ℕ) where
  -- the list that a turn leaves is one that the book can hold
  abbrev Stands : Turn → Type 0
  Stands x = Kept m room x.frames

  rest-kept : (q : ℕ → Bool) → Kept m room (chosen q fs)
  rest-kept q =
      let s = sound-chosen q fs K.sound in
      record { sound = s; within = sound-within m big (chosen q fs) s; forms = forms-chosen q fs K.forms; room = omega (arith, chosen-le q fs, K.room) }

  same : (a : Answer) → Kept m room (if_accepted a fs fs)
  same (Ok n) = K
  same (Err x) = K

  module _ (may : may_call m t w room (part_of t 1 fs) (part_of t 2 fs) ≡ true) where
    put-stands : (f : List ℕ) → barred t w (Put f) ≡ false → Stands (side_on m t w (Put f) o room fs)
    put-stands f u = go (ltb (slot_of f) settings) refl (leb (length (flat (placed f (part_of t w fs)))) (quota_of t w)) refl
      where
        go : (x : Bool) → ltb (slot_of f) settings ≡ x → (y : Bool) → leb (length (flat (placed f (part_of t w fs)))) (quota_of t w) ≡ y
            → Stands (side_on m t w (Put f) o room fs)
        go true a true b =
            subst Stands (sym (put-means m t w room fs may big K.sound f o (ltb-true (slot_of f) settings a) u
            (leb-true (length (flat (placed f (part_of t w fs)))) (quota_of t w) b))) (put-kept m room fs K o big f)
        go true a false b =
            subst Stands (sym (put_full m t w room fs may f o (ltb-true (slot_of f) settings a) u
            (leb-false (length (flat (placed f (part_of t w fs)))) (quota_of t w) b))) K
        go false a y b = subst Stands (sym (put-none m t w room fs may f o (ltb-false (slot_of f) settings a) u)) (put-kept m room fs K o big f)

    step-stands : (c : Request) → barred t w c ≡ false → Stands (side_on m t w c o room fs)
    unfolding clear_on replay_on
    step-stands (Put f) u = put-stands f u
    step-stands (Remove k) u = subst Stands (sym (remove-means m t w room fs may k o u)) (remove-kept m room fs K o k)
    step-stands (Ask k) u = subst Stands (sym (ask-means m t w room fs may K.within k o u)) (ask-kept m room fs K o k)
    step-stands Clear u = subst Stands (sym (side-step m t w room fs may Clear o u)) (rest-kept (λ s. not (owns t.owners w s)))
    step-stands Replay u = subst Stands (sym (side-step m t w room fs may Replay o u)) (same (replay_on o (quota_of t w) (part_of t w fs)).answer)

  pub side-kept : (c : Request) → Kept m room (side_on m t w c o room fs).frames
  side-kept c = go (may_call m t w room (part_of t 1 fs) (part_of t 2 fs)) refl (barred t w c) refl
    where
      go : (y : Bool) → may_call m t w room (part_of t 1 fs) (part_of t 2 fs) ≡ y → (u : Bool) → barred t w c ≡ u → Stands (side_on m t w c o room fs)
      go true e true b = subst Stands (sym (side-barred m t w room fs e c o b)) K
      go true e false b = step-stands e c b
      go false e u b = subst Stands (sym (side-wrong m t w room fs e c o)) K

pub event-kept : (m room : ℕ) (big : settings ≤ m) (t : OwnerTable) (e : Event) (fs : List (List ℕ)) → Kept m room fs
    → Kept m room (jointly m room t e fs).frames
event-kept m room big t (Side c) fs K = side-kept m room big t fs K c.who c.output c.what
event-kept m room big t (Whole c) fs K = turn-kept m big room c fs K
