-- What a side's call does to the parts of the joint list: to its own part what it does to its own list (`side-own`), and to the other's nothing
-- (`side-apart`). The frames that fit the quotas fit the room (`quotas-fit`), and an ask for a slot without an entry is not barred (`ask-nobody`).
-- Assumes nothing.
use mathlib.Core.Path.{ap, refl, sym, ◌∙◌, ◌≡◌}
use mathlib.Core.Bool.{Bool, cond, false, not, true, ◌&&◌}
use mathlib.Core.List.{List, ◌++◌}
use Prim.Native.Nat.{ℕ, ◌+◌, ◌≤◌}
use native.Mathlib.Omega.{arith}
use borrow.Author.Tests.{le-ltb, leb-true, not-false, not-true}
use lib.Dec.{leb, ltb}
use lib.ListN.{drop, length}
use Rattle.refusal.specs.declared.Refusal.TheVariants.{NoRoom, NotAKind, NotHeld, OtherSide, OutputShort, OwnersWrong}
use Rattle.decoder.specs.Decoding.{decode}
use Rattle.reel.specs.Reel.{reel_of}
use Rattle.table.specs.Table.{settings}
use Rattle.settings.specs.Settings.{lacks, slot_for, slot_of}
use Rattle.contents.specs.Frames.{flat, held}
use Rattle.contents.proofs.Shape.{Sound}
use Rattle.owners.specs.Owners.{OwnerTable, is_side, owns, quota_of, table_right}
use Rattle.settings.proofs.Settings.{both}
use Rattle.owners.proofs.Laws.{OneOwner, Right, owns-once, owns-other, second-owner, table-right}
use Rattle.std.specs.Prelude.{Ok, Err}
use Rattle.book.specs.Plain.{Turn, ask_on, become, clear_on, frame_of, placed, put_on, refuse, remove_on, replay_on, tell, without, Answer}
use Rattle.sides.specs.Parts.{part_of, rest_of, within_quotas}
use Rattle.sides.specs.Calls.{Ask, Clear, Put, Remove, Replay, Request, amid, barred, edited, foreign, if_accepted, may_call, own_turn, side_on, step_of}
use Rattle.sides.proofs.Parts.{chosen-all, chosen_none, chosen-placed, chosen-placed-out, chosen-same, chosen-without, chosen-without-out, flat-parts}

-- ---- a right table's parts

module _ (m room : ℕ) (t : OwnerTable) (R : Right m room t) (big : settings ≤ m) (fs : List (List ℕ)) (S : Sound fs) where
  -- what is not side 1's is side 2's
  rest-second : rest_of t 1 fs ≡ part_of t 2 fs
  rest-second =
      chosen-same (λ s. not (owns t.owners 1 s)) (owns t.owners 2)
      (λ s a. second-owner t.owners s (R.sides s (omega (arith, R.entries)))) fs S

  -- the two sides' bytes are all the bytes
  pub flat-sides : length (flat fs) ≡ length (flat (part_of t 1 fs)) + length (flat (part_of t 2 fs))
  flat-sides = flat-parts (owns t.owners 1) fs ∙ ap (λ (x : List (List ℕ)). length (flat (part_of t 1 fs)) + length (flat x)) rest-second

  -- WHAT FITS THE QUOTAS FITS THE ROOM
  pub quotas-fit : within_quotas t (part_of t 1 fs) (part_of t 2 fs) ≡ true → length (flat fs) ≤ room
  unfolding within_quotas
  quotas-fit e =
      let b = both (leb (length (flat (part_of t 1 fs))) t.quota1) (leb (length (flat (part_of t 2 fs))) t.quota2) e in
      omega (
        arith,
        flat-sides,
        leb-true (length (flat (part_of t 1 fs))) t.quota1 b.0,
        leb-true (length (flat (part_of t 2 fs))) t.quota2 b.1,
        R.sum,
      )

-- ---- a side's own part

-- the list that a turn leaves, where an accepted one leaves one list and a refused one another
abbrev Leaves : Turn → List (List ℕ) → List (List ℕ) → Type 0
Leaves x gs fs = x.frames ≡ if_accepted x.answer gs fs

tell-leaves : (x o : List ℕ) (gs : List (List ℕ)) → Leaves (tell x o gs) gs gs
tell-leaves x o gs = go (leb (length x) (length o))
  where
    go : (u : Bool) → Leaves (cond {A = Turn} u (record { answer = Ok (length x); output = x ++ drop (length x) o; frames = gs })
        (refuse OutputShort o gs)) gs gs
    go true = refl
    go false = refl

module _ (t : OwnerTable) (w : ℕ) where
  -- a setting's slot that is not foreign is the side's
  pub own-slot : (s : ℕ) → foreign t w s ≡ false → ltb s settings ≡ true → owns t.owners w s ≡ true
  own-slot s h e = not-false (owns t.owners w s) (rw e at h)

  -- a slot that the table has no entry for is nobody's: an ask for its kind is not barred
  pub ask-nobody : (k : ℕ) → length t.owners ≤ slot_for k → barred t w (Ask k) ≡ false
  unfolding barred
  ask-nobody k h = rw (le-ltb (slot_for k) (length t.owners) h)

  -- the edit of all frames, seen by the side, is that of its own list
  module _ (whole : OneOwner t.owners) (o : List ℕ) (fs : List (List ℕ)) where
    put-leaves : (f : List ℕ) → foreign t w (slot_of f) ≡ false
        → (put_on f o (quota_of t w) (part_of t w fs)).frames ≡ if_accepted (put_on f o (quota_of t w) (part_of t w fs)).answer (part_of t w (placed f fs))
        (part_of t w fs)
    unfolding put_on
    put-leaves f h = go (ltb (slot_of f) settings) refl (leb (length (flat (placed f (part_of t w fs)))) (quota_of t w))
      where
        go : (x : Bool) → ltb (slot_of f) settings ≡ x → (y : Bool)
            → Leaves (cond {A = Turn} x (cond y (become o (placed f (part_of t w fs))) (refuse NoRoom o (part_of t w fs)))
            (refuse (lacks (decode f)) o (part_of t w fs)))
            (part_of t w (placed f fs)) (part_of t w fs)
        go true e true =
            sym (chosen-placed (owns t.owners w) f (owns-other t.owners whole w (slot_of f)) (own-slot (slot_of f) h e) fs)
        go true e false = refl
        go false e y = refl

    remove-leaves : (k : ℕ) → foreign t w (slot_for k) ≡ false
        → (remove_on k o (quota_of t w) (part_of t w fs)).frames
        ≡ if_accepted (remove_on k o (quota_of t w) (part_of t w fs)).answer (part_of t w (without (slot_for k) fs)) (part_of t w fs)
    unfolding remove_on
    remove-leaves k h = go (ltb (slot_for k) settings) refl (held (slot_for k) (part_of t w fs))
      where
        go : (x : Bool) → ltb (slot_for k) settings ≡ x → (y : Bool)
            → Leaves (cond {A = Turn} x (cond y (become o (without (slot_for k) (part_of t w fs))) (refuse NotHeld o (part_of t w fs)))
            (refuse NotAKind o (part_of t w fs)))
            (part_of t w (without (slot_for k) fs)) (part_of t w fs)
        go true e true = sym (chosen-without (owns t.owners w) (slot_for k) (own-slot (slot_for k) h e) fs)
        go true e false = refl
        go false e y = refl

    ask-leaves : (k : ℕ) → Leaves (ask_on k o (quota_of t w) (part_of t w fs)) (part_of t w fs) (part_of t w fs)
    unfolding ask_on
    ask-leaves k = go (ltb (slot_for k) settings) (held (slot_for k) (part_of t w fs))
      where
        go : (x y : Bool)
            → Leaves (cond {A = Turn} x (cond y (tell (frame_of (slot_for k) (part_of t w fs)) o (part_of t w fs)) (refuse NotHeld o (part_of t w fs)))
            (refuse NotAKind o (part_of t w fs)))
            (part_of t w fs) (part_of t w fs)
        go true true = tell-leaves (frame_of (slot_for k) (part_of t w fs)) o (part_of t w fs)
        go true false = refl
        go false y = refl

    step-leaves : (c : Request) → barred t w c ≡ false
        → (step_of c o (quota_of t w) (part_of t w fs)).frames ≡ if_accepted (step_of c o (quota_of t w) (part_of t w fs)).answer
        (part_of t w (edited t w c fs)) (part_of t w fs)
    unfolding barred clear_on replay_on
    step-leaves (Put f) h = put-leaves f h
    step-leaves (Remove k) h = remove-leaves k h
    step-leaves (Ask k) h = ask-leaves k
    step-leaves Clear h =
        sym (chosen_none (owns t.owners w) (λ s. not (owns t.owners w s)) (λ s e. not-true (owns t.owners w s) e) fs)
    step-leaves Replay h = tell-leaves (reel_of (part_of t w fs)) o (part_of t w fs)

    pub own-leaves : (c : Request)
        → part_of t w (if_accepted (own_turn t w c o (part_of t w fs)).answer (edited t w c fs) fs) ≡ (own_turn t w c o (part_of t w fs)).frames
    unfolding own_turn
    own-leaves c = go (barred t w c) refl
      where
        part : (a : Answer) (gs : List (List ℕ)) → part_of t w (if_accepted a gs fs) ≡ if_accepted a (part_of t w gs) (part_of t w fs)
        part (Ok n) gs = refl
        part (Err x) gs = refl

        go : (u : Bool) → barred t w c ≡ u
            → part_of t w (if_accepted (cond u (refuse OtherSide o (part_of t w fs)) (step_of c o (quota_of t w) (part_of t w fs))).answer (edited t w c fs) fs)
            ≡ (cond u (refuse OtherSide o (part_of t w fs)) (step_of c o (quota_of t w) (part_of t w fs))).frames
        go true e = refl
        go false e = part (step_of c o (quota_of t w) (part_of t w fs)).answer (edited t w c fs) ∙ sym (step-leaves c e)

-- THE VIEW OF A SIDE: what its call makes of the joint list, seen by the side, is what it makes of the side's own list.
pub side-own : (m room : ℕ) (t : OwnerTable) (w : ℕ) (c : Request) (o : List ℕ) (fs : List (List ℕ))
    → part_of t w (side_on m t w c o room fs).frames
    ≡ (cond (may_call m t w room (part_of t 1 fs) (part_of t 2 fs)) (own_turn t w c o (part_of t w fs)) (refuse OwnersWrong o (part_of t w fs))).frames
unfolding side_on may_call
side-own m room t w c o fs = go (table_right m room t) refl (is_side w && within_quotas t (part_of t 1 fs) (part_of t 2 fs))
  where
    go : (r : Bool) → table_right m room t ≡ r → (x : Bool)
        → part_of t w (cond (r && x) (amid (own_turn t w c o (part_of t w fs)) (edited t w c fs) fs) (refuse OwnersWrong o fs)).frames
        ≡ (cond (r && x) (own_turn t w c o (part_of t w fs)) (refuse OwnersWrong o (part_of t w fs))).frames
    go true e true = own-leaves t w (table-right m room t e).whole o fs c
    go true e false = refl
    go false e x = refl

-- ---- the other side's part

module _ (t : OwnerTable) (w v : ℕ) (apart : v ≡ w → ⊥) where
  foreign-out : (s : ℕ) → foreign t v s ≡ false → ltb s settings ≡ true → owns t.owners w s ≡ false
  foreign-out s h e = owns-once t.owners v w apart s (own-slot t v s h e)

  -- what is put or removed is a setting's, where it is accepted
  module _ (whole : OneOwner t.owners) (o : List ℕ) (gs fs : List (List ℕ)) (room : ℕ) where
    step-apart : (c : Request) → barred t v c ≡ false → part_of t w (if_accepted (step_of c o room gs).answer (edited t v c fs) fs) ≡ part_of t w fs
    unfolding put_on remove_on barred
    step-apart (Put f) h = go (ltb (slot_of f) settings) refl (leb (length (flat (placed f gs))) room)
      where
        go : (x : Bool) → ltb (slot_of f) settings ≡ x → (y : Bool)
            → part_of t w (if_accepted (cond {A = Turn} x (cond y (become o (placed f gs)) (refuse NoRoom o gs)) (refuse (lacks (decode f)) o gs)).answer
            (placed f fs) fs)
            ≡ part_of t w fs
        go true e true = chosen-placed-out (owns t.owners w) f (owns-other t.owners whole w (slot_of f)) (foreign-out (slot_of f) h e) fs
        go true e false = refl
        go false e y = refl
    step-apart (Remove k) h = go (ltb (slot_for k) settings) refl (held (slot_for k) gs)
      where
        go : (x : Bool) → ltb (slot_for k) settings ≡ x → (y : Bool)
            → part_of t w (if_accepted (cond {A = Turn} x (cond y (become o (without (slot_for k) gs)) (refuse NotHeld o gs)) (refuse NotAKind o gs)).answer
            (without (slot_for k) fs) fs) ≡ part_of t w fs
        go true e true = chosen-without-out (owns t.owners w) (slot_for k) (foreign-out (slot_for k) h e) fs
        go true e false = refl
        go false e y = refl
    step-apart (Ask k) h = same (ask_on k o room gs).answer
      where
        same : (a : Answer) → part_of t w (if_accepted a fs fs) ≡ part_of t w fs
        same (Ok n) = refl
        same (Err x) = refl
    step-apart Clear h = go (clear_on o room gs).answer
      where
        go : (a : Answer) → part_of t w (if_accepted a (rest_of t v fs) fs) ≡ part_of t w fs
        go (Ok n) =
            chosen-all (owns t.owners w) (λ s. not (owns t.owners v s)) (λ s e. owns-once t.owners v w apart s (not-false (owns t.owners v s) e)) fs
        go (Err x) = refl
    step-apart Replay h = same (replay_on o room gs).answer
      where
        same : (a : Answer) → part_of t w (if_accepted a fs fs) ≡ part_of t w fs
        same (Ok n) = refl
        same (Err x) = refl

  -- A call of one side leaves the part of every other, whatever it is and however it ends.
  pub side-apart : (m room : ℕ) (c : Request) (o : List ℕ) (fs : List (List ℕ)) → part_of t w (side_on m t v c o room fs).frames ≡ part_of t w fs
  unfolding side_on may_call own_turn
  side-apart m room c o fs =
      go (table_right m room t) refl (is_side v && within_quotas t (part_of t 1 fs) (part_of t 2 fs)) (barred t v c) refl
    where
      go : (r : Bool) → table_right m room t ≡ r → (x u : Bool) → barred t v c ≡ u
          → part_of t w (cond (r && x) (amid (cond u (refuse OtherSide o (part_of t v fs)) (step_of c o (quota_of t v) (part_of t v fs))) (edited t v c fs) fs)
          (refuse OwnersWrong o fs)).frames ≡ part_of t w fs
      go true a true true e = refl
      go true a true false e = step-apart (table-right m room t a).whole o (part_of t v fs) fs (quota_of t v) c e
      go true a false u e = refl
      go false a x u e = refl
