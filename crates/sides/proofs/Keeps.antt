-- A side's call that is refused leaves the book and the output as they were, for every table, call and bytes (`side-keeps`).
-- Assumes nothing.
use mathlib.Core.Path.{ap, refl, ◌≡◌}
use mathlib.Core.Bool.{Bool, cond, false, true}
use mathlib.Core.List.{List}
use Prim.Native.Nat.{ℕ}
use Rattle.refusal.specs.declared.Refusal.{Refusal}
use Rattle.refusal.specs.declared.Refusal.TheVariants.{OtherSide, OwnersWrong}
use Rattle.book.specs.Book.{layout_in}
use Rattle.contents.proofs.Judged.{Bytes}
use Rattle.owners.specs.Owners.{OwnerTable, quota_of}
use Rattle.std.specs.Prelude.{Err}
use Rattle.book.specs.Plain.{refuse, Answer}
use Rattle.book.proofs.Keeps.{Keeps, ask-keeps, call-keeps, clear-keeps, put_keeps, remove-keeps, replay-keeps}
use Rattle.sides.specs.Parts.{part_of}
use Rattle.sides.specs.Calls.{Ask, Clear, Put, Remove, Replay, Request, amid, barred, edited, if_accepted, may_call, own_turn, side_call, side_on}
use Rattle.sides.specs.Calls.{step_of, wants_of}

step_keeps : (c : Request) (o : List ℕ) (room : ℕ) (gs : List (List ℕ)) → Keeps (step_of c o room gs) o gs
step_keeps (Put f) o room gs = put_keeps o room gs f
step_keeps (Remove k) o room gs = remove-keeps o room gs k
step_keeps (Ask k) o room gs = ask-keeps o room gs k
step_keeps Clear o room gs = clear-keeps o room gs
step_keeps Replay o room gs = replay-keeps o room gs

own-keeps : (t : OwnerTable) (w : ℕ) (c : Request) (o : List ℕ) (gs : List (List ℕ)) → Keeps (own_turn t w c o gs) o gs
unfolding own_turn
own-keeps t w c o gs = go (barred t w c)
  where
    go : (u : Bool) → Keeps (cond u (refuse OtherSide o gs) (step_of c o (quota_of t w) gs)) o gs
    go true x e = (refl, refl)
    go false x e = step_keeps c o (quota_of t w) gs x e

turn-keeps : (m : ℕ) (t : OwnerTable) (w : ℕ) (c : Request) (o : List ℕ) (room : ℕ) (fs : List (List ℕ)) → Keeps (side_on m t w c o room fs) o fs
unfolding side_on
turn-keeps m t w c o room fs = go (may_call m t w room (part_of t 1 fs) (part_of t 2 fs))
  where
    go : (y : Bool) → Keeps (cond y (amid (own_turn t w c o (part_of t w fs)) (edited t w c fs) fs) (refuse OwnersWrong o fs)) o fs
    go true x e = ((own-keeps t w c o (part_of t w fs) x e).0, ap (λ (a : Answer). if_accepted a (edited t w c fs) fs) e)
    go false x e = (refl, refl)

-- WHAT IS REFUSED ALTERS NOTHING, of a side's calls too
pub side-keeps : (t : OwnerTable) (w : ℕ) (c : Request) (o b : List ℕ) → Bytes b → (x : Refusal) → (side_call t w c o b).answer ≡ Err x
    → ((side_call t w c o b).output ≡ o) × ((side_call t w c o b).bytes ≡ b)
side-keeps t w c o b B =
    call-keeps (wants_of c) (side_on (layout_in b).slots t w c) o b B (λ room fs. turn-keeps (layout_in b).slots t w c o room fs)
