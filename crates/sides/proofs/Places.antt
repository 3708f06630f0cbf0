-- What holds of each refusal that a side's call can give holds of its answer (`side-says`), and so of every event's (`event-says`); so the place that
-- it carries is at most 12 (`side-place`). And no call of the whole book is refused by 17 or 18 (`whole-own`).
-- Assumes nothing.
use mathlib.Core.Path.{subst, ◌≡◌}
use mathlib.Core.Bool.{Bool, cond, false, true}
use mathlib.Core.List.{List}
use Prim.Native.Nat.{ℕ, ◌≤◌}
use native.Mathlib.Omega.{arith}
use Rattle.refusal.specs.declared.Refusal.{Refusal}
use Rattle.refusal.specs.declared.Refusal.TheVariants.{BufferSize, OtherSide, OwnersWrong}
use Rattle.refusal.specs.Numbers.{number_of, place_of}
use Rattle.contents.specs.Contents.{refused}
use Rattle.contents.proofs.Places.{judge-own}
use Rattle.owners.specs.Owners.{OwnerTable, quota_of}
use Rattle.std.specs.Prelude.{Err}
use Rattle.book.specs.Plain.{refuse}
use Rattle.book.specs.Book.{Use, layout_in, opened_for}
use Rattle.book.specs.History.{Call, after}
use Rattle.book.proofs.Places.{Near, Says, Steps, after-says, call-says, opened_for-near, opened_for-says, steps-near}
use Rattle.sides.specs.Parts.{part_of}
use Rattle.sides.specs.Calls.{Request, amid, barred, edited, may_call, own_turn, side_call, side_on, step_of, wants_of}
use Rattle.sides.specs.Histories.{Event, Side, Whole, after_event, by}
use Rattle.sides.proofs.Answers.{step-says, steps_low}

module _ (P : Refusal → Type 0) (S : Steps P) where
  module _ (wrong : P OwnersWrong) (foreign : P OtherSide) where
    pub side-says : (m : ℕ) (t : OwnerTable) (w : ℕ) (c : Request) (o : List ℕ) (room : ℕ) (fs : List (List ℕ)) → Says P (side_on m t w c o room fs).answer
    unfolding side_on own_turn
    side-says m t w c o room fs = go (may_call m t w room (part_of t 1 fs) (part_of t 2 fs)) (barred t w c)
      where
        go : (y u : Bool)
            → Says P (cond y (amid (cond u (refuse OtherSide o (part_of t w fs)) (step_of c o (quota_of t w) (part_of t w fs))) (edited t w c fs) fs)
            (refuse OwnersWrong o fs)).answer
        go true true = foreign
        go true false = step-says P S c o (quota_of t w) (part_of t w fs)
        go false u = wrong

    -- and so of an event's, where it holds of the book's own refusals too
    pub event-says : (b : List ℕ) → ((u : Use) (x : Refusal) → opened_for u b ≡ refused x → P x) → P BufferSize → (t : OwnerTable) (e : Event)
        → Says P (after_event t e b).answer
    event-says b own size t (Side c) =
        call-says P S b own size (wants_of c.what) (side_on (layout_in b).slots t c.who c.what) c.output
        (λ o room fs. side-says (layout_in b).slots t c.who c.what o room fs)
    event-says b own size t (Whole c) = after-says P S b own size c

pub side-place : (b : List ℕ) (t : OwnerTable) (w : ℕ) (c : Request) (o : List ℕ) (x : Refusal) → (side_call t w c o b).answer ≡ Err x → place_of x ≤ 12
side-place b t w c o x e = subst (Says Near) e (event-says Near steps-near (omega arith) (omega arith) b (opened_for-near b) (omega arith) t (by w c o))

-- ---- the whole book

abbrev Own : Refusal → Type 0
Own x = number_of x ≤ 16

-- A CALL OF THE WHOLE BOOK IS NEVER REFUSED BY 17 OR 18, whatever the bytes are
pub whole-own : (b : List ℕ) (c : Call) (x : Refusal) → (after c b).answer ≡ Err x → number_of x ≤ 16
whole-own b c x e =
    subst (Says Own) e
    (after-says Own (steps_low 16 (omega arith)) b (opened_for-says Own (omega arith) b (λ y w. omega (arith, (judge-own (layout_in b) b y w).1))) (omega arith) c)
