-- Which calls read: of a side's requests an ask and a replay (`side-wants`), and these leave the bytes (`side-reads`); of the whole book's calls an
-- ask and a replay, which a history that the sides alone write may have, and no other (`reads-allowed`, `sides-mean`, `mean-sides`).
-- Assumes nothing.
use mathlib.Core.Path.{ap, refl, ◌≡◌}
use mathlib.Core.Bool.{Bool, cond, false, false≢true, true}
use mathlib.Core.List.{List, [], ◌∷◌}
use Prim.Native.Nat.{ℕ}
use Rattle.refusal.specs.declared.Refusal.TheVariants.{OwnersWrong}
use Rattle.settings.proofs.Settings.{both}
use Rattle.contents.specs.Contents.{Contents, holds, refused}
use Rattle.contents.proofs.Judged.{Bytes}
use Rattle.owners.specs.Owners.{OwnerTable}
use Rattle.std.specs.Prelude.{Ok, Err}
use Rattle.book.specs.Plain.{refuse, Answer}
use Rattle.book.specs.Book.{Edit, Outcome, Read, call_for, layout_in, opened_for, room_in, to_read}
use Rattle.book.specs.History as whole
use Rattle.book.proofs.Reading.{stays}
use Rattle.sides.specs.Parts.{part_of}
use Rattle.sides.specs.Calls.{Ask, Clear, Put, Remove, Replay, Request, amid, edited, if_accepted, may_call, own_turn, side_on, wants_of}
use Rattle.sides.specs.Histories.{Event, Side, Whole, after_event, by, by_sides}

-- ---- a side's calls

pub side-wants :
    ((k : ℕ) → wants_of (Ask k) ≡ Read) × (wants_of Replay ≡ Read) × ((f : List ℕ) → wants_of (Put f) ≡ Edit) × ((k : ℕ) → wants_of (Remove k) ≡ Edit)
    × (wants_of Clear ≡ Edit)
side-wants = ((λ k. refl), refl, (λ f. refl), (λ k. refl), refl)

module _ (t : OwnerTable) (w : ℕ) where
  -- a request that reads leaves the frames
  unedited : (c : Request) → wants_of c ≡ Read → (fs : List (List ℕ)) → edited t w c fs ≡ fs
  unedited (Put f) r fs = absurd (false≢true (ap to_read r))
  unedited (Remove k) r fs = absurd (false≢true (ap to_read r))
  unedited (Ask k) r fs = refl
  unedited Clear r fs = absurd (false≢true (ap to_read r))
  unedited Replay r fs = refl

  reads-keep : (m : ℕ) (c : Request) → wants_of c ≡ Read → (o : List ℕ) (room : ℕ) (fs : List (List ℕ)) → (side_on m t w c o room fs).frames ≡ fs
  unfolding side_on
  reads-keep m c r o room fs = go (may_call m t w room (part_of t 1 fs) (part_of t 2 fs))
    where
      left : (a : Answer) → if_accepted a (edited t w c fs) fs ≡ fs
      left (Ok n) = unedited c r fs
      left (Err x) = refl

      go : (y : Bool) → (cond y (amid (own_turn t w c o (part_of t w fs)) (edited t w c fs) fs) (refuse OwnersWrong o fs)).frames ≡ fs
      go true = left (own_turn t w c o (part_of t w fs)).answer
      go false = refl

  -- A SIDE'S ASK OR REPLAY LEAVES THE BYTES, accepted or refused, whatever the bytes are
  pub side-reads : (c : Request) → wants_of c ≡ Read → (o b : List ℕ) → Bytes b → (after_event t (by w c o) b).bytes ≡ b
  unfolding call_for
  side-reads c r o b B = go (opened_for (wants_of c) b) refl
    where
      go : (q : Contents) → opened_for (wants_of c) b ≡ q → (after_event t (by w c o) b).bytes ≡ b
      go (refused x) h = rw h
      go (holds fs) h =
          ap (λ (x : Outcome). x.bytes)
          (stays (wants_of c) b B fs h (side_on (layout_in b).slots t w c) o (reads-keep (layout_in b).slots c r o (room_in b) fs))

-- ---- a history that the sides alone write

-- an ask and a replay of the whole book are among its events
pub reads-allowed : ((k : ℕ) (o : List ℕ) → by_sides (Whole (whole.Ask k o) ∷ []) ≡ true) × ((o : List ℕ) → by_sides (Whole (whole.Replay o) ∷ []) ≡ true)
unfolding by_sides
reads-allowed = ((λ k o. refl), (λ o. refl))

-- the first event of such a history, if it is the whole book's, reads
pub sides-next : (c : whole.Call) (es : List Event) → by_sides (Whole c ∷ es) ≡ true → (whole.is_read c ≡ true) × (by_sides es ≡ true)
unfolding by_sides
sides-next c es e = both (whole.is_read c) (by_sides es) e

-- an event of such a history: a side's call, whatever it is, or an ask or a replay of the whole book
abbrev pub Unwriting : Event → Type 0
Unwriting (Side c) = Unit {0}
Unwriting (Whole whole.Make) = ⊥
Unwriting (Whole (whole.Put f)) = ⊥
Unwriting (Whole (whole.Remove k)) = ⊥
Unwriting (Whole (whole.Ask k o)) = Unit {0}
Unwriting (Whole whole.Clear) = ⊥
Unwriting (Whole (whole.Replay o)) = Unit {0}

abbrev pub AllUnwriting : List Event → Type 0
AllUnwriting [] = Unit {0}
AllUnwriting (e ∷ es) = Unwriting e × AllUnwriting es

-- THE HISTORIES OF NO-INTERFERENCE are exactly those
pub sides-mean : (es : List Event) → by_sides es ≡ true → AllUnwriting es
unfolding by_sides
sides-mean [] e = tt
sides-mean (Side c ∷ es) e = (tt, sides-mean es e)
sides-mean (Whole whole.Make ∷ es) e = absurd (false≢true e)
sides-mean (Whole (whole.Put f) ∷ es) e = absurd (false≢true e)
sides-mean (Whole (whole.Remove k) ∷ es) e = absurd (false≢true e)
sides-mean (Whole (whole.Ask k o) ∷ es) e = (tt, sides-mean es e)
sides-mean (Whole whole.Clear ∷ es) e = absurd (false≢true e)
sides-mean (Whole (whole.Replay o) ∷ es) e = (tt, sides-mean es e)

pub mean-sides : (es : List Event) → AllUnwriting es → by_sides es ≡ true
unfolding by_sides
mean-sides [] h = refl
mean-sides (Side c ∷ es) h = mean-sides es h.1
mean-sides (Whole whole.Make ∷ es) h = absurd h.0
mean-sides (Whole (whole.Put f) ∷ es) h = absurd h.0
mean-sides (Whole (whole.Remove k) ∷ es) h = absurd h.0
mean-sides (Whole (whole.Ask k o) ∷ es) h = mean-sides es h.1
mean-sides (Whole whole.Clear ∷ es) h = absurd h.0
mean-sides (Whole (whole.Replay o) ∷ es) h = mean-sides es h.1
