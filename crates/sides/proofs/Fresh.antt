-- What never happens, in the contracts' own words: after whatever events a fresh book opens (`shared-opens`), and so does a stored one that can be
-- edited, so that no event gets 16 (`no-sixteen`, `stored-none`); and where the sides alone write a fresh one, no side's call gets 17 but for the table
-- or the caller (`never-over`).
-- Assumes nothing.
use mathlib.Core.Path.{ap, refl, subst, sym, ◌∙◌, ◌≡◌}
use mathlib.Core.Bool.{false≢true, true}
use mathlib.Core.List.{List, [], ◌∷◌}
use mathlib.Core.Logic.{◌⊎◌}
use Prim.Native.Nat.{ℕ, ◌≤◌}
use native.Mathlib.Omega.{arith}
use lib.ListN.{length}
use Rattle.refusal.specs.Numbers.{number_of}
use Rattle.refusal.specs.declared.Refusal.{Refusal}
use Rattle.refusal.specs.declared.Refusal.TheVariants.{BothForms, OwnersWrong}
use Rattle.codec.proofs.Places.{decode-own}
use Rattle.table.specs.Table.{settings}
use Rattle.contents.specs.Frames.{flat}
use Rattle.contents.specs.Contents.{holds, image, longest, room_of, start}
use Rattle.contents.proofs.Judged.{Bytes}
use Rattle.contents.proofs.Written.{image-length}
use Rattle.owners.specs.Owners.{OwnerTable}
use Rattle.owners.proofs.Laws.{Right, means-side, right-table}
use Rattle.std.specs.Prelude.{Err}
use Rattle.book.specs.Book.{Edit, Use, made, opened_for, ours, verdict}
use Rattle.book.specs.History.{BytesRun, on_bytes, on_list, turn}
use Rattle.book.proofs.Calls.{done_refused, opened-bytes}
use Rattle.book.proofs.Called.{kept, sized}
use Rattle.book.proofs.Kept.{Kept, empty-kept}
use Rattle.book.proofs.History.{opened_for-image}
use Rattle.book.proofs.Places.{Says, Steps}
use Rattle.book.proofs.Reading.{read-frames}
use Rattle.book.proofs.Versions.{edit-opened, layout-image}
use Rattle.sides.specs.Parts.{chosen, part_of, within_quotas}
use Rattle.sides.specs.Calls.{Request, may_call, wants_of}
use Rattle.sides.specs.Histories.{Event, Side, Whole, after_event, by, by_sides, jointly}
use Rattle.sides.proofs.Answers.{may_on, side-seventeen}
use Rattle.sides.proofs.Reading.{sides-next}
use Rattle.sides.proofs.Quotas.{quotas-within, side-within}
use Rattle.sides.proofs.Places.{event-says}
use Rattle.sides.proofs.Kept.{event-kept}
use Rattle.sides.proofs.History.{shared-from, shared-history}

-- ---- on the joint list

module _ (m room : ℕ) (t : OwnerTable) where
  events-kept : settings ≤ m → (es : List Event) (fs : List (List ℕ)) → Kept m room fs → Kept m room (on_list (jointly m room t) es fs).frames
  unfolding on_list
  events-kept big [] fs K = K
  events-kept big (e ∷ es) fs K = events-kept big es (jointly m room t e fs).frames (event-kept m room big t e fs K)

  -- neither side's frames exceed its quota
  abbrev InQuotas : List (List ℕ) → Type 0
  InQuotas fs = within_quotas t (part_of t 1 fs) (part_of t 2 fs) ≡ true

  events-fit : (es : List Event) (fs : List (List ℕ)) → by_sides es ≡ true → InQuotas fs → InQuotas (on_list (jointly m room t) es fs).frames
  unfolding on_list by_sides
  events-fit [] fs s h = h
  events-fit (Side c ∷ es) fs s h = events-fit es (jointly m room t (Side c) fs).frames s (side-within m room t fs h c.who c.what c.output)
  events-fit (Whole c ∷ es) fs s h =
      let r = sides-next c es s in
      events-fit es (turn room c fs).frames r.1 (subst InQuotas (sym (read-frames room c r.0 fs)) h)

-- ---- on bytes

-- no step is refused by 16
abbrev Not16 : Refusal → Type 0
Not16 x = number_of x ≡ 16 → ⊥

steps-not : Steps Not16
steps-not = record {
  room = λ e. omega arith;
  held = λ e. omega arith;
  kind = λ e. omega arith;
  short = λ e. omega arith;
  frame = λ f x d e. omega (arith, decode-own f x d);
}

-- and so none on bytes that open, for whatever is wanted of them
opens-none : (t : OwnerTable) (b : List ℕ) (fs : List (List ℕ)) → ((u : Use) → opened_for u b ≡ holds fs) → (e : Event)
    → (after_event t e b).answer ≡ Err BothForms → ⊥
opens-none t b fs h e q =
    subst (Says Not16) q
    (event-says Not16 steps-not (λ n. omega arith) (λ n. omega arith) b
    (λ u x n. absurd (done_refused 0 x (ap verdict (sym (h u) ∙ n)))) (λ n. omega arith) t e)
    refl

-- from any list that a book can hold
from-opens : (t : OwnerTable) (n : ℕ) → start ours.slots ≤ n → n ≤ longest → (es : List Event) (fs : List (List ℕ)) → Kept ours.slots (room_of ours n) fs
    → (u : Use) → opened_for u (on_bytes (after_event t) es (image ours n fs)).bytes ≡ holds (on_list (jointly ours.slots (room_of ours n) t) es fs).frames
from-opens t n low high es fs K u =
    ap (λ (r : BytesRun). opened_for u r.bytes) (shared-from t n low high es fs K)
    ∙ opened_for-image n low high (on_list (jointly ours.slots (room_of ours n) t) es fs).frames
    (events-kept ours.slots (room_of ours n) t (omega arith) es fs K) u

-- NO EVENT BRINGS A SECOND FORM into a stored book that can be edited: after whatever events none gets 16
pub stored-none : (t : OwnerTable) (b : List ℕ) (fs : List (List ℕ)) → opened_for Edit b ≡ holds fs → Bytes b → (es : List Event) (e : Event)
    → (after_event t e (on_bytes (after_event t) es b).bytes).answer ≡ Err BothForms → ⊥
stored-none t b fs h B es =
    let r = sized b fs h in
    opens-none t (on_bytes (after_event t) es b).bytes (on_list (jointly ours.slots (room_of ours (length b)) t) es fs).frames
    (λ u. ap (λ (x : List ℕ). opened_for u (on_bytes (after_event t) es x).bytes) (opened-bytes ours b fs B (edit-opened b fs h))
    ∙ from-opens t (length b) r.small r.big es fs (kept b fs h) u)

-- a book of any permitted length, whatever its bytes were before it was made
module _ (t : OwnerTable) (b : List ℕ) (low : start ours.slots ≤ length b) (high : length b ≤ longest) (es : List Event) where
  -- the joint list, and the bytes, after the events
  abbrev pub joint : List (List ℕ)
  joint = (on_list (jointly ours.slots (room_of ours (length b)) t) es []).frames

  abbrev pub left : List ℕ
  left = (on_bytes (after_event t) es (made ours b).bytes).bytes

  left_is : left ≡ image ours (length b) joint
  left_is = ap (λ (r : BytesRun). r.bytes) (shared-history t b low high es)

  joint-kept : Kept ours.slots (room_of ours (length b)) joint
  joint-kept = events-kept ours.slots (room_of ours (length b)) t (omega arith) es [] (empty-kept ours.slots (room_of ours (length b)))

  -- THE BOOK OPENS, for every use
  pub shared-opens : (u : Use) → opened_for u left ≡ holds joint
  shared-opens u = ap (opened_for u) left_is ∙ opened_for-image (length b) low high joint joint-kept u

  -- NO EVENT EVER LEADS TO A 16, of the sides' or of the whole book's
  pub no-sixteen : (e : Event) → (after_event t e left).answer ≡ Err BothForms → ⊥
  no-sixteen = opens-none t left joint shared-opens

  -- BY THE SIDES' CALLS ALONE NEITHER SIDE EVER EXCEEDS ITS QUOTA: beside a right table a side is never refused by 17
  pub never-over : by_sides es ≡ true → Right ours.slots (room_of ours (length b)) t → (w : ℕ) → (w ≡ 1) ⊎ (w ≡ 2) → (c : Request) (o : List ℕ)
      → (after_event t (by w c o) left).answer ≡ Err OwnersWrong → ⊥
  unfolding may_call chosen flat
  never-over s R w side c o e = false≢true (sym ((side-seventeen t w c o left joint (shared-opens (wants_of c))).1 e) ∙ may)
    where
      fits : within_quotas t (part_of t 1 joint) (part_of t 2 joint) ≡ true
      fits = events-fit ours.slots (room_of ours (length b)) t es [] s (quotas-within t [] [] (omega arith) (omega arith))

      may : may_on t w left joint ≡ true
      may =
          ap (λ (x : List ℕ). may_on t w x joint) left_is
          ∙ rw (
            layout-image (length b) joint,
            image-length ours (length b) joint (omega (arith, joint-kept.room)),
            right-table ours.slots (room_of ours (length b)) t R,
            means-side w side,
            fits,
          )
