-- A shared book's history: on a fresh book every list of both sides' calls and of whole-book calls gives the answers, the outputs and the bytes of
-- the joint list (`shared-history`, and `shared-from` from any list that a book can hold), and each side's call the answer and the output of two
-- plain lists (`side-history`).
-- Assumes nothing.
use mathlib.Core.Path.{ap, ap₂, refl, subst, sym, ◌∙◌, ◌≡◌}
use mathlib.Core.Bool.{Bool, cond, false, true, ◌&&◌}
use mathlib.Core.List.{List, [], ◌∷◌}
use Prim.Native.Nat.{ℕ, ◌≤◌}
use native.Mathlib.Omega.{arith}
use borrow.Author.Tests.{eqb-false, eqb-true}
use lib.Dec.{eqb, leb, ltb}
use lib.ListN.{length}
use Rattle.refusal.specs.declared.Refusal.TheVariants.{NoRoom, NotAKind, NotHeld, OwnersWrong}
use Rattle.decoder.specs.Decoding.{decode}
use Rattle.reel.specs.Reel.{reel_of}
use Rattle.table.specs.Table.{settings}
use Rattle.settings.specs.Settings.{lacks, slot_for, slot_of}
use Rattle.contents.specs.Frames.{flat, held}
use Rattle.contents.specs.Contents.{Layout, image, longest, room_of, start}
use Rattle.owners.specs.Owners.{OwnerTable, is_side, owns, table_right}
use Rattle.owners.proofs.Laws.{OneOwner, owns-other, table-right}
use Rattle.std.specs.Prelude.{Ok, Err}
use Rattle.book.specs.Plain.{Turn, ask_on, become, clear_on, placed, put_on, refuse, remove_on, replay_on, tell, without, Answer}
use Rattle.book.specs.Book.{call_for, made, ours}
use Rattle.book.specs.History.{BytesRun, Call, Heard, on_bytes, on_list, turn}
use Rattle.book.specs.History as whole
use Rattle.book.proofs.Calls.{make-fits}
use Rattle.book.proofs.Kept.{Kept, empty-kept, tell-frames}
use Rattle.book.proofs.History.{after-image, for-image, runs, shown}
use Rattle.book.proofs.Reading.{ask-frames}
use Rattle.book.proofs.Versions.{layout-image}
use Rattle.sides.specs.Parts.{chosen, part_of, within_quotas}
use Rattle.sides.specs.Calls.{amid, edited, may_call, own_turn, side_on, wants_of}
use Rattle.sides.specs.Histories.{Event, Side, SideCall, Whole, after_event, answered, by_two_lists, heard_of, jointly, list_after, own_after, said, shared_by}
use Rattle.sides.proofs.Parts.{chosen-placed, chosen-placed-out, chosen-without, chosen-without-out}
use Rattle.sides.proofs.Views.{side-apart, side-own}
use Rattle.sides.proofs.Quotas.{part-side}
use Rattle.sides.proofs.Kept.{event-kept}

-- ---- on bytes

module _ (t : OwnerTable) where
  event-image : (n : ℕ) (low : start ours.slots ≤ n) (high : n ≤ longest) (e : Event) (fs : List (List ℕ)) → Kept ours.slots (room_of ours n) fs
      → after_event t e (image ours n fs) ≡ shown ours n low high (jointly ours.slots (room_of ours n) t e fs)
  event-image n low high (Side c) fs K =
      ap (λ (l : Layout). call_for (wants_of c.what) (side_on l.slots t c.who c.what) c.output (image ours n fs)) (layout-image n fs)
      ∙ for-image n low high fs K (wants_of c.what) (side_on ours.slots t c.who c.what) c.output
  event-image n low high (Whole c) fs K = after-image n low high c fs K

  -- from any list that a book can hold
  pub shared-from : (n : ℕ) → start ours.slots ≤ n → n ≤ longest → (es : List Event) (fs : List (List ℕ)) → Kept ours.slots (room_of ours n) fs
      → on_bytes (after_event t) es (image ours n fs)
      ≡ record {
        heard = (on_list (jointly ours.slots (room_of ours n) t) es fs).heard;
        bytes = image ours n (on_list (jointly ours.slots (room_of ours n) t) es fs).frames;
      }
  shared-from n low high =
      runs (after_event t) (jointly ours.slots (room_of ours n) t) (image ours n) (Kept ours.slots (room_of ours n)) (event-image n low high)
      (event-kept ours.slots (room_of ours n) (omega arith) t)

  -- THE HISTORY OF A SHARED BOOK: after every list of events the bytes are the image of the joint list, and what was heard is what the joint list
  -- gives.
  pub shared-history : (b : List ℕ) → start ours.slots ≤ length b → length b ≤ longest → (es : List Event)
      → on_bytes (after_event t) es (made ours b).bytes
      ≡ record {
        heard = (on_list (jointly ours.slots (room_of ours (length b)) t) es []).heard;
        bytes = image ours (length b) (on_list (jointly ours.slots (room_of ours (length b)) t) es []).frames;
      }
  shared-history b low high es =
      ap (on_bytes (after_event t) es) (sym (make-fits ours b (image ours (length b) []) low high refl).1)
      ∙ shared-from (length b) low high es [] (empty-kept ours.slots (room_of ours (length b)))

-- ---- on two lists

-- a whole-book call that is accepted does to a side's part what it does to the whole list
module _ (t : OwnerTable) (joins : OneOwner t.owners) (room w : ℕ) (fs : List (List ℕ)) where
  put-shared : (f : List ℕ)
      → shared_by t (put_on f [] room fs).answer w (whole.Put f) (part_of t w fs) ≡ part_of t w (put_on f [] room fs).frames
  unfolding put_on
  put-shared f = go (ltb (slot_of f) settings) (leb (length (flat (placed f fs))) room)
    where
      by : (y : Bool) → owns t.owners w (slot_of f) ≡ y → cond y (placed f (part_of t w fs)) (part_of t w fs) ≡ part_of t w (placed f fs)
      by true e = sym (chosen-placed (owns t.owners w) f (owns-other t.owners joins w (slot_of f)) e fs)
      by false e = sym (chosen-placed-out (owns t.owners w) f (owns-other t.owners joins w (slot_of f)) e fs)

      go : (x y : Bool)
          → shared_by t (cond {A = Turn} x (cond y (become [] (placed f fs)) (refuse NoRoom [] fs)) (refuse (lacks (decode f)) [] fs)).answer w
          (whole.Put f) (part_of t w fs)
          ≡ part_of t w (cond {A = Turn} x (cond y (become [] (placed f fs)) (refuse NoRoom [] fs)) (refuse (lacks (decode f)) [] fs)).frames
      go true true = by (owns t.owners w (slot_of f)) refl
      go true false = refl
      go false y = refl

  remove-shared : (k : ℕ)
      → shared_by t (remove_on k [] room fs).answer w (whole.Remove k) (part_of t w fs) ≡ part_of t w (remove_on k [] room fs).frames
  unfolding remove_on
  remove-shared k = go (ltb (slot_for k) settings) (held (slot_for k) fs)
    where
      by : (y : Bool) → owns t.owners w (slot_for k) ≡ y → cond y (without (slot_for k) (part_of t w fs)) (part_of t w fs) ≡ part_of t w (without (slot_for k) fs)
      by true e = sym (chosen-without (owns t.owners w) (slot_for k) e fs)
      by false e = sym (chosen-without-out (owns t.owners w) (slot_for k) e fs)

      go : (x y : Bool)
          → shared_by t (cond {A = Turn} x (cond y (become [] (without (slot_for k) fs)) (refuse NotHeld [] fs)) (refuse NotAKind [] fs)).answer w
          (whole.Remove k) (part_of t w fs)
          ≡ part_of t w (cond {A = Turn} x (cond y (become [] (without (slot_for k) fs)) (refuse NotHeld [] fs)) (refuse NotAKind [] fs)).frames
      go true true = by (owns t.owners w (slot_for k)) refl
      go true false = refl
      go false y = refl

  turn-shared : (c : Call) → shared_by t (turn room c fs).answer w c (part_of t w fs) ≡ part_of t w (turn room c fs).frames
  unfolding turn clear_on replay_on chosen
  turn-shared whole.Make = refl
  turn-shared (whole.Put f) = put-shared f
  turn-shared (whole.Remove k) = remove-shared k
  turn-shared (whole.Ask k o) = read (ask_on k o room fs).answer ∙ ap (part_of t w) (sym (ask-frames k o room fs))
    where
      read : (a : Answer) → shared_by t a w (whole.Ask k o) (part_of t w fs) ≡ part_of t w fs
      read (Ok n) = refl
      read (Err x) = refl
  turn-shared whole.Clear = refl
  turn-shared (whole.Replay o) = read (tell (reel_of fs) o fs).answer ∙ ap (part_of t w) (sym (tell-frames (reel_of fs) o fs))
    where
      read : (a : Answer) → shared_by t a w (whole.Replay o) (part_of t w fs) ≡ part_of t w fs
      read (Ok n) = refl
      read (Err x) = refl

module _ (m room : ℕ) (t : OwnerTable) where
  -- a side's call is answered by the side's own list
  call-said : (c : SideCall) (h : Heard) (fs : List (List ℕ)) → said m room t (Side c) h (part_of t 1 fs) (part_of t 2 fs)
      ≡ heard_of (jointly m room t (Side c) fs)
  unfolding side_on may_call
  call-said c h fs = go (table_right m room t) (is_side c.who) refl (within_quotas t (part_of t 1 fs) (part_of t 2 fs))
    where
      go : (r s : Bool) → is_side c.who ≡ s → (q : Bool)
          → heard_of (cond (r && (s && q)) (own_turn t c.who c.what c.output (cond (eqb c.who 1) (part_of t 1 fs) (part_of t 2 fs)))
          (refuse OwnersWrong c.output (cond (eqb c.who 1) (part_of t 1 fs) (part_of t 2 fs))))
          ≡ heard_of (cond (r && (s && q)) (amid (own_turn t c.who c.what c.output (part_of t c.who fs)) (edited t c.who c.what fs) fs)
          (refuse OwnersWrong c.output fs))
      go true true e true = ap (λ (gs : List (List ℕ)). heard_of (own_turn t c.who c.what c.output gs)) (part-side t fs c.who e)
      go true true e false = refl
      go true false e q = refl
      go false s e q = refl

  event-said : (e : Event) (fs : List (List ℕ)) → said m room t e (heard_of (jointly m room t e fs)) (part_of t 1 fs) (part_of t 2 fs)
      ≡ heard_of (jointly m room t e fs)
  event-said (Side c) fs = call-said c (heard_of (jointly m room t (Side c) fs)) fs
  event-said (Whole c) fs = refl

  -- where the table is right, a side's list after an event is its part of the joint list
  event-own : table_right m room t ≡ true → (w : ℕ) (e : Event) (fs : List (List ℕ))
      → own_after m room t w e (jointly m room t e fs).answer (part_of t 1 fs) (part_of t 2 fs) (part_of t w fs) ≡ part_of t w (jointly m room t e fs).frames
  event-own right w (Whole c) fs = turn-shared t (table-right m room t right).whole room w fs c
  event-own right w (Side c) fs = go (eqb c.who w) refl
    where
      go : (x : Bool) → eqb c.who w ≡ x
          → cond x (answered m room t c (part_of t 1 fs) (part_of t 2 fs) (part_of t w fs)).frames (part_of t w fs)
          ≡ part_of t w (side_on m t c.who c.what c.output room fs).frames
      go true e =
          subst (λ (v : ℕ). (answered m room t c (part_of t 1 fs) (part_of t 2 fs) (part_of t v fs)).frames
          ≡ part_of t v (side_on m t c.who c.what c.output room fs).frames)
          (eqb-true c.who w e) (sym (side-own m room t c.who c.what c.output fs))
      go false e = sym (side-apart t w c.who (eqb-false c.who w e) m room c.what c.output fs)

  right-lists : table_right m room t ≡ true → (es : List Event) (fs : List (List ℕ))
      → by_two_lists m room t es (on_list (jointly m room t) es fs).heard (part_of t 1 fs) (part_of t 2 fs) ≡ (on_list (jointly m room t) es fs).heard
  unfolding on_list by_two_lists
  right-lists right [] fs = refl
  right-lists right (e ∷ es) fs =
      ap₂ (λ (h : Heard) (hs : List Heard). h ∷ hs) (event-said e fs)
      (ap₂ (by_two_lists m room t es (on_list (jointly m room t) es (jointly m room t e fs).frames).heard) (event-own right 1 e fs) (event-own right 2 e fs)
      ∙ right-lists right es (jointly m room t e fs).frames)

  -- THE TWO LISTS ARE THE SIDES' FRAMES, in the order of the joint list, whatever has happened
  pub lists-parts : table_right m room t ≡ true → (w : ℕ) → is_side w ≡ true → (es : List Event) (fs : List (List ℕ))
      → list_after m room t w es (on_list (jointly m room t) es fs).heard (part_of t 1 fs) (part_of t 2 fs) ≡ part_of t w (on_list (jointly m room t) es fs).frames
  unfolding on_list list_after
  lists-parts right w side [] fs = part-side t fs w side
  lists-parts right w side (e ∷ es) fs =
      ap₂ (list_after m room t w es (on_list (jointly m room t) es (jointly m room t e fs).frames).heard) (event-own right 1 e fs) (event-own right 2 e fs)
      ∙ lists-parts right w side es (jointly m room t e fs).frames

  -- a wrong table refuses every side's call, whatever the lists are
  wrong-said : table_right m room t ≡ false → (e : Event) (fs g1 g2 : List (List ℕ))
      → said m room t e (heard_of (jointly m room t e fs)) g1 g2 ≡ heard_of (jointly m room t e fs)
  unfolding side_on may_call
  wrong-said wrong (Side c) fs g1 g2 = rw wrong
  wrong-said wrong (Whole c) fs g1 g2 = refl

  wrong-lists : table_right m room t ≡ false → (es : List Event) (fs g1 g2 : List (List ℕ))
      → by_two_lists m room t es (on_list (jointly m room t) es fs).heard g1 g2 ≡ (on_list (jointly m room t) es fs).heard
  unfolding on_list by_two_lists
  wrong-lists wrong [] fs g1 g2 = refl
  wrong-lists wrong (e ∷ es) fs g1 g2 =
      ap₂ (λ (h : Heard) (hs : List Heard). h ∷ hs) (wrong-said wrong e fs g1 g2)
      (wrong-lists wrong es (jointly m room t e fs).frames (own_after m room t 1 e (jointly m room t e fs).answer g1 g2 g1)
      (own_after m room t 2 e (jointly m room t e fs).answer g1 g2 g2))

  two-lists : (es : List Event) → by_two_lists m room t es (on_list (jointly m room t) es []).heard [] [] ≡ (on_list (jointly m room t) es []).heard
  unfolding chosen
  two-lists es = go (table_right m room t) refl
    where
      go : (r : Bool) → table_right m room t ≡ r → by_two_lists m room t es (on_list (jointly m room t) es []).heard [] [] ≡ (on_list (jointly m room t) es []).heard
      go true e = right-lists e es []
      go false e = wrong-lists e es [] [] []

-- THE HISTORY OF EACH SIDE: on a fresh book, whatever both sides and whole-book calls do, a side's every answer and output is that of its own plain
-- list, in its own quota, while neither list exceeds its quota, and 17 while one does.
pub side-history : (t : OwnerTable) (b : List ℕ) → start ours.slots ≤ length b → length b ≤ longest → (es : List Event)
    → (on_bytes (after_event t) es (made ours b).bytes).heard
    ≡ by_two_lists ours.slots (room_of ours (length b)) t es (on_bytes (after_event t) es (made ours b).bytes).heard [] []
side-history t b low high es =
    let e : (on_bytes (after_event t) es (made ours b).bytes).heard ≡ (on_list (jointly ours.slots (room_of ours (length b)) t) es []).heard =
    ap (λ (r : BytesRun). r.heard) (shared-history t b low high es) in
    e
    ∙ sym (two-lists ours.slots (room_of ours (length b)) t es)
    ∙ ap (λ (hs : List Heard). by_two_lists ours.slots (room_of ours (length b)) t es hs [] []) (sym e)
