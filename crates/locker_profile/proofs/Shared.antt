-- The profile from calls: for a book that two sides share, whatever they and the whole book's calls did; and so for one that is called whole alone.
--     event-latest     what was heard of an event tells which frame the joint list has of a setting after it
--     latest-list      so the list that events lead to has of each setting the latest accepted frame
--     latest-stays     which stays where every event is refused or is not about the setting
--     events-answer    the answer for a book that was made, and then called in any way, is that of the latest accepted frames of kinds 1, 2 and 4
--     events-yes       and so a yes where they keep the rules
--     puts-yes         as they do where the three were put so, by a side or the whole book, whatever came before, between and behind the puts
--     calls-answer     the same of the whole book's calls alone, and `calls-yes`
-- Assumes nothing.
use mathlib.Core.Path.{ap, refl, sym, ◌∙◌, ◌≡◌}
use mathlib.Core.Bool.{Bool, cond, false, not, true}
use mathlib.Core.List.{List, [], ◌++◌, ◌∷◌}
use mathlib.Core.Logic.{inl, inr, ◌⊎◌}
use Prim.Native.Nat.{ℕ, ◌≤◌}
use native.Mathlib.Nat.{le_refl}
use borrow.Author.Tests.{eq-eqb}
use lib.ListN.{length}
use Rattle.refusal.specs.declared.Refusal.TheVariants.{OtherSide, OwnersWrong}
use Rattle.table.specs.Table.{settings}
use Rattle.settings.specs.Settings.{slot_for, slot_of}
use Rattle.contents.specs.Contents.{longest, room_of, start}
use Rattle.owners.specs.Owners.{OwnerTable, owns, owner_table, quota_of}
use Rattle.std.specs.Prelude.{Ok, Err}
use Rattle.book.specs.Book.{Read, made, ours}
use Rattle.book.specs.Plain.{Turn, frame_of, refuse, Answer}
use Rattle.book.specs.History.{BytesRun, Call, Heard, Make, after, on_bytes, on_list}
use Rattle.book.specs.History as whole
use Rattle.book.proofs.Kept.{Kept, empty-kept}
use Rattle.book.proofs.Asked.{put-accepted}
use Rattle.sides.specs.Parts.{part_of, rest_of}
use Rattle.sides.specs.Calls.{Ask, Clear, Put, Remove, Replay, Request, amid, barred, edited, if_accepted, may_call, own_turn, side_on, step_of}
use Rattle.sides.specs.Histories.{Event, Side, SideCall, Whole, after_event, jointly}
use Rattle.sides.proofs.Parts.{chosen-out, frame-chosen}
use Rattle.sides.proofs.Kept.{event-kept}
use Rattle.sides.proofs.History.{shared-history}
use Rattle.sides.proofs.Fresh.{shared-opens}
use Rattle.locker_profile.specs.Profile.{Yes, answer_for, frame_for, lora_of, profiled}
use Rattle.locker_profile.specs.Rules.{rules}
use Rattle.locker_profile.specs.Latest.{Latest, answered_by, heard_to, latest, latest_after, none}
use Rattle.locker_profile.specs.Shared.{IsPut, by_side, by_whole, event_to, is_event_about, is_side_about, latest_of, side_to, wholes}
use Rattle.locker_profile.proofs.Rules.{AllKept, kept-none}
use Rattle.locker_profile.proofs.Latest.{IsRefused, absent, as_latest, others-leave, profile-latest, put-latest, refused-leaves}
use Rattle.locker_profile.proofs.Latest.{remove-latest, turn-latest}

-- ---- an event on the joint list

module _ (n s : ℕ) (t : OwnerTable) (fs : List (List ℕ)) (K : Kept settings n fs) where
  abbrev is : List (List ℕ) → Latest
  is gs = as_latest (frame_of s gs)

  -- a side's clear takes the frames of its own slots
  rest-latest : (w : ℕ) → cond (owns t.owners w s) none (is fs) ≡ is (rest_of t w fs)
  rest-latest w = go (owns t.owners w s) refl
    where
      others : ℕ → Bool
      others j = not (owns t.owners w j)

      go : (x : Bool) → owns t.owners w s ≡ x → cond x none (is fs) ≡ is (rest_of t w fs)
      go true e = sym (ap as_latest (absent s (rest_of t w fs) (chosen-out others s (ap not e) fs)))
      go false e = sym (ap as_latest (frame-chosen others s (ap not e) fs))

  -- a side's call that its own list accepts
  edited-latest : (w : ℕ) (c : Request) (o : List ℕ) (q m : ℕ) (gs : List (List ℕ)) → (step_of c o q gs).answer ≡ Ok m
      → side_to t w s c (is fs) ≡ is (edited t w c fs)
  edited-latest w (Put f) o q m gs e = put-latest n s fs K f (put-accepted f o q gs m e).0
  edited-latest w (Remove k) o q m gs e = remove-latest n s fs K k
  edited-latest w (Ask k) o q m gs e = refl
  edited-latest w Clear o q m gs e = rest-latest w
  edited-latest w Replay o q m gs e = refl

  side-latest : (c : SideCall) → event_to t s (Side c) (jointly settings n t (Side c) fs).answer (is fs) ≡ is (jointly settings n t (Side c) fs).frames
  unfolding side_on own_turn
  side-latest c = go (may_call settings t c.who n (part_of t 1 fs) (part_of t 2 fs)) (barred t c.who c.what)
    where
      gs : List (List ℕ)
      gs = part_of t c.who fs

      step : Turn
      step = step_of c.what c.output (quota_of t c.who) gs

      all : List (List ℕ)
      all = edited t c.who c.what fs

      accepted : (a : Answer) → step.answer ≡ a → event_to t s (Side c) a (is fs) ≡ is (if_accepted a all fs)
      accepted (Ok m) e = edited-latest c.who c.what c.output (quota_of t c.who) m gs e
      accepted (Err x) e = refl

      turned : Bool → Bool → Turn
      turned x y = cond x (amid (cond y (refuse OtherSide c.output gs) step) all fs) (refuse OwnersWrong c.output fs)

      go : (x y : Bool) → event_to t s (Side c) (turned x y).answer (is fs) ≡ is (turned x y).frames
      go true true = refl
      go true false = accepted step.answer refl
      go false y = refl

  pub event-latest : (e : Event) → event_to t s e (jointly settings n t e fs).answer (is fs) ≡ is (jointly settings n t e fs).frames
  event-latest (Side c) = side-latest c
  event-latest (Whole c) = turn-latest n s fs K c

-- ---- every list of events

module _ (n : ℕ) (t : OwnerTable) where
  pub latest-list : (s : ℕ) (es : List Event) (fs : List (List ℕ)) → Kept settings n fs
      → latest_of t s es (on_list (jointly settings n t) es fs).heard (as_latest (frame_of s fs))
      ≡ as_latest (frame_of s (on_list (jointly settings n t) es fs).frames)
  unfolding latest_of on_list
  latest-list s [] fs K = refl
  latest-list s (e ∷ es) fs K =
      rw (event-latest n s t fs K e) (latest-list s es (jointly settings n t e fs).frames (event-kept settings n (le_refl settings) t e fs K))

-- ---- events one behind the other

module _ (t : OwnerTable) (s : ℕ) where
  event-leaves : (e : Event) (a : Answer) (x : Latest) → is_event_about t s e ≡ false → event_to t s e a x ≡ x
  event-leaves (Whole c) a x e = others-leave s c a x e
  event-leaves (Side c) (Err y) x e = refl
  event-leaves (Side c) (Ok n) x e = side c.what e
    where
      side : (r : Request) → is_side_about t c.who s r ≡ false → side_to t c.who s r x ≡ x
      side (Put f) q = others-leave s (whole.Put f) (Ok 0) x q
      side (Remove k) q = others-leave s (whole.Remove k) (Ok 0) x q
      side (Ask k) q = refl
      side Clear q = rw q
      side Replay q = refl

  refused-event : (e : Event) (a : Answer) (x : Latest) → IsRefused a → event_to t s e a x ≡ x
  refused-event (Whole c) a x r = refused-leaves s c a x r
  refused-event (Side c) (Err y) x r = refl
  refused-event (Side c) (Ok n) x r = absurd r

  -- each of these events was refused, or is not about the slot
  abbrev pub Leaves : List Event → List Heard → Type 0
  Leaves [] hs = Unit
  Leaves (e ∷ es) [] = Unit
  Leaves (e ∷ es) (h ∷ hs) = ((is_event_about t s e ≡ false) ⊎ IsRefused h.answer) × Leaves es hs

  pub latest-stays : (es : List Event) (hs : List Heard) (x : Latest) → Leaves es hs → latest_of t s es hs x ≡ x
  unfolding latest_of
  latest-stays [] hs x l = refl
  latest-stays (e ∷ es) [] x l = refl
  latest-stays (e ∷ es) (h ∷ hs) x l = rw (one l.0) (latest-stays es hs x l.1)
    where
      one : (is_event_about t s e ≡ false) ⊎ IsRefused h.answer → event_to t s e h.answer x ≡ x
      one (inl q) = event-leaves e h.answer x q
      one (inr r) = refused-event e h.answer x r

  latest-append : (es ds : List Event) (b : List ℕ) (x : Latest)
      → latest_of t s (es ++ ds) (on_bytes (after_event t) (es ++ ds) b).heard x
      ≡ latest_of t s ds (on_bytes (after_event t) ds (on_bytes (after_event t) es b).bytes).heard (latest_of t s es (on_bytes (after_event t) es b).heard x)
  unfolding latest_of on_bytes
  latest-append [] ds b x = refl
  latest-append (e ∷ es) ds b x = latest-append es ds (after_event t e b).bytes (event_to t s e (after_event t e b).answer x)

  -- a put of a frame of the slot, once it is accepted, is the latest
  put_is : (f : List ℕ) → slot_of f ≡ s → (e : Event) → IsPut f e → (x : Latest) → event_to t s e (Ok 0) x ≡ latest f
  put_is f o e by_whole x = rw (eq-eqb (slot_of f) s o)
  put_is f o e (by_side w d) x = rw (eq-eqb (slot_of f) s o)

-- ---- from events

module _ (t : OwnerTable) (b : List ℕ) (low : start ours.slots ≤ length b) (high : length b ≤ longest) (es : List Event) where
  -- a buffer in which a book was made that was then called in any way, by two sides and as a whole
  abbrev pub called : BytesRun
  called = on_bytes (after_event t) es (made ours b).bytes

  -- a kind's latest accepted frame, by the events and what was heard of them
  abbrev pub last : ℕ → Latest
  last k = latest_of t (slot_for k) es called.heard none

  abbrev room : ℕ
  room = room_of ours (length b)

  abbrev frames : List (List ℕ)
  frames = (on_list (jointly settings room t) es []).frames

  latest-bytes : (k : ℕ) → last k ≡ as_latest (frame_for k frames)
  unfolding frame_of
  latest-bytes k =
      ap (λ (r : BytesRun). latest_of t (slot_for k) es r.heard none) (shared-history t b low high es)
      ∙ latest-list room t (slot_for k) es [] (empty-kept settings room)

  -- THE ANSWER IS THAT OF THE LATEST ACCEPTED FRAMES of kinds 1, 2 and 4, whatever else was called
  pub events-answer : answer_for called.bytes ≡ answered_by (last 1) (last 2) (last 4)
  events-answer = ap profiled (shared-opens t b low high es Read) ∙ profile-latest frames ∙ sym (rw (latest-bytes 1, latest-bytes 2, latest-bytes 4))

  -- and so a yes where all three are there and keep the rules
  pub events-yes : (f g h : List ℕ) → last 1 ≡ latest f → last 2 ≡ latest g → last 4 ≡ latest h → AllKept rules (lora_of f g h)
      → answer_for called.bytes ≡ Yes
  events-yes f g h e i j k = events-answer ∙ rw (e, i, j, kept-none 1 rules (lora_of f g h) k)

  -- A put of a kind's frame that was accepted, since when every event was refused or is about other kinds.
  pub record Since (k : ℕ) (f : List ℕ) : Type 0 where
    pub before : List Event
    pub put : Event
    pub behind : List Event
    pub events : es ≡ before ++ (put ∷ behind)
    pub puts : IsPut f put
    pub own : slot_of f ≡ slot_for k
    pub accepted : (after_event t put (on_bytes (after_event t) before (made ours b).bytes).bytes).answer ≡ Ok 0
    pub since : Leaves t (slot_for k) behind
        (on_bytes (after_event t) behind (after_event t put (on_bytes (after_event t) before (made ours b).bytes).bytes).bytes).heard

  since-last : (k : ℕ) (f : List ℕ) → Since k f → last k ≡ latest f
  unfolding latest_of on_bytes
  since-last k f p =
      ap (λ (ds : List Event). latest_of t (slot_for k) ds (on_bytes (after_event t) ds (made ours b).bytes).heard none) p.events
      ∙ latest-append t (slot_for k) p.before (p.put ∷ p.behind) (made ours b).bytes none
      ∙ latest-stays t (slot_for k) p.behind _ _ p.since
      ∙ rw p.accepted (put_is t (slot_for k) f p.own p.put p.puts _)

  -- SUCH PUTS OF KINDS 1, 2 AND 4 WHOSE FRAMES KEEP THE RULES GIVE A YES, whatever events came before, between and behind them
  pub puts-yes : (f g h : List ℕ) → Since 1 f → Since 2 g → Since 4 h → AllKept rules (lora_of f g h) → answer_for called.bytes ≡ Yes
  puts-yes f g h p q r k = events-yes f g h (since-last 1 f p) (since-last 2 g q) (since-last 4 h r) k

-- ---- from calls of the whole book alone

module _ (t : OwnerTable) where
  whole-bytes : (cs : List Call) (b : List ℕ) → on_bytes (after_event t) (wholes cs) b ≡ on_bytes after cs b
  unfolding on_bytes wholes
  whole-bytes [] b = refl
  whole-bytes (c ∷ cs) b = rw (whole-bytes cs (after c b).bytes)

  whole-latest : (s : ℕ) (cs : List Call) (hs : List Heard) (x : Latest) → latest_of t s (wholes cs) hs x ≡ latest_after s cs hs x
  unfolding latest_of latest_after wholes
  whole-latest s [] hs x = refl
  whole-latest s (c ∷ cs) [] x = refl
  whole-latest s (c ∷ cs) (h ∷ hs) x = whole-latest s cs hs (heard_to s c h.answer x)

-- a make leaves no frame of any slot
make-none : (s : ℕ) (a : Answer) → heard_to s Make a none ≡ none
make-none s (Ok n) = refl
make-none s (Err x) = refl

module _ (b : List ℕ) (low : start ours.slots ≤ length b) (high : length b ≤ longest) (cs : List Call) where
  -- a kind's latest accepted frame, by the calls and what was heard of them
  abbrev pub last_of : ℕ → Latest
  last_of k = latest_after (slot_for k) (Make ∷ cs) (on_bytes after (Make ∷ cs) b).heard none

  -- no side calls: any table serves
  abbrev nobody : OwnerTable
  nobody = owner_table [] 0 0

  last-of : (k : ℕ) → last nobody b low high (wholes cs) k ≡ last_of k
  unfolding latest_after on_bytes
  last-of k =
      rw (whole-bytes nobody cs (made ours b).bytes) (whole-latest nobody (slot_for k) cs (on_bytes after cs (made ours b).bytes).heard none)
      ∙ ap (latest_after (slot_for k) cs (on_bytes after cs (made ours b).bytes).heard) (sym (make-none (slot_for k) (made ours b).answer))

  pub calls-answer : answer_for (on_bytes after (Make ∷ cs) b).bytes ≡ answered_by (last_of 1) (last_of 2) (last_of 4)
  unfolding on_bytes
  calls-answer =
      ap (λ (r : BytesRun). answer_for r.bytes) (sym (whole-bytes nobody cs (made ours b).bytes))
      ∙ events-answer nobody b low high (wholes cs)
      ∙ rw (last-of 1, last-of 2, last-of 4)

  pub calls-yes : (f g h : List ℕ) → last_of 1 ≡ latest f → last_of 2 ≡ latest g → last_of 4 ≡ latest h → AllKept rules (lora_of f g h)
      → answer_for (on_bytes after (Make ∷ cs) b).bytes ≡ Yes
  calls-yes f g h e i j k = calls-answer ∙ rw (e, i, j, kept-none 1 rules (lora_of f g h) k)
