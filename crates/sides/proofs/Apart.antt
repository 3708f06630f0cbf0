-- Neither side can tell what the other does: of a book that is written by the sides' calls alone, a side hears what its own calls give on its own
-- list alone (`side-alone`), so two histories that agree on its calls give it the same answers and outputs (`no-interference`).
-- Assumes nothing.
use mathlib.Core.Path.{ap, ap₂, refl, subst, sym, ◌∙◌, ◌≡◌}
use mathlib.Core.Bool.{Bool, and-true, cond, false, false≢true, true, ◌&&◌}
use mathlib.Core.List.{List, [], ◌∷◌}
use Prim.Native.Nat.{suc, ℕ, ◌≤◌}
use native.Mathlib.Omega.{arith}
use borrow.Author.Tests.{eqb-true}
use lib.Dec.{eqb}
use lib.ListN.{length}
use Rattle.refusal.specs.declared.Refusal.TheVariants.{OwnersWrong}
use Rattle.contents.specs.Frames.{flat}
use Rattle.contents.specs.Contents.{longest, room_of, start}
use Rattle.owners.specs.Owners.{OwnerTable, is_side, quota_of, table_right}
use Rattle.std.specs.Prelude.{Ok, Err}
use Rattle.book.specs.Plain.{Turn, refuse, Answer}
use Rattle.book.specs.Book.{made, ours}
use Rattle.book.specs.History.{BytesRun, Call, Heard, is_read, on_bytes, on_list}
use Rattle.book.specs.History as whole
use Rattle.sides.specs.Parts.{within_quotas}
use Rattle.sides.specs.Calls.{may_call, own_turn}
use Rattle.sides.specs.Histories.{Event, Side, SideCall, Whole, after_event, alone, answered, by_two_lists, by_sides}
use Rattle.sides.specs.Histories.{calls_of, heard_by, heard_of, jointly}
use Rattle.sides.specs.Histories.{own_after, shared_by}
use Rattle.sides.proofs.Reading.{sides-next}
use Rattle.sides.proofs.Quotas.{by_side, own-stays, quotas-within, within-quota}
use Rattle.sides.proofs.History.{shared-history, side-history}

module _ (m room : ℕ) (t : OwnerTable) where
  -- ---- one event, on two lists

  -- within the quotas, a call on two lists is the call on the side's own
  answered-alone : (c : SideCall) (g1 g2 own : List (List ℕ)) → within_quotas t g1 g2 ≡ true → answered m room t c g1 g2 own ≡ alone m room t c own
  unfolding may_call
  answered-alone c g1 g2 own h = rw (h, and-true (is_side c.who))

  -- a side's own list stays within its quota
  alone-stays : (c : SideCall) (w : ℕ) → c.who ≡ w → (own : List (List ℕ)) → length (flat own) ≤ quota_of t w
      → length (flat (alone m room t c own).frames) ≤ quota_of t w
  alone-stays c w e own h =
      subst (λ (v : ℕ). length (flat own) ≤ quota_of t v → length (flat (alone m room t c own).frames) ≤ quota_of t v) e
      (λ q. go q (table_right m room t && is_side c.who)) h
    where
      go : length (flat own) ≤ quota_of t c.who → (x : Bool)
          → length (flat (cond x (own_turn t c.who c.what c.output own) (refuse OwnersWrong c.output own)).frames) ≤ quota_of t c.who
      go q true = own-stays t c.who c.what c.output own q
      go q false = q

  -- a read of the whole book leaves every list
  read-leaves : (c : Call) → is_read c ≡ true → (a : Answer) (w : ℕ) (own : List (List ℕ)) → shared_by t a w c own ≡ own
  read-leaves whole.Make e a w own = absurd (false≢true e)
  read-leaves (whole.Put f) e a w own = absurd (false≢true e)
  read-leaves (whole.Remove k) e a w own = absurd (false≢true e)
  read-leaves (whole.Ask k o) e (Ok n) w own = refl
  read-leaves (whole.Ask k o) e (Err x) w own = refl
  read-leaves whole.Clear e a w own = absurd (false≢true e)
  read-leaves (whole.Replay o) e (Ok n) w own = refl
  read-leaves (whole.Replay o) e (Err x) w own = refl

  module _ (g1 g2 : List (List ℕ)) (h : within_quotas t g1 g2 ≡ true) where
    own-fits : (c : SideCall) (a : Answer) (w : ℕ) (own : List (List ℕ)) → length (flat own) ≤ quota_of t w
        → length (flat (own_after m room t w (Side c) a g1 g2 own)) ≤ quota_of t w
    own-fits c a w own q = go (eqb c.who w) refl
      where
        go : (x : Bool) → eqb c.who w ≡ x → length (flat (cond x (answered m room t c g1 g2 own).frames own)) ≤ quota_of t w
        go true e =
            subst (λ (x : Turn). length (flat x.frames) ≤ quota_of t w) (sym (answered-alone c g1 g2 own h)) (alone-stays c w (eqb-true c.who w e) own q)
        go false e = q

    -- a side's call keeps both lists within their quotas
    lists-fit : (c : SideCall) (a : Answer) → within_quotas t (own_after m room t 1 (Side c) a g1 g2 g1) (own_after m room t 2 (Side c) a g1 g2 g2) ≡ true
    unfolding is_side
    lists-fit c a =
        quotas-within t (own_after m room t 1 (Side c) a g1 g2 g1) (own_after m room t 2 (Side c) a g1 g2 g2)
        (own-fits c a 1 g1 (within-quota t g1 g2 h 1 refl)) (own-fits c a 2 g2 (within-quota t g1 g2 h 2 refl))

  -- ---- every list of events, on two lists

  -- one side, with its list among the two
  module _ (w : ℕ) (side : is_side w ≡ true) where
    -- the side's list after a call, among the two lists after it
    mine : (c : SideCall) (a : Answer) (g1 g2 : List (List ℕ))
        → cond (eqb w 1) (own_after m room t 1 (Side c) a g1 g2 g1) (own_after m room t 2 (Side c) a g1 g2 g2)
        ≡ cond (eqb c.who w) (answered m room t c g1 g2 (cond (eqb w 1) g1 g2)).frames (cond (eqb w 1) g1 g2)
    mine c a g1 g2 =
        by_side (λ v. cond (eqb v 1) (own_after m room t 1 (Side c) a g1 g2 g1) (own_after m room t 2 (Side c) a g1 g2 g2)
        ≡ cond (eqb c.who v) (answered m room t c g1 g2 (cond (eqb v 1) g1 g2)).frames (cond (eqb v 1) g1 g2)) refl refl w side

    -- what the calls that follow say
    abbrev Rest : List Event → Type 0
    Rest es = (hs : List Heard) (g1 g2 : List (List ℕ)) → length hs ≡ length es → by_sides es ≡ true → within_quotas t g1 g2 ≡ true
        → heard_by w es (by_two_lists m room t es hs g1 g2) ≡ (on_list (alone m room t) (calls_of w es) (cond (eqb w 1) g1 g2)).heard

    call_next : (c : SideCall) (es : List Event) → Rest es → (h : Heard) (hs : List Heard) (g1 g2 : List (List ℕ)) → length hs ≡ length es → by_sides es ≡ true
        → within_quotas t g1 g2 ≡ true
        → heard_by w (Side c ∷ es) (by_two_lists m room t (Side c ∷ es) (h ∷ hs) g1 g2)
        ≡ (on_list (alone m room t) (calls_of w (Side c ∷ es)) (cond (eqb w 1) g1 g2)).heard
    unfolding by_two_lists heard_by calls_of on_list
    call_next c es ih h hs g1 g2 n s q = go (eqb c.who w) refl
      where
        after1 : List (List ℕ)
        after1 = own_after m room t 1 (Side c) h.answer g1 g2 g1

        after2 : List (List ℕ)
        after2 = own_after m room t 2 (Side c) h.answer g1 g2 g2

        own : List (List ℕ)
        own = cond (eqb w 1) g1 g2

        later : heard_by w es (by_two_lists m room t es hs after1 after2) ≡ (on_list (alone m room t) (calls_of w es) (cond (eqb w 1) after1 after2)).heard
        later = ih hs after1 after2 n s (lists-fit g1 g2 q c h.answer)

        go : (x : Bool) → eqb c.who w ≡ x
            → cond x (heard_of (answered m room t c g1 g2 (cond (eqb c.who 1) g1 g2)) ∷ heard_by w es (by_two_lists m room t es hs after1 after2))
            (heard_by w es (by_two_lists m room t es hs after1 after2))
            ≡ (on_list (alone m room t) (cond x (c ∷ calls_of w es) (calls_of w es)) own).heard
        go true e =
            ap₂ (λ (y : Heard) (ys : List Heard). y ∷ ys)
            (ap (λ (v : ℕ). heard_of (answered m room t c g1 g2 (cond (eqb v 1) g1 g2))) (eqb-true c.who w e) ∙ ap heard_of (answered-alone c g1 g2 own q))
            (later
            ∙ ap (λ (gs : List (List ℕ)). (on_list (alone m room t) (calls_of w es) gs).heard)
            (mine c h.answer g1 g2
            ∙ ap (λ (x : Bool). cond x (answered m room t c g1 g2 own).frames own) e
            ∙ ap (λ (x : Turn). x.frames) (answered-alone c g1 g2 own q)))
        go false e =
            later
            ∙ ap (λ (gs : List (List ℕ)). (on_list (alone m room t) (calls_of w es) gs).heard)
            (mine c h.answer g1 g2 ∙ ap (λ (x : Bool). cond x (answered m room t c g1 g2 own).frames own) e)

    lists-alone : (es : List Event) → Rest es
    unfolding by_two_lists heard_by calls_of by_sides on_list
    lists-alone [] hs g1 g2 n s q = refl
    lists-alone (e ∷ es) [] g1 g2 n s q = absurd (omega arith)
    lists-alone (Side c ∷ es) (h ∷ hs) g1 g2 n s q = call_next c es (lists-alone es) h hs g1 g2 (omega arith) s q
    lists-alone (Whole c ∷ es) (h ∷ hs) g1 g2 n s q =
        let r = sides-next c es s in
        rw (read-leaves c r.0 h.answer 1 g1, read-leaves c r.0 h.answer 2 g2) (lists-alone es hs g1 g2 (omega arith) r.1 q)

-- ---- on bytes

-- as much is heard as is called
heard-length : {C : Type 0} (on : C → List (List ℕ) → Turn) (cs : List C) (fs : List (List ℕ)) → length (on_list on cs fs).heard ≡ length cs
unfolding on_list
heard-length on [] fs = refl
heard-length on (c ∷ cs) fs = ap suc (heard-length on cs (on c fs).frames)

module _ (t : OwnerTable) where
  -- A SIDE HEARS WHAT ITS OWN CALLS GIVE ON ITS OWN LIST, on a fresh book that only the sides' calls write
  pub side-alone : (b : List ℕ) → start ours.slots ≤ length b → length b ≤ longest → (w : ℕ) → is_side w ≡ true → (es : List Event) → by_sides es ≡ true
      → heard_by w es (on_bytes (after_event t) es (made ours b).bytes).heard ≡ (on_list (alone ours.slots (room_of ours (length b)) t) (calls_of w es) []).heard
  unfolding flat
  side-alone b low high w side es s =
      let hs : List Heard = (on_bytes (after_event t) es (made ours b).bytes).heard in
      let n : length (on_bytes (after_event t) es (made ours b).bytes).heard ≡ length es =
      ap (λ (r : BytesRun). length r.heard) (shared-history t b low high es) ∙ heard-length (jointly ours.slots (room_of ours (length b)) t) es [] in
      ap (heard_by w es) (side-history t b low high es)
      ∙ lists-alone ours.slots (room_of ours (length b)) t w side es hs [] [] n s (quotas-within t [] [] (omega arith) (omega arith))
      ∙ ap (λ (gs : List (List ℕ)). (on_list (alone ours.slots (room_of ours (length b)) t) (calls_of w es) gs).heard) (none (eqb w 1))
    where
      none : (x : Bool) → cond {A = List (List ℕ)} x [] [] ≡ []
      none true = refl
      none false = refl

  -- NO INTERFERENCE: two histories of fresh books of one length, written only by the sides' calls, that agree on one side's calls give that side
  -- the same answers and the same outputs, whatever the other side does and however the calls are interleaved.
  pub no-interference : (b d : List ℕ) → length b ≡ length d → start ours.slots ≤ length b → length b ≤ longest → (w : ℕ) → is_side w ≡ true
      → (es ds : List Event) → by_sides es ≡ true → by_sides ds ≡ true → calls_of w es ≡ calls_of w ds
      → heard_by w es (on_bytes (after_event t) es (made ours b).bytes).heard ≡ heard_by w ds (on_bytes (after_event t) ds (made ours d).bytes).heard
  no-interference b d n low high w side es ds p q e = side-alone b low high w side es p ∙ middle ∙ sym (side-alone d (omega arith) (omega arith) w side ds q)
    where
      middle : (on_list (alone ours.slots (room_of ours (length b)) t) (calls_of w es) []).heard
          ≡ (on_list (alone ours.slots (room_of ours (length d)) t) (calls_of w ds) []).heard
      middle = rw (n, e)
