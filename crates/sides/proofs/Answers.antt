-- What answers a side's call, in the contracts' own words (`after_event`): for every table, caller, request, output and bytes.
--     book-first, ten-first, both_first    a book that does not open is refused for that, whatever the table, the caller and the request are
--     side-seventeen                       else 17 exactly where the side may not call; when it may, in numbers and both ways: `may-call`, `call-may`
--     side-eighteen                        then 18 exactly where the call is for a setting of the other side (`Foreign`), held or not
--     side-eight                           and 8 exactly for a put of a setting of the side with which its own frames exceed its quota (`Exceeds`)
--     replay-own                           a replay tells the side's own frames
-- On the joint list: `side-wrong`, `side-barred`, `side-step`; and what holds of each refusal that a step can give holds of its answer (`step-says`).
-- Assumes nothing.
use mathlib.Core.Path.{ap, refl, subst, sym, ◌∙◌, ◌≡◌}
use mathlib.Core.Bool.{Bool, cond, false, false≢true, not, true, ◌&&◌}
use mathlib.Core.List.{List, ◌++◌}
use mathlib.Core.Logic.{◌⊎◌}
use Prim.Native.Nat.{ℕ, ◌<◌, ◌≤◌}
use native.Mathlib.Omega.{arith}
use borrow.Author.Tests.{eqb-false, eqb-true, le-leb, leb-true, lt-ltb, ltb-true, ne_eqb}
use lib.Dec.{eqb, leb, ltb}
use lib.ListN.{drop, length}
use Rattle.refusal.specs.Numbers.{number_of}
use Rattle.refusal.specs.declared.Refusal.{Refusal}
use Rattle.refusal.specs.declared.Refusal.TheVariants.{BothForms, NoRoom, NotAKind, NotHeld, OtherSide, OutputShort, OwnersWrong}
use Rattle.codec.proofs.Places.{decode-own}
use Rattle.reel.specs.Reel.{reel_of}
use Rattle.table.specs.Table.{action, settings}
use Rattle.settings.specs.Settings.{slot_for, slot_of}
use Rattle.settings.proofs.Settings.{both}
use Rattle.contents.specs.Frames.{flat, held}
use Rattle.contents.specs.Contents.{holds, judge, refused}
use Rattle.forms.specs.Forms.{single}
use Rattle.owners.specs.Owners.{OwnerTable, is_side, owner_of, owns, quota_of, table_right}
use Rattle.owners.proofs.Laws.{Right, means-side, right-table, side-means, table-right}
use Rattle.std.specs.Prelude.{Ok, Err}
use Rattle.book.specs.Plain.{Turn, ask_on, become, clear_on, frame_of, placed, refuse, remove_on, replay_on, tell, without, Answer}
use Rattle.book.specs.Book.{Read, call_for, layout_in, opened, opened_for, room_in}
use Rattle.book.proofs.Calls.{done_refused}
use Rattle.book.proofs.Laws.{put-eight, setting-full}
use Rattle.book.proofs.Places.{Says, Steps, ask-says, clear-says, put-says, remove-says, replay-says}
use Rattle.book.proofs.Versions.{opened_for-refuses}
use Rattle.sides.specs.Parts.{part_of, within_quotas}
use Rattle.sides.specs.Calls.{Ask, Clear, Put, Remove, Replay, Request, amid, barred, edited, foreign, may_call, own_turn, side_on, step_of, wants_of}
use Rattle.sides.specs.Histories.{after_event, by}

-- ---- a side that may call

pub record May (m : ℕ) (t : OwnerTable) (w room : ℕ) (gs hs : List (List ℕ)) : Type 0 where
  pub right : Right m room t
  pub caller : (w ≡ 1) ⊎ (w ≡ 2)
  pub first : length (flat gs) ≤ t.quota1
  pub second : length (flat hs) ≤ t.quota2

module _ (m : ℕ) (t : OwnerTable) (w room : ℕ) (gs hs : List (List ℕ)) where
  pub may-call : may_call m t w room gs hs ≡ true → May m t w room gs hs
  unfolding may_call within_quotas
  may-call e =
      let a = both (table_right m room t) (is_side w && (leb (length (flat gs)) t.quota1 && leb (length (flat hs)) t.quota2)) e in
      let b = both (is_side w) (leb (length (flat gs)) t.quota1 && leb (length (flat hs)) t.quota2) a.1 in
      let c = both (leb (length (flat gs)) t.quota1) (leb (length (flat hs)) t.quota2) b.1 in
      record { right = table-right m room t a.0; caller = side-means w b.0; first = leb-true _ _ c.0; second = leb-true _ _ c.1 }

  pub call-may : May m t w room gs hs → may_call m t w room gs hs ≡ true
  unfolding may_call within_quotas
  call-may M =
      rw (
        right-table m room t M.right,
        means-side w M.caller,
        le-leb (length (flat gs)) t.quota1 M.first,
        le-leb (length (flat hs)) t.quota2 M.second,
      )

-- ---- whose the setting is

-- a slot is a setting's, and not the side's
pub record Others (t : OwnerTable) (w s : ℕ) : Type 0 where
  pub setting : s < settings
  pub other : owner_of t.owners s ≡ w → ⊥

-- A call is for a setting of the other side. An ask for one that the table has no entry for is not.
abbrev pub Foreign : OwnerTable → ℕ → Request → Type 0
Foreign t w (Put f) = Others t w (slot_of f)
Foreign t w (Remove k) = Others t w (slot_for k)
Foreign t w (Ask k) = (slot_for k < length t.owners) × Others t w (slot_for k)
Foreign t w Clear = ⊥
Foreign t w Replay = ⊥

module _ (t : OwnerTable) (w : ℕ) where
  foreign-means : (s : ℕ) → foreign t w s ≡ true → Others t w s
  unfolding owns
  foreign-means s = go (ltb s settings) refl (eqb (owner_of t.owners s) w) refl
    where
      go : (x : Bool) → ltb s settings ≡ x → (y : Bool) → eqb (owner_of t.owners s) w ≡ y → cond x (not y) false ≡ true → Others t w s
      go true p true q e = absurd (false≢true e)
      go true p false q e = record { setting = ltb-true s settings p; other = eqb-false (owner_of t.owners s) w q }
      go false p y q e = absurd (false≢true e)

  means-foreign : (s : ℕ) → Others t w s → foreign t w s ≡ true
  unfolding owns
  means-foreign s n = rw (lt-ltb s settings n.setting, ne_eqb (owner_of t.owners s) w n.other)

  pub barred-means : (c : Request) → barred t w c ≡ true → Foreign t w c
  unfolding barred
  barred-means (Put f) e = foreign-means (slot_of f) e
  barred-means (Remove k) e = foreign-means (slot_for k) e
  barred-means (Ask k) e = go (ltb (slot_for k) (length t.owners)) refl e
    where
      go : (x : Bool) → ltb (slot_for k) (length t.owners) ≡ x → foreign t w (cond x (slot_for k) action) ≡ true
          → (slot_for k < length t.owners) × Others t w (slot_for k)
      go true p h = (ltb-true (slot_for k) (length t.owners) p, foreign-means (slot_for k) h)
      go false p h = absurd (false≢true h)
  barred-means Clear e = absurd (false≢true e)
  barred-means Replay e = absurd (false≢true e)

  pub means-barred : (c : Request) → Foreign t w c → barred t w c ≡ true
  unfolding barred
  means-barred (Put f) n = means-foreign (slot_of f) n
  means-barred (Remove k) n = means-foreign (slot_for k) n
  means-barred (Ask k) n = rw (lt-ltb (slot_for k) (length t.owners) n.0) (means-foreign (slot_for k) n.1)
  means-barred Clear n = absurd n
  means-barred Replay n = absurd n

-- ---- on the joint list

module _ (m : ℕ) (t : OwnerTable) (w room : ℕ) (fs : List (List ℕ)) where
  -- what is wrong with the table, the caller or the quotas comes before all else
  pub side-wrong : may_call m t w room (part_of t 1 fs) (part_of t 2 fs) ≡ false → (c : Request) (o : List ℕ)
      → side_on m t w c o room fs ≡ refuse OwnersWrong o fs
  unfolding side_on
  side-wrong e c o = rw e

  module _ (may : may_call m t w room (part_of t 1 fs) (part_of t 2 fs) ≡ true) where
    -- where 17 is ruled out, 18 is next
    pub side-barred : (c : Request) (o : List ℕ) → barred t w c ≡ true → side_on m t w c o room fs ≡ refuse OtherSide o fs
    unfolding side_on own_turn
    side-barred c o u = rw (may, u)

    -- and then the step of the side's own list
    pub side-step : (c : Request) (o : List ℕ) → barred t w c ≡ false
        → side_on m t w c o room fs ≡ amid (step_of c o (quota_of t w) (part_of t w fs)) (edited t w c fs) fs
    unfolding side_on own_turn
    side-step c o u = rw (may, u)

-- ---- what a step is refused by

module _ (P : Refusal → Type 0) (S : Steps P) where
  pub step-says : (c : Request) (o : List ℕ) (room : ℕ) (gs : List (List ℕ)) → Says P (step_of c o room gs).answer
  step-says (Put f) o room gs = put-says P S f o room gs
  step-says (Remove k) o room gs = remove-says P S k o room gs
  step-says (Ask k) o room gs = ask-says P S k o room gs
  step-says Clear o room gs = clear-says P S o room gs
  step-says Replay o room gs = replay-says P S o room gs

-- by 13 at the most
pub steps_low : (n : ℕ) → 13 ≤ n → Steps (λ x. number_of x ≤ n)
steps_low n h =
    record { room = omega arith; held = omega arith; kind = omega arith; short = omega arith; frame = λ f x e. omega (arith, decode-own f x e) }

apart : (x y : Refusal) → number_of x < number_of y → ◌≡◌ {A = Answer} (Err x) (Err y) → ⊥
apart x y h e = let z : x ≡ y = cc in let n : number_of x ≡ number_of y = ap number_of z in omega arith

-- a frame of a setting of the side, with which the side's own frames would have more bytes than its quota says
pub record Exceeds (t : OwnerTable) (w : ℕ) (f : List ℕ) (gs : List (List ℕ)) : Type 0 where
  pub setting : slot_of f < settings
  pub own : owner_of t.owners (slot_of f) ≡ w
  pub over : quota_of t w < length (flat (placed f gs))

-- only a put can be that
abbrev pub Over : OwnerTable → ℕ → Request → List (List ℕ) → Type 0
Over t w (Put f) gs = Exceeds t w f gs
Over t w (Remove k) gs = ⊥
Over t w (Ask k) gs = ⊥
Over t w Clear gs = ⊥
Over t w Replay gs = ⊥

-- 8 is none of the other requests' refusals
abbrev Fits : Answer → Type 0
Fits a = a ≡ Err NoRoom → ⊥

tell-fits : (x o : List ℕ) (gs : List (List ℕ)) → Fits (tell x o gs).answer
tell-fits x o gs = go (leb (length x) (length o))
  where
    go : (y : Bool)
        → Fits (cond {A = Turn} y (record { answer = Ok (length x); output = x ++ drop (length x) o; frames = gs }) (refuse OutputShort o gs)).answer
    go true e = done_refused (length x) NoRoom e
    go false e = apart NoRoom OutputShort (omega arith) (sym e)

held_fits : (x : Turn) (o : List ℕ) (gs : List (List ℕ)) → Fits x.answer → (y z : Bool)
    → Fits (cond {A = Turn} y (cond z x (refuse NotHeld o gs)) (refuse NotAKind o gs)).answer
held_fits x o gs h true true = h
held_fits x o gs h true false = λ e. apart NoRoom NotHeld (omega arith) (sym e)
held_fits x o gs h false z = λ e. apart NoRoom NotAKind (omega arith) (sym e)

module _ (t : OwnerTable) (w : ℕ) (o : List ℕ) (gs : List (List ℕ)) where
  step-over : (c : Request) → barred t w c ≡ false → (step_of c o (quota_of t w) gs).answer ≡ Err NoRoom → Over t w c gs
  unfolding remove_on ask_on clear_on replay_on
  step-over (Put f) u e =
      let n = put-eight f o (quota_of t w) gs e in record { setting = n.0; own = mine n.0 (eqb (owner_of t.owners (slot_of f)) w) refl; over = n.1 }
    where
      mine : slot_of f < settings → (x : Bool) → eqb (owner_of t.owners (slot_of f)) w ≡ x → owner_of t.owners (slot_of f) ≡ w
      mine a true q = eqb-true (owner_of t.owners (slot_of f)) w q
      mine a false q =
          absurd (false≢true (sym u ∙ means-barred t w (Put f) (record { setting = a; other = eqb-false (owner_of t.owners (slot_of f)) w q })))
  step-over (Remove k) u e = held_fits (become o (without (slot_for k) gs)) o gs (done_refused 0 NoRoom) (ltb (slot_for k) settings) (held (slot_for k) gs) e
  step-over (Ask k) u e =
      held_fits (tell (frame_of (slot_for k) gs) o gs) o gs (tell-fits (frame_of (slot_for k) gs) o gs) (ltb (slot_for k) settings) (held (slot_for k) gs) e
  step-over Clear u e = done_refused 0 NoRoom e
  step-over Replay u e = tell-fits (reel_of gs) o gs e

  over-step : (c : Request) → Over t w c gs → (barred t w c ≡ false) × ((step_of c o (quota_of t w) gs).answer ≡ Err NoRoom)
  over-step (Put f) n =
      (own (barred t w (Put f)) refl, ap (λ (x : Turn). x.answer) ((setting-full f o (quota_of t w) gs n.setting).0 n.over))
    where
      own : (u : Bool) → barred t w (Put f) ≡ u → barred t w (Put f) ≡ false
      own true q = absurd ((barred-means t w (Put f) q).other n.own)
      own false q = q
  over-step (Remove k) n = absurd n
  over-step (Ask k) n = absurd n
  over-step Clear n = absurd n
  over-step Replay n = absurd n

-- ---- on a book's bytes

-- whether a side may call, in the slots and the room that the book has
abbrev pub may_on : OwnerTable → ℕ → List ℕ → List (List ℕ) → Bool
may_on t w b fs = may_call (layout_in b).slots t w (room_in b) (part_of t 1 fs) (part_of t 2 fs)

module _ (t : OwnerTable) (w : ℕ) (c : Request) (o b : List ℕ) where
  -- THE BOOK'S OWN REFUSALS COME FIRST
  pub book-first : (x : Refusal) → opened_for (wants_of c) b ≡ refused x → after_event t (by w c o) b ≡ record { answer = Err x; output = o; bytes = b }
  unfolding call_for
  book-first x e = rw e

  -- its size and its bytes, which get 11 and 10
  pub ten-first : (x : Refusal) → judge (layout_in b) b ≡ refused x → after_event t (by w c o) b ≡ record { answer = Err x; output = o; bytes = b }
  unfolding opened
  ten-first x e = book-first x (opened_for-refuses (wants_of c) b x (rw e))

  -- and a setting that it holds in both its forms, which gets 16
  pub both_first : (fs : List (List ℕ)) → judge (layout_in b) b ≡ holds fs → single fs ≡ false
      → after_event t (by w c o) b ≡ record { answer = Err BothForms; output = o; bytes = b }
  unfolding opened
  both_first fs e n = book-first BothForms (opened_for-refuses (wants_of c) b BothForms (rw (e, n)))

  module _ (fs : List (List ℕ)) (h : opened_for (wants_of c) b ≡ holds fs) where
    on-frames : (after_event t (by w c o) b).answer ≡ (side_on (layout_in b).slots t w c o (room_in b) fs).answer
    unfolding call_for
    on-frames = rw h

    wrong : may_on t w b fs ≡ false → (after_event t (by w c o) b).answer ≡ Err OwnersWrong
    wrong e = on-frames ∙ ap (λ (x : Turn). x.answer) (side-wrong (layout_in b).slots t w (room_in b) fs e c o)

    module _ (may : may_on t w b fs ≡ true) where
      away : barred t w c ≡ true → (after_event t (by w c o) b).answer ≡ Err OtherSide
      away u = on-frames ∙ ap (λ (x : Turn). x.answer) (side-barred (layout_in b).slots t w (room_in b) fs may c o u)

      stepped : barred t w c ≡ false → (after_event t (by w c o) b).answer ≡ (step_of c o (quota_of t w) (part_of t w fs)).answer
      stepped u = on-frames ∙ ap (λ (x : Turn). x.answer) (side-step (layout_in b).slots t w (room_in b) fs may c o u)

    -- so what holds of the answer in each of the three cases holds of it
    by-case : (P : Answer → Type 0) → (may_on t w b fs ≡ false → P (Err OwnersWrong))
        → (may_on t w b fs ≡ true → barred t w c ≡ true → P (Err OtherSide))
        → (may_on t w b fs ≡ true → barred t w c ≡ false → P (step_of c o (quota_of t w) (part_of t w fs)).answer) → P (after_event t (by w c o) b).answer
    by-case P x y z = go (may_on t w b fs) refl (barred t w c) refl
      where
        go : (m : Bool) → may_on t w b fs ≡ m → (u : Bool) → barred t w c ≡ u → P (after_event t (by w c o) b).answer
        go false p u q = subst P (sym (wrong p)) (x p)
        go true p true q = subst P (sym (away p q)) (y p q)
        go true p false q = subst P (sym (stepped p q)) (z p q)

    -- a step gives neither 17 nor 18
    not_step : (x : Refusal) → 13 < number_of x → (step_of c o (quota_of t w) (part_of t w fs)).answer ≡ Err x → ⊥
    not_step x n e =
        let z : number_of x ≤ 13 =
        subst (Says (λ y. number_of y ≤ 13)) e (step-says (λ y. number_of y ≤ 13) (steps_low 13 (omega arith)) c o (quota_of t w) (part_of t w fs)) in
        omega arith

    -- 17 EXACTLY WHERE THE SIDE MAY NOT CALL
    pub side-seventeen : (may_on t w b fs ≡ false → (after_event t (by w c o) b).answer ≡ Err OwnersWrong)
        × ((after_event t (by w c o) b).answer ≡ Err OwnersWrong → may_on t w b fs ≡ false)
    side-seventeen = (
      wrong,
      by-case (λ a. a ≡ Err OwnersWrong → may_on t w b fs ≡ false) (λ p e. p) (λ p q e. absurd (apart OwnersWrong OtherSide (omega arith) (sym e)))
          (λ p q e. absurd (not_step OwnersWrong (omega arith) e)),
    )

    -- 18 EXACTLY WHERE IT MAY, AND THE CALL IS FOR A SETTING OF THE OTHER SIDE
    pub side-eighteen : (may_on t w b fs ≡ true → Foreign t w c → (after_event t (by w c o) b).answer ≡ Err OtherSide)
        × ((after_event t (by w c o) b).answer ≡ Err OtherSide → (may_on t w b fs ≡ true) × Foreign t w c)
    side-eighteen = (
      (λ p n. away p (means-barred t w c n)),
      by-case (λ a. a ≡ Err OtherSide → (may_on t w b fs ≡ true) × Foreign t w c)
          (λ p e. absurd (apart OwnersWrong OtherSide (omega arith) e)) (λ p q e. (p, barred-means t w c q))
          (λ p q e. absurd (not_step OtherSide (omega arith) e)),
    )

    -- 8 EXACTLY WHERE IT MAY, AND ITS OWN FRAMES WITH THE ONE THAT IS PUT EXCEED ITS QUOTA, whatever room the book has
    pub side-eight : (may_on t w b fs ≡ true → Over t w c (part_of t w fs) → (after_event t (by w c o) b).answer ≡ Err NoRoom)
        × ((after_event t (by w c o) b).answer ≡ Err NoRoom → (may_on t w b fs ≡ true) × Over t w c (part_of t w fs))
    side-eight = (
      (λ p n. let s = over-step t w o (part_of t w fs) c n in stepped p s.0 ∙ s.1),
      by-case (λ a. a ≡ Err NoRoom → (may_on t w b fs ≡ true) × Over t w c (part_of t w fs))
          (λ p e. absurd (apart NoRoom OwnersWrong (omega arith) (sym e))) (λ p q e. absurd (apart NoRoom OtherSide (omega arith) (sym e)))
          (λ p q e. (p, step-over t w o (part_of t w fs) c q e)),
    )

-- A REPLAY TELLS THE SIDE'S OWN FRAMES, and nothing of the other's
pub replay-own : (t : OwnerTable) (w : ℕ) (o b : List ℕ) (fs : List (List ℕ)) → opened_for Read b ≡ holds fs → may_on t w b fs ≡ true
    → length (reel_of (part_of t w fs)) ≤ length o
    → ((after_event t (by w Replay o) b).answer ≡ Ok (length (reel_of (part_of t w fs))))
    × ((after_event t (by w Replay o) b).output ≡ reel_of (part_of t w fs) ++ drop (length (reel_of (part_of t w fs))) o)
unfolding call_for side_on own_turn barred replay_on
replay-own t w o b fs h may n = rw (h, may, le-leb (length (reel_of (part_of t w fs))) (length o) n) (refl, refl)
