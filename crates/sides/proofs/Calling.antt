-- What a side's call gives on a book's bytes, by the way that the code went: refused (`wrong-away`, `barred-away`, `put-away`), the book's own
-- refusals first, or one of the book's own calls, which judges the book itself.
-- Assumes nothing.
use mathlib.Core.Path.{ap, ap₂, refl, subst, sym, ◌∙◌, ◌≡◌}
use mathlib.Core.Bool.{Bool, cond, false, true}
use mathlib.Core.List.{List, [], ◌++◌}
use Prim.Native.Nat.{suc, zero, ℕ, ◌+◌, ◌-◌, ◌<◌, ◌≤◌}
use native.Mathlib.Omega.{arith}
use borrow.Author.Tests.{eq-eqb, le-leb, lt-leb, lt-ltb, ltb-true}
use lib.Dec.{eqb, leb, ltb}
use lib.ListN.{drop, length, take}
use Rattle.refusal.specs.declared.Refusal.{Refusal}
use Rattle.refusal.specs.declared.Refusal.TheVariants.{NoRoom, NotAKind, NotHeld, OtherSide, OutputShort, OwnersWrong}
use Rattle.reel.specs.Reel.{Unreeled, reel_of}
use Rattle.reel.proofs.Reels.{reel-whole}
use Rattle.table.specs.Table.{kinds, settings}
use Rattle.settings.specs.Settings.{slot_for, slot_of}
use Rattle.settings.proofs.Settings.{size-high, slot_of-length}
use Rattle.contents.specs.Frames.{flat, held}
use Rattle.contents.specs.Contents.{Contents, Layout, holds, image, longest, offset_at, refused, room_of, start}
use Rattle.contents.proofs.Judged.{Bytes, Reads, judge-reads}
use Rattle.contents.proofs.Loops.{minus-end, minus-step}
use Rattle.owners.specs.Owners.{OwnerTable, is_side, owns, quota_of, table_right}
use Rattle.owners.proofs.Laws.{means-side, owns-other}
use Rattle.std.specs.Prelude.{Ok, Err}
use Rattle.std.specs.Result.{result_and}
use Rattle.book.specs.Plain.{Turn, ask_on, become, clear_on, placed, put_on, refuse, remove_on, replay_on, tell, without, Answer}
use Rattle.book.specs.Book.{Edit, Outcome, Permits, Read, Tells, Use, call_for, layout_in, longest_reel, on_contents, opened, opened_for, ours, room_in, verdict}
use Rattle.book.proofs.Calls.{Gives, opened-bytes, opened-judge, present-held}
use Rattle.book.proofs.Versions.{edit-opened, edit-serves, edit-slots, opened_for-opened, turned-off}
use Rattle.book.proofs.Kept.{Kept, opened-kept, remove-kept}
use Rattle.book.proofs.History.{for-image}
use Rattle.book.proofs.Reading.{stays}
use Rattle.book.proofs.Told.{replay-refused}
use Rattle.sides.specs.Parts.{chosen, part_of, rest_of, within_quotas}
use Rattle.sides.specs.Calls.{Ask, Clear, Put, Remove, Replay, Request, barred, foreign, may_call, named, side_call, side_on, wants_of}
use Rattle.sides.specs.Means.{Retold, behind, emptied, emptied_bytes, may_read, picked, weight_after, weight_from}
use Rattle.sides.proofs.Views.{own-slot}
use Rattle.sides.proofs.Answers.{may-call, side-barred, side-step, side-wrong}
use Rattle.sides.proofs.Means.{ask-means, emptied-rest, put_full, put-means, put-none, remove-means}
use Rattle.sides.proofs.Weighing.{side-weight, weight_is, weight-placed}

-- ---- what the code reads

-- a book that a side may call
pub record Open (t : OwnerTable) (w : ℕ) (b : List ℕ) : Type 0 where
  pub frames : List (List ℕ)
  pub opens : opened (layout_in b) b ≡ holds frames
  pub may : may_call (layout_in b).slots t w (room_in b) (part_of t 1 frames) (part_of t 2 frames) ≡ true

-- what the header says of the quotas is so of the frames
read-may : (t : OwnerTable) (w : ℕ) (b : List ℕ) (fs : List (List ℕ)) → opened (layout_in b) b ≡ holds fs
    → may_read (layout_in b).slots t w (room_in b) b ≡ may_call (layout_in b).slots t w (room_in b) (part_of t 1 fs) (part_of t 2 fs)
unfolding may_read may_call within_quotas
read-may t w b fs h =
    rw (weight_is (layout_in b) b fs h (owns t.owners 1), weight_is (layout_in b) b fs h (owns t.owners 2))

-- a refusal behind what was found of a book is one behind the book's own
pub own_first : (u : Use) (b : List ℕ) (why : Refusal) (found a : Answer) → a ≡ result_and found (Err why) → found ≡ verdict (opened_for u b)
    → a ≡ behind (verdict (opened_for u b)) why
own_first u b why found a e f = e ∙ by found ∙ ap (λ (x : Answer). behind x why) f
  where
    by : (x : Answer) → result_and x (Err why) ≡ behind x why
    by (Ok n) = refl
    by (Err y) = refl

-- what is read of table, caller and quotas, one after the other
module _ (m : ℕ) (t : OwnerTable) (w room : ℕ) (b : List ℕ) where
  pub read_table : table_right m room t ≡ false → false ≡ may_read m t w room b
  unfolding may_read
  read_table e = sym (rw e)

  module _ (right : table_right m room t ≡ true) where
    pub read-caller : is_side w ≡ false → false ≡ may_read m t w room b
    unfolding may_read
    read-caller e = sym (rw (right, e))

    module _ (side : is_side w ≡ true) (r : ℕ) (h : r ≡ weight_from m settings (owns t.owners 1) b 0) where
      pub read_first : t.quota1 < r → false ≡ may_read m t w room b
      unfolding may_read
      read_first l = sym (rw (right, side, lt-leb (weight_from m settings (owns t.owners 1) b 0) t.quota1 (omega arith)))

      pub read-second : r ≤ t.quota1 → (s : ℕ) → s ≡ weight_from m settings (owns t.owners 2) b 0 → leb s t.quota2 ≡ may_read m t w room b
      unfolding may_read
      read-second l s g =
          ap (λ (x : ℕ). leb x t.quota2) g
          ∙ sym (rw (right, side, le-leb (weight_from m settings (owns t.owners 1) b 0) t.quota1 (omega arith)))

-- ---- a side's call

module _ (t : OwnerTable) (w : ℕ) (b : List ℕ) (B : Bytes b) where
  -- a step that refuses and keeps the frames keeps the bytes
  kept-away : (u : Use) (s : List ℕ → ℕ → List (List ℕ) → Turn) (o : List ℕ) (fs : List (List ℕ)) (x : Refusal) → opened_for u b ≡ holds fs
      → s o (room_in b) fs ≡ refuse x o fs → Gives (call_for u s o b) (Err x) o b
  kept-away u s o fs x h e =
      let k = stays u b B fs h s o (ap (λ (y : Turn). y.frames) e) in
      record {
        answer = sym (ap (λ (y : Outcome). y.answer) k ∙ ap (λ (y : Turn). y.answer) e);
        output = sym (ap (λ (y : Outcome). y.output) k ∙ ap (λ (y : Turn). y.output) e);
        bytes = sym (ap (λ (y : Outcome). y.bytes) k);
      }

  -- a refusal that the side's list gives comes behind the book's own
  away : (c : Request) (o : List ℕ) (x : Refusal)
      → ((fs : List (List ℕ)) → opened_for (wants_of c) b ≡ holds fs → side_on (layout_in b).slots t w c o (room_in b) fs ≡ refuse x o fs)
      → (a : Answer) → a ≡ behind (verdict (opened_for (wants_of c) b)) x → Gives (side_call t w c o b) a o b
  away c o x s a e = go (opened_for (wants_of c) b) refl e
    where
      go : (q : Contents) → opened_for (wants_of c) b ≡ q → a ≡ behind (verdict q) x → Gives (side_call t w c o b) a o b
      go (refused y) h r = turned-off (side_on (layout_in b).slots t w c) o b (wants_of c) a y (r ∙ ap verdict (sym h)) r
      go (holds fs) h r =
          subst (λ (y : Answer). Gives (side_call t w c o b) y o b) (sym r)
          (kept-away (wants_of c) (side_on (layout_in b).slots t w c) o fs x h (s fs h))

  -- a step that does to the book's frames what the side's call does is the call
  same-call : (s : List ℕ → ℕ → List (List ℕ) → Turn) (c : Request) (o : List ℕ)
      → ((fs : List (List ℕ)) → opened_for (wants_of c) b ≡ holds fs
      → side_on (layout_in b).slots t w c o (room_in b) fs ≡ s o (room_in b) fs)
      → call_for (wants_of c) s o b ≡ side_call t w c o b
  unfolding call_for
  same-call s c o e = go (opened_for (wants_of c) b) refl
    where
      go : (q : Contents) → opened_for (wants_of c) b ≡ q
          → on_contents (layout_in b) s o b q ≡ on_contents (layout_in b) (side_on (layout_in b).slots t w c) o b q
      go (refused y) h = refl
      go (holds fs) h = sym (rw (e fs h))

  -- a side that may not call
  wrong-frames : may_read (layout_in b).slots t w (room_in b) b ≡ false → (fs : List (List ℕ)) → opened (layout_in b) b ≡ holds fs → (c : Request) (o : List ℕ)
      → side_on (layout_in b).slots t w c o (room_in b) fs ≡ refuse OwnersWrong o fs
  wrong-frames bad fs h c o = side-wrong (layout_in b).slots t w (room_in b) fs (sym (read-may t w b fs h) ∙ bad) c o

  pub wrong-kept : may_read (layout_in b).slots t w (room_in b) b ≡ false → (fs : List (List ℕ)) (c : Request) → opened_for (wants_of c) b ≡ holds fs → (o : List ℕ)
      → Gives (side_call t w c o b) (Err OwnersWrong) o b
  wrong-kept bad fs c h o =
      kept-away (wants_of c) (side_on (layout_in b).slots t w c) o fs OwnersWrong h (wrong-frames bad fs (opened_for-opened (wants_of c) b fs h) c o)

  pub wrong-away : may_read (layout_in b).slots t w (room_in b) b ≡ false → (c : Request) (o : List ℕ) (a : Answer)
      → a ≡ behind (verdict (opened_for (wants_of c) b)) OwnersWrong → Gives (side_call t w c o b) a o b
  wrong-away bad c o = away c o OwnersWrong (λ fs h. wrong-frames bad fs (opened_for-opened (wants_of c) b fs h) c o)

  module _ (good : may_read (layout_in b).slots t w (room_in b) b ≡ true) where
    pub may : (fs : List (List ℕ)) → opened (layout_in b) b ≡ holds fs → may_call (layout_in b).slots t w (room_in b) (part_of t 1 fs) (part_of t 2 fs) ≡ true
    may fs h = sym (read-may t w b fs h) ∙ good

    abbrev pub enter : (fs : List (List ℕ)) → opened (layout_in b) b ≡ holds fs → Open t w b
    enter fs h = record { frames = fs; opens = h; may = may fs h }

    pub barred-away : (c : Request) (o : List ℕ) → barred t w c ≡ true → (a : Answer) → a ≡ behind (verdict (opened_for (wants_of c) b)) OtherSide
        → Gives (side_call t w c o b) a o b
    barred-away c o u =
        away c o OtherSide
        (λ fs h. side-barred (layout_in b).slots t w (room_in b) fs (may fs (opened_for-opened (wants_of c) b fs h)) c o u)

    pub remove-call : (k : ℕ) → barred t w (Remove k) ≡ false → call_for Edit (remove_on k) [] b ≡ side_call t w (Remove k) [] b
    remove-call k u =
        same-call (remove_on k) (Remove k) []
        (λ fs h. remove-means (layout_in b).slots t w (room_in b) fs (may fs (opened_for-opened Edit b fs h)) k [] u)

    pub ask-call : (k : ℕ) (o : List ℕ) → barred t w (Ask k) ≡ false → call_for Read (ask_on k) o b ≡ side_call t w (Ask k) o b
    ask-call k o u = same-call (ask_on k) (Ask k) o (λ fs h. ask-means (layout_in b).slots t w (room_in b) fs (may fs (opened_for-opened Read b fs h))
        (opened-kept (layout_in b) b fs (opened_for-opened Read b fs h)).within k o u)

    -- ---- put

    module _ (f : List ℕ) (s : ℕ) (e : s ≡ slot_of f) (u : barred t w (Put f) ≡ false) where
      -- what is no setting's frame goes to the book's put, which refuses it
      pub put_other : settings ≤ s → call_for Edit (put_on f) [] b ≡ side_call t w (Put f) [] b
      put_other a =
          same-call (put_on f) (Put f) [] (λ fs h. put-none (layout_in b).slots t w (room_in b) fs (may fs (opened_for-opened Edit b fs h)) f [] (omega arith) u)

      module _ (a : s < settings) (held r : ℕ)
          (k : held ≡ cond (eqb w 1) (weight_from (layout_in b).slots settings (owns t.owners 1) b 0)
          (weight_from (layout_in b).slots settings (owns t.owners 2) b 0)) (g : r ≡ weight_after (layout_in b).slots b s held (length f)) where
        low : slot_of f < settings
        low = omega arith

        own : owns t.owners w (slot_of f) ≡ true
        unfolding barred
        own = own-slot t w (slot_of f) u (lt-ltb (slot_of f) settings low)

        weighed : (fs : List (List ℕ)) → opened (layout_in b) b ≡ holds fs → r ≡ length (flat (placed f (part_of t w fs)))
        weighed fs h =
            let M = may-call (layout_in b).slots t w (room_in b) (part_of t 1 fs) (part_of t 2 fs) (may fs h) in
            g
            ∙ ap₂ (λ (x y : ℕ). weight_after (layout_in b).slots b x y (length f)) e
            (k ∙ side-weight (layout_in b).slots b t.owners w (means-side w M.caller) ∙ weight_is (layout_in b) b fs h (owns t.owners w))
            ∙ weight-placed (layout_in b) b fs h t w f low own
            (owns-other t.owners M.right.whole w (slot_of f) ∙ own)

        pub put-call : r ≤ quota_of t w → call_for Edit (put_on f) [] b ≡ side_call t w (Put f) [] b
        put-call q =
            same-call (put_on f) (Put f) []
            (λ fs h. put-means (layout_in b).slots t w (room_in b) fs (may fs (opened_for-opened Edit b fs h)) (omega (arith, edit-slots b fs h))
            (opened-kept (layout_in b) b fs (opened_for-opened Edit b fs h)).sound f [] low u (omega (arith, weighed fs (opened_for-opened Edit b fs h))))

        pub put-away : quota_of t w < r → (x : Answer) → x ≡ behind (verdict (opened_for Edit b)) NoRoom
            → Gives (side_call t w (Put f) [] b) x [] b
        put-away q =
            away (Put f) [] NoRoom
            (λ fs h. put_full (layout_in b).slots t w (room_in b) fs (may fs (opened_for-opened Edit b fs h)) f [] low u
            (omega (arith, weighed fs (opened_for-opened Edit b fs h))))

-- a setting's frame is short
pub setting-short : (f : List ℕ) (s : ℕ) → s ≡ slot_of f → s < settings → length f ≤ 255
setting-short f s e a = let z : slot_of f < settings = omega arith in omega (arith, slot_of-length f z, size-high (slot_of f) z)

-- the code's test of 18, by the slot that the call names
pub foreign-named : (t : OwnerTable) (w s : ℕ) (r x : Bool) → r ≡ foreign t w s → r ≡ x → (c : Request) → s ≡ named t c → barred t w c ≡ x
unfolding barred
foreign-named t w s r x g h c e = ap (foreign t w) (sym e) ∙ sym g ∙ h

-- ---- clear

module _ (n : ℕ) (low : start ours.slots ≤ n) (high : n ≤ longest) where
  -- the book's removals, one by one on its bytes, leave the image of what they leave of its frames
  emptied-image : (q : ℕ → Bool) (c k : ℕ) (fs : List (List ℕ)) → Kept ours.slots (room_of ours n) fs
      → emptied_bytes q c k (image ours n fs) ≡ image ours n (emptied q c k fs)
  unfolding emptied emptied_bytes remove_on
  emptied-image q zero k fs K = refl
  emptied-image q (suc c) k fs K = go (emptied-image q c (k + 1)) (q (slot_for k))
    where
      go : ((gs : List (List ℕ)) → Kept ours.slots (room_of ours n) gs → emptied_bytes q c (k + 1) (image ours n gs) ≡ image ours n (emptied q c (k + 1) gs))
          → (x : Bool)
          → emptied_bytes q c (k + 1) (cond x (call_for Edit (remove_on k) [] (image ours n fs)).bytes (image ours n fs))
          ≡ image ours n (emptied q c (k + 1) (cond x (remove_on k [] 0 fs).frames fs))
      go ih true =
          rw (for-image n low high fs K Edit (remove_on k) [])
          (ih (remove_on k [] (room_of ours n) fs).frames (remove-kept ours.slots (room_of ours n) fs K [] k))
      go ih false = ih fs K

module _ (t : OwnerTable) (w : ℕ) (b : List ℕ) (B : Bytes b) (O : Open t w b) (e : opened_for Edit b ≡ holds O.frames) where
  pub clear-call : (y : List ℕ) → y ≡ emptied_bytes (owns t.owners w) kinds 1 b → Permits (side_call t w Clear [] b) (Ok 0) y
  unfolding call_for barred clear_on
  clear-call y q = (
    rw (e, cleared) refl,
    q
        ∙ ap (emptied_bytes (owns t.owners w) kinds 1) (opened-bytes ours b O.frames B opens)
        ∙ emptied-image (length b) R.small R.big (owns t.owners w) kinds 1 O.frames K
        ∙ ap (image ours (length b)) (emptied-rest t w O.frames K.sound)
        ∙ ap (λ (l : Layout). image l (length b) (rest_of t w O.frames)) (sym own)
        ∙ sym (rw (e, cleared) refl),
  )
    where
      opens : opened ours b ≡ holds O.frames
      opens = edit-opened b O.frames e

      own : layout_in b ≡ ours
      own = (edit-serves b 0 (sym (ap verdict e))).layout

      K : Kept ours.slots (room_of ours (length b)) O.frames
      K = opened-kept ours b O.frames opens

      R : Reads ours b O.frames
      R = judge-reads ours b O.frames (opened-judge ours b O.frames opens)

      cleared : side_on (layout_in b).slots t w Clear [] (room_in b) O.frames ≡ become [] (rest_of t w O.frames)
      cleared = side-step (layout_in b).slots t w (room_in b) O.frames O.may Clear [] refl

-- what the header does not have is not removed
module _ (k : ℕ) (b : List ℕ) (B : Bytes b) where
  pub remove_absent : offset_at b (slot_for k) ≡ 0 → (call_for Edit (remove_on k) [] b).bytes ≡ b
  unfolding call_for remove_on
  remove_absent z = go (opened_for Edit b) refl
    where
      go : (q : Contents) → opened_for Edit b ≡ q → (on_contents (layout_in b) (remove_on k) [] b q).bytes ≡ b
      go (refused x) h = refl
      go (holds fs) h = by (ltb (slot_for k) settings) refl ∙ sym (opened-bytes (layout_in b) b fs B (opened_for-opened Edit b fs h))
        where
          by : (x : Bool) → ltb (slot_for k) settings ≡ x
              → image (layout_in b) (length b) (cond {A = Turn} x (cond (held (slot_for k) fs) (become [] (without (slot_for k) fs)) (refuse NotHeld [] fs))
              (refuse NotAKind [] fs)).frames
              ≡ image (layout_in b) (length b) fs
          by true e =
              rw (
                sym (present-held (layout_in b) b fs (opened-judge (layout_in b) b fs (opened_for-opened Edit b fs h)) (slot_for k)
                    (omega (arith, edit-slots b fs h, ltb-true (slot_for k) settings e))),
                eq-eqb
                    (offset_at b (slot_for k)) 0 z,
              )
          by false e = refl

-- one kind less to take out
pub emptied-on : (q : ℕ → Bool) (k : ℕ) (b : List ℕ) → k ≤ kinds
    → emptied_bytes q (kinds + 1 - k) k b ≡ emptied_bytes q (kinds + 1 - (k + 1)) (k + 1) (cond (q (slot_for k)) (call_for Edit (remove_on k) [] b).bytes b)
unfolding emptied_bytes
emptied-on q k b h = ap (λ (n : ℕ). emptied_bytes q n k b) (minus-step (kinds + 1) k (omega arith))

pub emptied-end : (q : ℕ → Bool) (k : ℕ) (b : List ℕ) → kinds < k → emptied_bytes q (kinds + 1 - k) k b ≡ b
unfolding emptied_bytes
emptied-end q k b h = ap (λ (n : ℕ). emptied_bytes q n k b) (minus-end (kinds + 1) k (omega arith))

-- ---- replay

-- what is told does not depend on the list beside it
tell-apart : (x o : List ℕ) (fs gs : List (List ℕ)) → ((tell x o fs).answer ≡ (tell x o gs).answer) × ((tell x o fs).output ≡ (tell x o gs).output)
tell-apart x o fs gs = go (leb (length x) (length o))
  where
    told : Bool → List (List ℕ) → Turn
    told t hs = cond {A = Turn} t (record { answer = Ok (length x); output = x ++ drop (length x) o; frames = hs }) (refuse OutputShort o hs)

    go : (t : Bool) → ((told t fs).answer ≡ (told t gs).answer) × ((told t fs).output ≡ (told t gs).output)
    go true = (refl, refl)
    go false = (refl, refl)

-- the replay into a buffer for every reel is refused only as the book is
pub replay-away : (b o : List ℕ) → longest_reel ≤ length o → (t : OwnerTable) (w : ℕ) (out : List ℕ) (a : Answer) (x : Refusal)
    → a ≡ (call_for Read replay_on o b).answer → a ≡ Err x → Gives (side_call t w Replay out b) a out b
replay-away b o long t w out a x e z =
    turned-off (side_on (layout_in b).slots t w Replay) out b Read a x (z ∙ sym (ap verdict (replay-refused b o long a x e z))) z

-- what is picked of it is the side's replay
pub replay-call : (t : OwnerTable) (w : ℕ) (b : List ℕ) (O : Open t w b) → opened_for Read b ≡ holds O.frames → (o reel : List ℕ) (n : ℕ)
    → take (n - 0) reel ≡ reel_of O.frames → (a : Answer) (y : List ℕ) → Retold (picked (owns t.owners w) (take (n - 0) reel)) o a y
    → Tells (side_call t w Replay o b) a y
unfolding call_for barred replay_on picked
replay-call t w b O f o reel n r a y g =
    let part : picked (owns t.owners w) (take (n - 0) reel) ≡ reel_of (part_of t w O.frames) =
    ap (picked (owns t.owners w)) r ∙ ap (λ (u : Unreeled). reel_of (chosen (owns t.owners w) u.frames)) (reel-whole O.frames) in
    let e = side-step (layout_in b).slots t w (room_in b) O.frames O.may Replay o refl in
    let k = tell-apart (reel_of (part_of t w O.frames)) o (part_of t w O.frames) [] in (
      g.0 ∙ ap (λ (x : List ℕ). (tell x o []).answer) part ∙ sym k.0 ∙ sym (rw (f, e) refl),
      g.1 ∙ ap (λ (x : List ℕ). (tell x o []).output) part ∙ sym k.1 ∙ sym (rw (f, e) refl),
    )
