-- What the value of an answer says that C is handed; proofs/Whole.antt has the other structs.
--     book-told, side-told, banks-told, text-told, profile-told     whatever is called, a refusal has value 0, and what is done place 0
--     ask-wrote, replay-wrote, side-ask-wrote, side-replay-wrote, text-wrote     the value of what is done is the number of bytes that were written: of
--         a frame of the kind, of the reel of the list, of the text
--     check-count, find-count     for banks it is how many there are
-- Assumes nothing.
use mathlib.Core.Path.{◌≡◌, refl, ap, subst, ◌∙◌}
use mathlib.Core.Bool.{Bool, true, false, cond}
use mathlib.Core.List.{List, [], ◌++◌}
use Prim.Native.Nat.{ℕ, ◌<◌}
use native.Mathlib.Omega.{arith}
use lib.Dec.{leb, ltb}
use lib.ListN.{drop, length, take}
use lib.Seq.{take-append_seam}
use Rattle.refusal.specs.declared.Refusal.{Refusal}
use Rattle.refusal.specs.declared.Refusal.TheVariants.{NotAKind, NotHeld, OtherSide, OutputShort, OwnersWrong, UnknownCode}
use Rattle.refusal.proofs.Numbers.{number-bounds}
use Rattle.table.specs.Table.{settings}
use Rattle.settings.specs.Settings.{slot_for}
use Rattle.reel.specs.Reel.{reel_of}
use Rattle.contents.specs.Frames.{held}
use Rattle.contents.specs.Contents.{Contents, holds, refused, room_of}
use Rattle.std.specs.Prelude.{Result, Ok, Err}
use Rattle.dump_text.specs.Whole.{filled}
use Rattle.std.specs.Prelude.{Ok, Err}
use Rattle.book.specs.Plain.{Turn, ask_on, frame_of, refuse, replay_on, tell, Answer}
use Rattle.book.specs.Book.{Outcome, Read, Use, call_for, layout_in, on_contents, opened_for}
use Rattle.book.specs.History.{Ask, Call, Replay, after}
use Rattle.book.proofs.Laws.{DecodesTo, ask-decodes}
use Rattle.owners.specs.Owners.{OwnerTable, quota_of}
use Rattle.sides.specs.Calls as side
use Rattle.sides.specs.Calls.{Request, amid, barred, edited, may_call, own_turn, side_on, step_of}
use Rattle.sides.specs.Histories.{after_event, by}
use Rattle.sides.specs.Parts.{part_of}
use Rattle.std.specs.Prelude.{Result, Ok, Err}
use Rattle.bank_widths.specs.Lists.{found, found_in, judged}
use Rattle.bank_widths.proofs.Laws.{accepts-all, found-accepted}
use Rattle.locker_profile.specs.Profile as profile
use Rattle.hoardbutton.specs.declared.answers.HbAnswer.{HbAnswer}
use Rattle.hoardbutton.specs.Answers.{answer_c, done_c, refused_c}
use Rattle.hoardbutton.specs.Profiles.{profile_c}
use Rattle.hoardbutton.specs.Reels.{text_c}

-- ---- refused and done

-- one of each: seven bytes written, and refusal 5 at byte 4
pub examples : (done_c 7 ≡ record { refusal = 0; place = 0; value = 7 }) × (refused_c (UnknownCode 4) ≡ record { refusal = 5; place = 4; value = 0 })
examples = (refl, refl)

pub record Told (r : HbAnswer) : Type 0 where
  pub value : 0 < r.refusal → r.value ≡ 0
  pub place : r.refusal ≡ 0 → r.place ≡ 0

done-told : (n : ℕ) → Told (done_c n)
done-told n = record { value = λ h. absurd (omega arith); place = λ e. refl }

refused-told : (x : Refusal) → Told (refused_c x)
refused-told x = record { value = λ h. refl; place = λ e. absurd (omega (arith, (number-bounds x).0)) }

answer-told : (a : Answer) → Told (answer_c a)
answer-told (Ok n) = done-told n
answer-told (Err x) = refused-told x

pub book-told : (c : Call) (b : List ℕ) → Told (answer_c (after c b).answer)
book-told c b = answer-told (after c b).answer

pub side-told : (t : OwnerTable) (w : ℕ) (c : Request) (o b : List ℕ) → Told (answer_c (after_event t (by w c o) b).answer)
side-told t w c o b = answer-told (after_event t (by w c o) b).answer

pub banks-told : (a : Result ℕ Refusal) → Told (answer_c a)
banks-told = answer-told

pub text-told : (d : Result ℕ Refusal) → Told (answer_c d)
text-told = answer-told

pub profile-told : (a : profile.Answer) → Told (profile_c a)
profile-told profile.Yes = done-told 0
profile-told (profile.Broken n) = done-told n
profile-told (profile.Refused x) = refused-told x

-- ---- bytes written

-- a text of which P holds stands at the front of the output, all behind it is as it was, and the value is how long the text is
pub record Wrote (P : List ℕ → Type 0) (before : List ℕ) (r : HbAnswer) (after : List ℕ) : Type 0 where
  pub text : List ℕ
  pub own : P text
  pub many : r.value ≡ length text
  pub stands : after ≡ text ++ drop (length text) before

pub text-wrote : (text out : List ℕ) → (text_c text out).refusal ≡ 0 → Wrote (λ x. x ≡ text) out (text_c text out) (filled text out)
text-wrote text out = go (leb (length text) (length out))
  where
    go : (t : Bool) → (answer_c (cond t (Ok (length text)) (Err OutputShort))).refusal ≡ 0
        → Wrote (λ x. x ≡ text) out (answer_c (cond t (Ok (length text)) (Err OutputShort))) (cond t (text ++ drop (length text) out) out)
    go true e = record { text = text; own = refl; many = refl; stands = refl }
    go false e = absurd (omega (arith, e))

-- a turn that is done wrote such a text
abbrev Writes : (List ℕ → Type 0) → List ℕ → Turn → Type 0
Writes P o t = (answer_c t.answer).refusal ≡ 0 → Wrote P o (answer_c t.answer) t.output

module _ (P : List ℕ → Type 0) (o : List ℕ) (fs : List (List ℕ)) where
  refuse-writes : (y : Refusal) → Writes P o (refuse y o fs)
  refuse-writes y e = absurd (omega (arith, e, (number-bounds y).0))

  tell-writes : (x : List ℕ) → P x → Writes P o (tell x o fs)
  tell-writes x h = go (leb (length x) (length o))
    where
      go : (t : Bool)
          → Writes P o (cond {A = Turn} t (record { answer = Ok (length x); output = x ++ drop (length x) o; frames = fs }) (refuse OutputShort o fs))
      go true e = record { text = x; own = h; many = refl; stands = refl }
      go false e = refuse-writes OutputShort e

  held_writes : (t : Turn) → Writes P o t → (a b : Bool) → Writes P o (cond {A = Turn} a (cond b t (refuse NotHeld o fs)) (refuse NotAKind o fs))
  held_writes t h true true = h
  held_writes t h true false = refuse-writes NotHeld
  held_writes t h false b = refuse-writes NotAKind

-- what an ask writes decodes to the kind asked for, and so has the length of that kind
ask-writes : (k : ℕ) (o : List ℕ) (room : ℕ) (fs : List (List ℕ)) → Writes (DecodesTo k) o (ask_on k o room fs)
unfolding ask_on
ask-writes k o room fs e =
    go (ask_on k o room fs).answer refl e
    (held_writes any o fs (tell x o fs) (tell-writes any o fs x tt) (ltb (slot_for k) settings) (held (slot_for k) fs) e)
  where
    x : List ℕ
    x = frame_of (slot_for k) fs

    any : List ℕ → Type 0
    any y = Unit {0}

    go : (a : Answer) → (ask_on k o room fs).answer ≡ a → (answer_c a).refusal ≡ 0 → Wrote any o (answer_c a) (ask_on k o room fs).output
        → Wrote (DecodesTo k) o (answer_c a) (ask_on k o room fs).output
    go (Err y) q z w = absurd (omega (arith, z, (number-bounds y).0))
    go (Ok n) q z w =
        let same : take n (ask_on k o room fs).output ≡ w.text =
        ap (λ (m : ℕ). take m (ask_on k o room fs).output) w.many
        ∙ ap (take (length w.text)) w.stands
        ∙ take-append_seam w.text (drop (length w.text) o)
        in
        record { text = w.text; own = subst (DecodesTo k) same (ask-decodes k o room fs n q); many = w.many; stands = w.stands }

replay-writes : (o : List ℕ) (room : ℕ) (fs : List (List ℕ)) → Writes (λ x. x ≡ reel_of fs) o (replay_on o room fs)
unfolding replay_on
replay-writes o room fs = tell-writes (λ x. x ≡ reel_of fs) o fs (reel_of fs) refl

-- a side's call writes what its own list does
side-writes : (P : List ℕ → Type 0) (m : ℕ) (t : OwnerTable) (w : ℕ) (c : Request) (o : List ℕ) (room : ℕ) (fs : List (List ℕ))
    → Writes P o (step_of c o (quota_of t w) (part_of t w fs)) → Writes P o (side_on m t w c o room fs)
unfolding side_on own_turn
side-writes P m t w c o room fs h = go (may_call m t w room (part_of t 1 fs) (part_of t 2 fs)) (barred t w c)
  where
    gs : List (List ℕ)
    gs = part_of t w fs

    go : (a b : Bool) → Writes P o
        (cond {A = Turn} a (amid (cond b (refuse OtherSide o gs) (step_of c o (quota_of t w) gs)) (edited t w c fs) fs) (refuse OwnersWrong o fs))
    go true true = refuse-writes P o gs OtherSide
    go true false = h
    go false b = refuse-writes P o fs OwnersWrong

-- the list that a call finds; none where the book is refused
abbrev pub list_in : Contents → List (List ℕ)
list_in (refused x) = []
list_in (holds fs) = fs

call-wrote : (u : Use) (s : List ℕ → ℕ → List (List ℕ) → Turn) (P : List (List ℕ) → List ℕ → Type 0) (o b : List ℕ)
    → ((room : ℕ) (fs : List (List ℕ)) → Writes (P fs) o (s o room fs)) → (answer_c (call_for u s o b).answer).refusal ≡ 0
    → Wrote (P (list_in (opened_for u b))) o (answer_c (call_for u s o b).answer) (call_for u s o b).output
unfolding call_for
call-wrote u s P o b h = go (opened_for u b)
  where
    go : (c : Contents) → (answer_c (on_contents (layout_in b) s o b c).answer).refusal ≡ 0
        → Wrote (P (list_in c)) o (answer_c (on_contents (layout_in b) s o b c).answer) (on_contents (layout_in b) s o b c).output
    go (refused x) e = absurd (omega (arith, e, (number-bounds x).0))
    go (holds fs) e = h (room_of (layout_in b) (length b)) fs e

pub ask-wrote : (k : ℕ) (o b : List ℕ) → (answer_c (after (Ask k o) b).answer).refusal ≡ 0
    → Wrote (DecodesTo k) o (answer_c (after (Ask k o) b).answer) (after (Ask k o) b).output
ask-wrote k o b = call-wrote Read (ask_on k) (λ fs. DecodesTo k) o b (ask-writes k o)

pub replay-wrote : (o b : List ℕ) → (answer_c (after (Replay o) b).answer).refusal ≡ 0
    → Wrote (λ x. x ≡ reel_of (list_in (opened_for Read b))) o (answer_c (after (Replay o) b).answer) (after (Replay o) b).output
replay-wrote o b = call-wrote Read replay_on (λ fs x. x ≡ reel_of fs) o b (replay-writes o)

module _ (t : OwnerTable) (w : ℕ) where
  abbrev sided : Request → List ℕ → List ℕ → Outcome
  sided c o b = after_event t (by w c o) b

  pub side-ask-wrote : (k : ℕ) (o b : List ℕ) → (answer_c (sided (side.Ask k) o b).answer).refusal ≡ 0
      → Wrote (DecodesTo k) o (answer_c (sided (side.Ask k) o b).answer) (sided (side.Ask k) o b).output
  side-ask-wrote k o b =
      call-wrote Read (side_on (layout_in b).slots t w (side.Ask k)) (λ fs. DecodesTo k) o b
      (λ room fs. side-writes (DecodesTo k) (layout_in b).slots t w (side.Ask k) o room fs (ask-writes k o (quota_of t w) (part_of t w fs)))

  pub side-replay-wrote : (o b : List ℕ) → (answer_c (sided side.Replay o b).answer).refusal ≡ 0
      → Wrote (λ x. x ≡ reel_of (part_of t w (list_in (opened_for Read b)))) o (answer_c (sided side.Replay o b).answer) (sided side.Replay o b).output
  side-replay-wrote o b =
      call-wrote Read (side_on (layout_in b).slots t w side.Replay) (λ fs x. x ≡ reel_of (part_of t w fs)) o b
      (λ room fs. side-writes (λ x. x ≡ reel_of (part_of t w fs)) (layout_in b).slots t w side.Replay o room fs
      (replay-writes o (quota_of t w) (part_of t w fs)))

-- ---- banks

pub check-count : (ns cs : List ℕ) → (answer_c (judged ns cs)).refusal ≡ 0 → (answer_c (judged ns cs)).value ≡ length ns
check-count ns cs = go (judged ns cs) refl
  where
    go : (a : Result ℕ Refusal) → judged ns cs ≡ a → (answer_c a).refusal ≡ 0 → (answer_c a).value ≡ length ns
    go (Ok n) e z = (accepts-all ns cs n e).2
    go (Err x) e z = absurd (omega (arith, z, (number-bounds x).0))

pub find-count : (ns out : List ℕ) → (answer_c (found ns (length out))).refusal ≡ 0 → (answer_c (found ns (length out))).value ≡ length ns
find-count ns out = go (found ns (length out)) refl
  where
    go : (a : Result ℕ Refusal) → found ns (length out) ≡ a → (answer_c a).refusal ≡ 0 → (answer_c a).value ≡ length ns
    go (Ok n) e z = (accepts-all ns (found_in ns out) n (found-accepted ns out n e).1).2
    go (Err x) e z = absurd (omega (arith, z, (number-bounds x).0))
