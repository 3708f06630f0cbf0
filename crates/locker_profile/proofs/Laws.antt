-- What the answer for a book means (REFERENCE, "Locker profile").
--     by-book                       a book cannot be opened, or lacks one of the three settings, or holds them all
--     closed-answer                 and so it gets its own refusal,
--     lacking-answer                22,
--     whole-answer                  or what the rules say of the frames that it holds
--     yes-keeps, keeps-yes          yes exactly where the three are held and each rule is kept
--     broken-breaks, breaks-broken  a rule's number exactly where that rule is broken and those before it are kept
--     missing-lacks                 22 exactly where one of the three is not held
--     books-agree                   two books that hold the same frames of kinds 1, 2 and 4 get one answer
--     asks-decide                   and so do two whose answers to the three asks are the same
--     lora-built                    the arguments that count are those which the checked builder was given, by their names
-- Assumes nothing.
use mathlib.Core.Path.{ap, refl, subst, sym, ◌∙◌, ◌≡◌}
use mathlib.Core.Bool.{Bool, false, true}
use mathlib.Core.List.{List, [], ◌∷◌}
use mathlib.Core.Logic.{inl, inr, ◌⊎◌}
use Prim.Native.Nat.{ℕ, ◌+◌, ◌<◌}
use native.Mathlib.Omega.{arith}
use lib.ListN.{length, take}
use Rattle.refusal.specs.declared.Refusal.{Refusal}
use Rattle.refusal.specs.declared.Refusal.TheVariants.{SettingMissing}
use Rattle.refusal.specs.Numbers.{number_of}
use Rattle.settings.specs.Settings.{slot_for}
use Rattle.contents.specs.Frames.{held}
use Rattle.contents.specs.Contents.{Contents, holds, refused}
use Rattle.decoder.specs.Decoding.{decode}
use Rattle.builder.specs.Building.{checked, makes}
use Rattle.codec.proofs.Laws.{decode-checked}
use Rattle.table.specs.Table.{settings}
use Rattle.std.specs.Prelude.{Err, None, Ok, Option, Result, Some}
use Rattle.book.specs.Book.{Read, opened_for}
use Rattle.book.specs.History.{Ask, Heard, after}
use Rattle.locker_profile.specs.Profile.{Answer, Broken, Refused, Yes, answer_for, answered, frame_for, holds_all, lora_from, lora_in, lora_of, profile_of, profiled}
use Rattle.locker_profile.specs.Rules.{first_broken, rules}
use Rattle.locker_profile.proofs.Rules.{AllKept, Failing, fails-place, kept-none, none_kept, place-fails}
use Rattle.locker_profile.specs.Steps.{asked_of, given, missing_for, withheld}
use Rattle.locker_profile.proofs.Bounds.{opened_for-own, own-not}
use Rattle.locker_profile.proofs.Asking.{all-judged, ask-held, ask-missing, has, refused-first, refused-fourth, refused-second, slots-low}

-- ---- answers apart

-- a number for each answer, by which they are told apart
abbrev tag : Answer → ℕ
tag Yes = 0
tag (Broken n) = 1
tag (Refused x) = 2 + number_of x

broken-yes : (n : ℕ) → Broken n ≡ Yes → ⊥
broken-yes n e = let t : ◌≡◌ {A = ℕ} 1 0 = ap tag e in omega arith

refused-yes : (x : Refusal) → Refused x ≡ Yes → ⊥
refused-yes x e = let t : 2 + number_of x ≡ 0 = ap tag e in omega arith

refused-broken : (x : Refusal) (n : ℕ) → Refused x ≡ Broken n → ⊥
refused-broken x n e = let t : 2 + number_of x ≡ 1 = ap tag e in omega arith

-- ---- the three cases

-- a book that no call may use
pub record Closed (b : List ℕ) : Type 0 where
  pub why : Refusal
  pub opens : opened_for Read b ≡ refused why

-- one that does not hold all of kinds 1, 2 and 4
pub record Lacking (b : List ℕ) : Type 0 where
  pub frames : List (List ℕ)
  pub opens : opened_for Read b ≡ holds frames
  pub one : holds_all frames ≡ false

-- one that does
pub record Whole (b : List ℕ) : Type 0 where
  pub frames : List (List ℕ)
  pub opens : opened_for Read b ≡ holds frames
  pub all : holds_all frames ≡ true

pub by-book : (b : List ℕ) → Closed b ⊎ (Lacking b ⊎ Whole b)
by-book b = by (opened_for Read b) refl
  where
    sorted : (fs : List (List ℕ)) → opened_for Read b ≡ holds fs → (t : Bool) → holds_all fs ≡ t → Closed b ⊎ (Lacking b ⊎ Whole b)
    sorted fs e true h = inr (inr (record { frames = fs; opens = e; all = h }))
    sorted fs e false h = inr (inl (record { frames = fs; opens = e; one = h }))

    by : (c : Contents) → opened_for Read b ≡ c → Closed b ⊎ (Lacking b ⊎ Whole b)
    by (refused x) e = inl (record { why = x; opens = e })
    by (holds fs) e = sorted fs e (holds_all fs) refl

module _ (b : List ℕ) where
  pub closed-answer : (c : Closed b) → answer_for b ≡ Refused c.why
  closed-answer c = ap profiled c.opens

  pub lacking-answer : Lacking b → answer_for b ≡ Refused SettingMissing
  unfolding profile_of
  lacking-answer l = ap profiled l.opens ∙ rw l.one

  pub whole-answer : (w : Whole b) → answer_for b ≡ answered (lora_in w.frames)
  unfolding profile_of
  whole-answer w = ap profiled w.opens ∙ rw w.all

  -- ---- yes

  pub record Keeping : Type 0 where
    pub book : Whole b
    pub kept : AllKept rules (lora_in (book).frames)

  -- YES EXACTLY WHERE ALL SEVEN RULES HOLD of the frames that the book holds
  pub yes-keeps : answer_for b ≡ Yes → Keeping
  yes-keeps e = by (by-book b)
    where
      all-kept : (w : Whole b) (n : Option ℕ) → first_broken 1 rules (lora_in w.frames) ≡ n → ◌≡◌ {A = Answer} (Ok n) Yes → Keeping
      all-kept w None q z = record { book = w; kept = none_kept 1 rules (lora_in w.frames) q }
      all-kept w (Some n) q z = absurd (broken-yes n z)

      by : Closed b ⊎ (Lacking b ⊎ Whole b) → Keeping
      by (inl c) = absurd (refused-yes c.why (sym (closed-answer c) ∙ e))
      by (inr (inl l)) = absurd (refused-yes SettingMissing (sym (lacking-answer l) ∙ e))
      by (inr (inr w)) = all-kept w (first_broken 1 rules (lora_in w.frames)) refl (sym (whole-answer w) ∙ e)

  pub keeps-yes : Keeping → answer_for b ≡ Yes
  keeps-yes k = whole-answer k.book ∙ rw (kept-none 1 rules (lora_in k.book.frames) k.kept)

  -- ---- a rule

  pub record Breaking (n : ℕ) : Type 0 where
    pub book : Whole b
    pub first : Failing 1 n rules (lora_in (book).frames)

  pub broken-breaks : (n : ℕ) → answer_for b ≡ Broken n → Breaking n
  broken-breaks n e = by (by-book b)
    where
      told : (w : Whole b) (m : Option ℕ) → first_broken 1 rules (lora_in w.frames) ≡ m → ◌≡◌ {A = Answer} (Ok m) (Broken n) → Breaking n
      told w None q z = absurd (broken-yes n (sym z))
      told w (Some m) q z =
          let same : m ≡ n = cc in
          record { book = w; first = subst (λ (i : ℕ). Failing 1 i rules (lora_in w.frames)) same (place-fails 1 m rules (lora_in w.frames) q) }

      by : Closed b ⊎ (Lacking b ⊎ Whole b) → Breaking n
      by (inl c) = absurd (refused-broken c.why n (sym (closed-answer c) ∙ e))
      by (inr (inl l)) = absurd (refused-broken SettingMissing n (sym (lacking-answer l) ∙ e))
      by (inr (inr w)) = told w (first_broken 1 rules (lora_in w.frames)) refl (sym (whole-answer w) ∙ e)

  pub breaks-broken : (n : ℕ) → Breaking n → answer_for b ≡ Broken n
  breaks-broken n k =
      let x = lora_in k.book.frames in
      let f = k.first in
      whole-answer k.book ∙ ap (λ (o : Option ℕ). Ok o) (fails-place 1 f.before rules x f.fails) ∙ ap (λ (i : ℕ). Broken i) (sym f.there)

  -- ---- 22

  pub missing-lacks : answer_for b ≡ Refused SettingMissing → Lacking b
  missing-lacks e = by (by-book b)
    where
      judged-no : (n : Option ℕ) → ◌≡◌ {A = Answer} (Ok n) (Refused SettingMissing) → ⊥
      judged-no None q = refused-yes SettingMissing (sym q)
      judged-no (Some n) q = refused-broken SettingMissing n (sym q)

      by : Closed b ⊎ (Lacking b ⊎ Whole b) → Lacking b
      by (inl c) =
          let q : Refused c.why ≡ Refused SettingMissing = sym (closed-answer c) ∙ e in
          let n : 2 + number_of c.why ≡ 24 = ap tag q in
          absurd ((own-not c.why (opened_for-own b c.why c.opens)).1 (omega arith))
      by (inr (inl l)) = l
      by (inr (inr w)) = absurd (judged-no (first_broken 1 rules (lora_in w.frames)) (sym (whole-answer w) ∙ e))

-- ---- other settings change nothing

-- two lists agree on a kind: both hold the same frame, or neither holds one
pub record Agree (fs gs : List (List ℕ)) (k : ℕ) : Type 0 where
  pub there : held (slot_for k) fs ≡ held (slot_for k) gs
  pub same : frame_for k fs ≡ frame_for k gs

others-change-nothing : (fs gs : List (List ℕ)) → Agree fs gs 1 → Agree fs gs 2 → Agree fs gs 4 → profile_of fs ≡ profile_of gs
unfolding profile_of
others-change-nothing fs gs a b c = rw (a.there, b.there, c.there, a.same, b.same, c.same)

-- so two books that hold such lists get one answer
pub books-agree : (b c : List ℕ) (fs gs : List (List ℕ)) → opened_for Read b ≡ holds fs → opened_for Read c ≡ holds gs → Agree fs gs 1 → Agree fs gs 2 → Agree fs gs 4
    → answer_for b ≡ answer_for c
books-agree b c fs gs e f i j k = ap profiled e ∙ others-change-nothing fs gs i j k ∙ sym (ap profiled f)

-- ---- three asks decide

-- the first refusal of three settings, or what the rules say of them
abbrev unless : Result (List ℕ) Refusal → (List ℕ → Answer) → Answer
unless (Ok v) f = f v
unless (Err x) f = Refused x

abbrev decided : Result (List ℕ) Refusal → Result (List ℕ) Refusal → Result (List ℕ) Refusal → Answer
decided one two four =
    unless one (λ (u : List ℕ). unless two (λ (v : List ℕ). unless four (λ (w : List ℕ). answered (lora_from u v w))))

profiled-decided : (c : Contents) → decided (asked_of 1 c) (asked_of 2 c) (asked_of 4 c) ≡ profiled c
profiled-decided c = first (asked_of 1 c) refl
  where
    fourth : (u : List ℕ) → asked_of 1 c ≡ Ok u → (v : List ℕ) → asked_of 2 c ≡ Ok v → (a : Result (List ℕ) Refusal) → asked_of 4 c ≡ a
        → unless a (λ (w : List ℕ). answered (lora_from u v w)) ≡ profiled c
    fourth u d v e (Ok w) f =
        all-judged c u v w (has 1 (asked_of 1 c) c u refl d) (has 2 (asked_of 2 c) c v refl e)
        (has 4 (asked_of 4 c) c w refl f)
    fourth u d v e (Err x) f = refused-fourth c x (asked_of 1 c) refl u d (asked_of 2 c) refl v e (asked_of 4 c) refl f

    second : (u : List ℕ) → asked_of 1 c ≡ Ok u → (a : Result (List ℕ) Refusal) → asked_of 2 c ≡ a
        → unless a (λ (v : List ℕ). unless (asked_of 4 c) (λ (w : List ℕ). answered (lora_from u v w))) ≡ profiled c
    second u d (Ok v) e = fourth u d v e (asked_of 4 c) refl
    second u d (Err x) e = refused-second c x (asked_of 1 c) refl u d (asked_of 2 c) refl e

    first : (a : Result (List ℕ) Refusal) → asked_of 1 c ≡ a
        → unless a (λ (u : List ℕ). unless (asked_of 2 c) (λ (v : List ℕ). unless (asked_of 4 c) (λ (w : List ℕ). answered (lora_from u v w))))
        ≡ profiled c
    first (Ok u) d = second u d (asked_of 2 c) refl
    first (Err x) d = refused-first c x (asked_of 1 c) refl d

-- what is heard of an ask
abbrev heard_of : List ℕ → ℕ → List ℕ → Heard
heard_of b k o = record { answer = (after (Ask k o) b).answer; output = (after (Ask k o) b).output }

-- the setting that it tells of
abbrev told_by : Result ℕ Refusal → List ℕ → Result (List ℕ) Refusal
told_by (Ok m) out = given (decode (take m out))
told_by (Err x) out = withheld (missing_for x)

abbrev told : Heard → Result (List ℕ) Refusal
told h = told_by h.answer h.output

heard-setting : (k : ℕ) → slot_for k < settings → (o : List ℕ) → length o ≡ 12 → (b : List ℕ) → told (heard_of b k o) ≡ asked_of k (opened_for Read b)
heard-setting k a o n b = by (after (Ask k o) b).answer refl
  where
    by : (r : Result ℕ Refusal) → (after (Ask k o) b).answer ≡ r → told_by r (after (Ask k o) b).output ≡ asked_of k (opened_for Read b)
    by (Ok m) e = ask-held k a o n b m (after (Ask k o) b).output (sym e) refl
    by (Err x) e = ask-missing k a o n b x (sym e)

-- TWO BOOKS THAT ANSWER THE THREE ASKS ALIKE GET ONE ANSWER, whatever else they hold, and refused ones too
pub asks-decide : (b c o : List ℕ) → length o ≡ 12 → ((k : ℕ) → (k ≡ 1) ⊎ ((k ≡ 2) ⊎ (k ≡ 4)) → heard_of b k o ≡ heard_of c k o) → answer_for b ≡ answer_for c
asks-decide b c o n e =
    sym (profiled-decided (opened_for Read b))
    ∙ rw (same 1 slots-low.0 (inl refl), same 2 slots-low.1.0 (inr (inl refl)), same 4 slots-low.1.1 (inr (inr refl)))
    (profiled-decided (opened_for Read c))
  where
    same : (k : ℕ) → slot_for k < settings → (k ≡ 1) ⊎ ((k ≡ 2) ⊎ (k ≡ 4)) → asked_of k (opened_for Read b) ≡ asked_of k (opened_for Read c)
    same k a w = sym (heard-setting k a o n b) ∙ ap told (e k w) ∙ heard-setting k a o n c

-- ---- which arguments count

pub lora-built : (s w r o x : ℕ) (f : List ℕ) → checked 1 (s ∷ w ∷ r ∷ o ∷ x ∷ []) ≡ makes f
    → (p n t e i : ℕ) (g : List ℕ) → checked 2 (p ∷ n ∷ t ∷ e ∷ i ∷ []) ≡ makes g
    → (y : ℕ) (h : List ℕ) → checked 4 (y ∷ []) ≡ makes h
    → lora_of f g h ≡ record { sf = s; lora_bw = w; lora_cr = r; ldro = o; header_type = t; crc_en = e; syncword = y }
unfolding lora_of
lora-built s w r o x f a p n t e i g b y h c =
    rw (decode-checked 1 (s ∷ w ∷ r ∷ o ∷ x ∷ []) f a, decode-checked 2 (p ∷ n ∷ t ∷ e ∷ i ∷ []) g b, decode-checked 4 (y ∷ []) h c)
