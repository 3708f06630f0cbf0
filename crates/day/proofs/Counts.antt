-- What a day counts, and what its list is, for every list of records that 64 bits can count.
--     counts-sent            accepted and all refused together are the commands that do not decode to an action
--     counts-skipped         skipped are the answers that are no reading
--     counts-records         and every record is counted
--     counts-accepted        accepted is how many frames the list took
--     day-frames             the list is what these frames give when they are put in order
--     day-done               and none of these puts is refused
--     day-book               so the final book is the book that they give
-- Assumes nothing.
use mathlib.Core.Path.{◌≡◌, refl, sym, ap, ap₂, subst, ◌∙◌}
use mathlib.Core.Bool.{Bool, true, false, cond, not, false≢true}
use mathlib.Core.List.{List, [], ◌∷◌}
use mathlib.Core.Logic.{◌⊎◌, inl, inr}
use Prim.Native.Nat.{ℕ, zero, suc, ◌+◌, ◌≤◌, ◌<◌}
use native.Mathlib.Omega.{arith}
use lib.Dec.{leb, ltb}
use lib.ListN.{length, get_or, set, replicate, length-set}
use borrow.Author.Tests.{not-true}
use Rattle.table.specs.Table.{settings}
use Rattle.settings.specs.Settings.{lacks, slot_for, slot_in, slot_of}
use Rattle.refusal.specs.declared.Refusal.{Refusal}
use Rattle.refusal.specs.declared.Refusal.TheVariants.{NoRoom}
use Rattle.refusal.specs.Numbers.{number_of}
use Rattle.refusal.proofs.Numbers.{number-bounds}
use Rattle.decoder.specs.Decoding.{Reading, reading, refuses, decode}
use Rattle.codec.proofs.Places.{decode-own}
use Rattle.contents.specs.Frames.{flat}
use Rattle.contents.specs.Contents.{image, longest, room_of, start}
use Rattle.std.specs.Prelude.{Ok, Err}
use Rattle.book.specs.Plain.{Turn, become, placed, put_on, refuse, Answer}
use Rattle.book.specs.Book.{made, ours}
use Rattle.book.specs.History.{BytesRun, Heard, after, on_bytes, on_list, turn}
use Rattle.book.proofs.History.{history}
use Rattle.day.specs.declared.Day.{Day}
use Rattle.day.specs.Days.{accepted_one, bumped, fresh, is_action, kind_in, missed, most, noted, on_received, plus, refused_one, tallied}
use Rattle.day.specs.Steps.{Record, State, day_on, morning, on_sent, received, sent, step}
use Rattle.day.specs.Tally.{accepts, accepted_from, is_reading, puts, puttable, sum, unread}
use Rattle.day.proofs.Answers.{answered, fsk-packet, fsk-stats, lora-packet, lora-stats}
use Rattle.day.proofs.Days.{plus-fits, tally-counted}

-- ---- one count more

pub one-of-sum : (l : List ℕ) (i : ℕ) → get_or l i 0 ≤ sum l
unfolding sum
one-of-sum [] i = omega arith
one-of-sum (x ∷ l) zero = omega arith
one-of-sum (x ∷ l) (suc i) = omega (arith, one-of-sum l i)

sum-set : (l : List ℕ) (i : ℕ) → i < length l → sum (set l i (get_or l i 0 + 1)) ≡ suc (sum l)
unfolding sum
sum-set [] i h = absurd (omega arith)
sum-set (x ∷ l) zero h = omega arith
sum-set (x ∷ l) (suc i) h = let e : sum (set l i (get_or l i 0 + 1)) ≡ suc (sum l) = sum-set l i (omega (arith, h)) in omega (arith, e)

sum-bumped : (i : ℕ) (l : List ℕ) → i < length l → sum l < most → sum (bumped i l) ≡ suc (sum l)
unfolding bumped
sum-bumped i l h m = rw (plus-fits (get_or l i 0) 1 (omega (arith, one-of-sum l i, m))) (sum-set l i h)

length-bumped : (i : ℕ) (l : List ℕ) → length (bumped i l) ≡ length l
unfolding bumped
length-bumped i l = length-set l i (plus (get_or l i 0) 1)

-- n records more can be counted
pub record Roomy (n : ℕ) (d : Day) : Type 0 where
  pub puts : d.accepted + sum d.refused + n ≤ most
  pub skips : d.skipped + n ≤ most
  pub all : d.records + n ≤ most
  pub nine : length d.refused ≡ 9

-- ---- a command

which_in : Answer → ℕ
which_in (Ok n) = 0
which_in (Err x) = 1

number_in : Answer → ℕ
number_in (Ok n) = 0
number_in (Err x) = number_of x

-- the numbers by which a put is refused
abbrev pub Putting : Refusal → Type 0
Putting x = ((1 ≤ number_of x) × (number_of x ≤ 5)) ⊎ (number_of x ≡ 8)

-- a put that is no action's is refused by 1 to 5 or by 8
pub put-number : (f : List ℕ) (room : ℕ) (fs : List (List ℕ)) (x : Refusal) → is_action (decode f) ≡ false → (put_on f [] room fs).answer ≡ Err x
    → Putting x
unfolding put_on slot_of number_in which_in
put-number f room fs x a e = go (decode f) refl (ltb (slot_of f) settings) refl (leb (length (flat (placed f fs))) room) a e
  where
    go : (r : Reading) → decode f ≡ r → (y : Bool) → ltb (slot_in r) settings ≡ y → (w : Bool) → is_action r ≡ false
        → (cond {A = Turn} y (cond w (become [] (placed f fs)) (refuse NoRoom [] fs)) (refuse (lacks r) [] fs)).answer ≡ Err x → Putting x
    go r p true q true b k = absurd (let n : ◌≡◌ {A = ℕ} 0 1 = ap which_in k in omega arith)
    go r p true q false b k = inr (sym (ap number_in k))
    go (reading j vs) p false q w b k = absurd (false≢true (sym b ∙ ap not q))
    go (refuses y) p false q w b k =
        let n : number_of y ≡ number_of x = ap number_in k in
        inl (omega (arith, n, (number-bounds y).0), omega (arith, n, decode-own f y p))

pub putting-small : (x : Refusal) → Putting x → number_of x < 9
putting-small x (inl h) = omega (arith, h.1)
putting-small x (inr h) = omega (arith, h)

-- an action has no setting's slot
action-slot : (f : List ℕ) → is_action (decode f) ≡ true → ltb (slot_of f) settings ≡ false
unfolding slot_of
action-slot f a = go (decode f) a
  where
    go : (r : Reading) → is_action r ≡ true → ltb (slot_in r) settings ≡ false
    go (reading k vs) b = not-true (ltb (slot_for k) settings) b
    go (refuses x) b = absurd (false≢true b)

-- what a command makes of a state
pub record Sends (n room : ℕ) (f : List ℕ) (s e : State) : Type 0 where
  pub frames : e.frames ≡ cond (accepts room s.frames f) (placed f s.frames) s.frames
  pub latest : e.day.latest ≡ kind_in (decode f)
  pub accepted : e.day.accepted ≡ cond (accepts room s.frames f) 1 0 + s.day.accepted
  pub skipped : e.day.skipped ≡ s.day.skipped
  pub records : e.day.records ≡ suc s.day.records
  pub tells : e.day.accepted + sum e.day.refused ≡ s.day.accepted + sum s.day.refused + cond (is_action (decode f)) 0 1
  pub roomy : Roomy n e.day

module _ (n room : ℕ) (f : List ℕ) (s : State) (R : Roomy (suc n) s.day) where
  abbrev fs : List (List ℕ)
  fs = s.frames

  abbrev d : Day
  d = s.day

  abbrev k : ℕ
  k = kind_in (decode f)

  one-record : plus d.records 1 ≡ suc d.records
  one-record = plus-fits d.records 1 (omega (arith, R.all)) ∙ omega arith

  noting : accepts room fs f ≡ false → is_action (decode f) ≡ true → Sends n room f s (record { frames = fs; day = noted k d })
  unfolding noted
  noting acc a =
      let none : d.accepted ≡ 0 + d.accepted = omega arith in
      let same : d.accepted + sum d.refused ≡ d.accepted + sum d.refused + 0 = omega arith in
      record {
        frames = ap (λ (t : Bool). cond t (placed f fs) fs) (sym acc);
        latest = refl;
        accepted = none ∙ ap (λ (t : Bool). cond t 1 0 + d.accepted) (sym acc);
        skipped = refl;
        records = one-record;
        tells = same ∙ ap (λ (t : Bool). d.accepted + sum d.refused + cond t 0 1) (sym a);
        roomy = record { puts = omega (arith, R.puts); skips = omega (arith, R.skips); all = omega (arith, R.all, one-record); nine = R.nine };
      }

  accepting : accepts room fs f ≡ true → is_action (decode f) ≡ false
      → Sends n room f s (record { frames = placed f fs; day = accepted_one (noted k d) })
  unfolding noted accepted_one
  accepting acc a =
      let one : plus d.accepted 1 ≡ 1 + d.accepted = plus-fits d.accepted 1 (omega (arith, R.puts)) ∙ omega arith in
      let more : plus d.accepted 1 + sum d.refused ≡ d.accepted + sum d.refused + 1 = omega (arith, one) in
      record {
        frames = ap (λ (t : Bool). cond t (placed f fs) fs) (sym acc);
        latest = refl;
        accepted = one ∙ ap (λ (t : Bool). cond t 1 0 + d.accepted) (sym acc);
        skipped = refl;
        records = one-record;
        tells = more ∙ ap (λ (t : Bool). d.accepted + sum d.refused + cond t 0 1) (sym a);
        roomy = record { puts = omega (arith, R.puts, more); skips = omega (arith, R.skips); all = omega (arith, R.all, one-record); nine = R.nine };
      }

  refusing : (x : Refusal) → accepts room fs f ≡ false → is_action (decode f) ≡ false → number_of x < 9
      → Sends n room f s (record { frames = fs; day = tallied k (Err x) d })
  unfolding noted refused_one
  refusing x acc a h =
      let none : d.accepted ≡ 0 + d.accepted = omega arith in
      let more : sum (bumped (number_of x) d.refused) ≡ suc (sum d.refused) =
      sum-bumped (number_of x) d.refused (omega (arith, R.nine, h)) (omega (arith, R.puts))
      in
      let both : d.accepted + sum (bumped (number_of x) d.refused) ≡ d.accepted + sum d.refused + 1 = omega (arith, more) in
      subst (λ (y : Day). Sends n room f s (record { frames = fs; day = y })) (tally-counted k d (Err x) x refl (number_of x) refl h)
      (record {
        frames = ap (λ (t : Bool). cond t (placed f fs) fs) (sym acc);
        latest = refl;
        accepted = none ∙ ap (λ (t : Bool). cond t 1 0 + d.accepted) (sym acc);
        skipped = refl;
        records = one-record;
        tells = both ∙ ap (λ (t : Bool). d.accepted + sum d.refused + cond t 0 1) (sym a);
        roomy =
            record {
              puts = omega (arith, R.puts, both);
              skips = omega (arith, R.skips);
              all = omega (arith, R.all, one-record);
              nine = length-bumped (number_of x) d.refused ∙ R.nine;
            };
      })

  pub sent_is : Sends n room f s (on_sent room f s)
  unfolding on_sent put_on
  sent_is = go (is_action (decode f)) refl (ltb (slot_of f) settings) refl (leb (length (flat (placed f fs))) room) refl
    where
      turned : Bool → Bool → Turn
      turned y w = cond {A = Turn} y (cond w (become [] (placed f fs)) (refuse NoRoom [] fs)) (refuse (lacks (decode f)) [] fs)

      go : (x : Bool) → is_action (decode f) ≡ x → (y : Bool) → ltb (slot_of f) settings ≡ y → (w : Bool) → leb (length (flat (placed f fs))) room ≡ w
          → Sends n room f s (cond x (record { frames = fs; day = noted k d }) (record { frames = (turned y w).frames; day = tallied k (turned y w).answer d }))
      go true a true b w c = absurd (false≢true (sym (action-slot f a) ∙ b))
      go true a false b w c = noting (ap₂ (λ (t u : Bool). cond t u false) b c) a
      go false a true b true c = accepting (ap₂ (λ (t u : Bool). cond t u false) b c) a
      go false a true b false c = refusing NoRoom (ap₂ (λ (t u : Bool). cond t u false) b c) a (omega arith)
      go false a false b w c =
          refusing (lacks (decode f)) (ap₂ (λ (t u : Bool). cond t u false) b c) a
          (putting-small (lacks (decode f)) (put-number f room fs (lacks (decode f)) a (rw b refl)))

-- ---- an answer

-- what it makes of the numbers
pub record Receives (n : ℕ) (b : List ℕ) (d e : Day) : Type 0 where
  pub latest : e.latest ≡ d.latest
  pub accepted : e.accepted ≡ d.accepted
  pub refused : e.refused ≡ d.refused
  pub skipped : e.skipped ≡ cond (is_reading d.latest b) 0 1 + d.skipped
  pub records : e.records ≡ suc d.records
  pub roomy : Roomy n e

-- a reading: whatever it is of
record Hears (d e : Day) : Type 0 where
  latest : e.latest ≡ d.latest
  accepted : e.accepted ≡ d.accepted
  refused : e.refused ≡ d.refused
  skipped : e.skipped ≡ d.skipped
  records : e.records ≡ plus d.records 1

module _ (n : ℕ) (b : List ℕ) (d : Day) (R : Roomy (suc n) d) where
  one_more : plus d.records 1 ≡ suc d.records
  one_more = plus-fits d.records 1 (omega (arith, R.all)) ∙ omega arith

  hears-is : (e : Day) → Hears d e → is_reading d.latest b ≡ true → Receives n b d e
  hears-is e h t =
      let none : d.skipped ≡ 0 + d.skipped = omega arith in
      let r : e.records ≡ suc d.records = h.records ∙ one_more in
      record {
        latest = h.latest;
        accepted = h.accepted;
        refused = h.refused;
        skipped = h.skipped ∙ none ∙ ap (λ (t : Bool). cond t 0 1 + d.skipped) (sym t);
        records = r;
        roomy =
            record {
              puts = omega (arith, R.puts, h.accepted, ap sum h.refused);
              skips = omega (arith, R.skips, h.skipped);
              all = omega (arith, R.all, r);
              nine = ap length h.refused ∙ R.nine;
            };
      }

  missed-is : is_reading d.latest b ≡ false → Receives n b d (missed d)
  unfolding missed
  missed-is t =
      let one : plus d.skipped 1 ≡ 1 + d.skipped = plus-fits d.skipped 1 (omega (arith, R.skips)) ∙ omega arith in
      record {
        latest = refl;
        accepted = refl;
        refused = refl;
        skipped = one ∙ ap (λ (t : Bool). cond t 0 1 + d.skipped) (sym t);
        records = one_more;
        roomy = record { puts = omega (arith, R.puts); skips = omega (arith, R.skips, one); all = omega (arith, R.all, one_more); nine = R.nine };
      }

  pub received_is : Receives n b d (on_received b d)
  received_is =
      answered b d (Receives n b d)
      (λ e l. hears-is (lora-stats b d) (record { latest = refl; accepted = refl; refused = refl; skipped = refl; records = refl }) (is_one 9 e l))
      (λ e l. hears-is (lora-packet b d) (record { latest = refl; accepted = refl; refused = refl; skipped = refl; records = refl }) (is_one 10 e l))
      (λ e l. hears-is (fsk-stats b d) (record { latest = refl; accepted = refl; refused = refl; skipped = refl; records = refl }) (is_one 22 e l))
      (λ e l. hears-is (fsk-packet b d) (record { latest = refl; accepted = refl; refused = refl; skipped = refl; records = refl }) (is_one 23 e l))
      missed-is
    where
      is_one : (k : ℕ) → d.latest ≡ k → is_reading k b ≡ true → is_reading d.latest b ≡ true
      is_one k e l = ap (λ (j : ℕ). is_reading j b) e ∙ l

-- ---- the counts of a day

module _ (room : ℕ) where
  counts-records-from : (rs : List Record) (s : State) → Roomy (length rs) s.day → (day_on room rs s).day.records ≡ s.day.records + length rs
  unfolding day_on
  counts-records-from [] s R = omega arith
  counts-records-from (sent f ∷ rs) s R =
      let z = sent_is (length rs) room f s R in omega (arith, counts-records-from rs (on_sent room f s) z.roomy, z.records)
  counts-records-from (received b ∷ rs) s R =
      let z = received_is (length rs) b s.day R in
      omega (arith, counts-records-from rs (step room (received b) s) z.roomy, z.records)

  counts-sent-from : (rs : List Record) (s : State) → Roomy (length rs) s.day
      → (day_on room rs s).day.accepted + sum (day_on room rs s).day.refused ≡ s.day.accepted + sum s.day.refused + puttable rs
  unfolding day_on puttable
  counts-sent-from [] s R = omega arith
  counts-sent-from (sent f ∷ rs) s R =
      let z = sent_is (length rs) room f s R in omega (arith, counts-sent-from rs (on_sent room f s) z.roomy, z.tells)
  counts-sent-from (received b ∷ rs) s R =
      let z = received_is (length rs) b s.day R in
      omega (arith, counts-sent-from rs (step room (received b) s) z.roomy, z.accepted, ap sum z.refused)

  counts-skipped-from : (rs : List Record) (s : State) → Roomy (length rs) s.day
      → (day_on room rs s).day.skipped ≡ s.day.skipped + unread s.day.latest rs
  unfolding day_on unread
  counts-skipped-from [] s R = omega arith
  counts-skipped-from (sent f ∷ rs) s R =
      let z = sent_is (length rs) room f s R in
      omega (arith, counts-skipped-from rs (on_sent room f s) z.roomy, z.skipped, ap (λ (k : ℕ). unread k rs) z.latest)
  counts-skipped-from (received b ∷ rs) s R =
      let z = received_is (length rs) b s.day R in
      omega (arith, counts-skipped-from rs (step room (received b) s) z.roomy, z.skipped, ap (λ (k : ℕ). unread k rs) z.latest)

  counts-accepted-from : (rs : List Record) (s : State) → Roomy (length rs) s.day
      → (day_on room rs s).day.accepted ≡ s.day.accepted + length (accepted_from room s.frames rs)
  unfolding day_on accepted_from
  counts-accepted-from [] s R = omega arith
  counts-accepted-from (sent f ∷ rs) s R =
      go (accepts room s.frames f) z.frames z.accepted (counts-accepted-from rs (on_sent room f s) z.roomy)
    where
      z : Sends (length rs) room f s (on_sent room f s)
      z = sent_is (length rs) room f s R

      go : (t : Bool) → (on_sent room f s).frames ≡ cond t (placed f s.frames) s.frames
          → (on_sent room f s).day.accepted ≡ cond t 1 0 + s.day.accepted
          → (day_on room rs (on_sent room f s)).day.accepted ≡ (on_sent room f s).day.accepted + length (accepted_from room (on_sent room f s).frames rs)
          → (day_on room rs (on_sent room f s)).day.accepted
          ≡ s.day.accepted + length (cond t (f ∷ accepted_from room (placed f s.frames) rs) (accepted_from room s.frames rs))
      go true p q ih = omega (arith, ih, q, ap (λ (fs : List (List ℕ)). length (accepted_from room fs rs)) p)
      go false p q ih = omega (arith, ih, q, ap (λ (fs : List (List ℕ)). length (accepted_from room fs rs)) p)
  counts-accepted-from (received b ∷ rs) s R =
      let z = received_is (length rs) b s.day R in
      omega (arith, counts-accepted-from rs (step room (received b) s) z.roomy, z.accepted)

-- ---- of a whole day

module _ (room : ℕ) (rs : List Record) (few : length rs ≤ most) where
  pub fresh-roomy : Roomy (length rs) fresh
  unfolding fresh sum
  fresh-roomy = record { puts = omega (arith, few); skips = omega (arith, few); all = omega (arith, few); nine = refl }

  pub counts-records : (day_on room rs morning).day.records ≡ length rs
  unfolding fresh
  counts-records = omega (arith, counts-records-from room rs morning fresh-roomy)

  pub counts-sent : (day_on room rs morning).day.accepted + sum (day_on room rs morning).day.refused ≡ puttable rs
  unfolding fresh sum
  counts-sent =
      let e : (day_on room rs morning).day.accepted + sum (day_on room rs morning).day.refused ≡ 0 + 0 + puttable rs =
      counts-sent-from room rs morning fresh-roomy
      in
      omega (arith, e)

  pub counts-skipped : (day_on room rs morning).day.skipped ≡ unread 0 rs
  unfolding fresh
  counts-skipped = omega (arith, counts-skipped-from room rs morning fresh-roomy)

  pub counts-accepted : (day_on room rs morning).day.accepted ≡ length (accepted_from room [] rs)
  unfolding fresh
  counts-accepted = omega (arith, counts-accepted-from room rs morning fresh-roomy)

-- ---- the list of a day

module _ (room : ℕ) where
  accepts-put : (f : List ℕ) (fs : List (List ℕ)) → accepts room fs f ≡ true → put_on f [] room fs ≡ become [] (placed f fs)
  unfolding put_on
  accepts-put f fs a = go (ltb (slot_of f) settings) (leb (length (flat (placed f fs))) room) a
    where
      go : (y w : Bool) → cond y w false ≡ true
          → cond {A = Turn} y (cond w (become [] (placed f fs)) (refuse NoRoom [] fs)) (refuse (lacks (decode f)) [] fs) ≡ become [] (placed f fs)
      go true true e = refl
      go true false e = absurd (false≢true e)
      go false w e = absurd (false≢true e)

  pub sent-frames : (f : List ℕ) (s : State) → (on_sent room f s).frames ≡ cond (accepts room s.frames f) (placed f s.frames) s.frames
  unfolding on_sent put_on
  sent-frames f s = go (is_action (decode f)) refl (ltb (slot_of f) settings) refl (leb (length (flat (placed f s.frames))) room)
    where
      fs : List (List ℕ)
      fs = s.frames

      turned : Bool → Bool → Turn
      turned y w = cond {A = Turn} y (cond w (become [] (placed f fs)) (refuse NoRoom [] fs)) (refuse (lacks (decode f)) [] fs)

      go : (x : Bool) → is_action (decode f) ≡ x → (y : Bool) → ltb (slot_of f) settings ≡ y → (w : Bool)
          → (cond {A = State} x (record { frames = fs; day = noted (kind_in (decode f)) s.day })
          (record { frames = (turned y w).frames; day = tallied (kind_in (decode f)) (turned y w).answer s.day })).frames
          ≡ cond (cond y w false) (placed f fs) fs
      go true a true b w = absurd (false≢true (sym (action-slot f a) ∙ b))
      go true a false b w = refl
      go false a true b true = refl
      go false a true b false = refl
      go false a false b w = refl

  day-frames-from : (rs : List Record) (s : State)
      → (day_on room rs s).frames ≡ (on_list (turn room) (puts (accepted_from room s.frames rs)) s.frames).frames
  unfolding day_on accepted_from puts on_list turn
  day-frames-from [] s = refl
  day-frames-from (sent f ∷ rs) s = go (accepts room s.frames f) refl (sent-frames f s) (day-frames-from rs (on_sent room f s))
    where
      given : List (List ℕ) → List (List ℕ)
      given fs = (on_list (turn room) (puts (accepted_from room fs rs)) fs).frames

      go : (t : Bool) → accepts room s.frames f ≡ t → (on_sent room f s).frames ≡ cond t (placed f s.frames) s.frames
          → (day_on room rs (on_sent room f s)).frames ≡ given (on_sent room f s).frames
          → (day_on room rs (on_sent room f s)).frames
          ≡ (on_list (turn room) (puts (cond t (f ∷ accepted_from room (placed f s.frames) rs) (accepted_from room s.frames rs))) s.frames).frames
      go true a p ih =
          ih
          ∙ ap given p
          ∙ ap (λ (t : Turn). (on_list (turn room) (puts (accepted_from room (placed f s.frames) rs)) t.frames).frames) (sym (accepts-put f s.frames a))
      go false a p ih = ih ∙ ap given p
  day-frames-from (received b ∷ rs) s = day-frames-from rs (step room (received b) s)

  pub day-frames : (rs : List Record) → (day_on room rs morning).frames ≡ (on_list (turn room) (puts (accepted_from room [] rs)) []).frames
  day-frames rs = day-frames-from rs morning

  -- every one of these puts is done
  day-done-from : (rs : List Record) (fs : List (List ℕ))
      → (on_list (turn room) (puts (accepted_from room fs rs)) fs).heard ≡ replicate (length (accepted_from room fs rs)) (record { answer = Ok 0; output = [] })
  unfolding accepted_from puts on_list turn
  day-done-from [] fs = refl
  day-done-from (received b ∷ rs) fs = day-done-from rs fs
  day-done-from (sent f ∷ rs) fs = go (accepts room fs f) refl (day-done-from rs (placed f fs)) (day-done-from rs fs)
    where
      done : Heard
      done = record { answer = Ok 0; output = [] }

      go : (t : Bool) → accepts room fs f ≡ t
          → (on_list (turn room) (puts (accepted_from room (placed f fs) rs)) (placed f fs)).heard ≡ replicate (length (accepted_from room (placed f fs) rs)) done
          → (on_list (turn room) (puts (accepted_from room fs rs)) fs).heard ≡ replicate (length (accepted_from room fs rs)) done
          → (on_list (turn room) (puts (cond t (f ∷ accepted_from room (placed f fs) rs) (accepted_from room fs rs))) fs).heard
          ≡ replicate (length (cond t (f ∷ accepted_from room (placed f fs) rs) (accepted_from room fs rs))) done
      go true a ih jh =
          ap (λ (t : Turn). record { answer = t.answer; output = t.output } ∷ (on_list (turn room) (puts (accepted_from room (placed f fs) rs)) t.frames).heard)
          (accepts-put f fs a)
          ∙ ap (λ (l : List Heard). done ∷ l) ih
      go false a ih jh = jh

  pub day-done : (rs : List Record)
      → (on_list (turn room) (puts (accepted_from room [] rs)) []).heard ≡ replicate (length (accepted_from room [] rs)) (record { answer = Ok 0; output = [] })
  day-done rs = day-done-from rs []

-- the bytes of the final book: those of a fresh book after these puts
pub day-book : (b : List ℕ) → start ours.slots ≤ length b → length b ≤ longest → (rs : List Record)
    → (on_bytes after (puts (accepted_from (room_of ours (length b)) [] rs)) (made ours b).bytes).bytes
    ≡ image ours (length b) (day_on (room_of ours (length b)) rs morning).frames
day-book b low high rs =
    ap (λ (x : BytesRun). x.bytes) (history b low high (puts (accepted_from (room_of ours (length b)) [] rs)))
    ∙ ap (image ours (length b)) (sym (day-frames (room_of ours (length b)) rs))
