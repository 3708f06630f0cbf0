-- The refusals of a day by each number, and the last reading of each request, said of the records.
--     counts-refused         the count of a number is how many puts the list refuses by it
--     refused_none           0, 6 and 7 refuse no put
--     last-lora-rx-stats and its like      the reading of the last answer that the request's length fits
--     never-lora-rx-stats and its like     none exactly if there is no such answer
-- Assumes nothing.
use mathlib.Core.Path.{◌≡◌, refl, sym, ap, ap₂, ◌∙◌}
use mathlib.Core.Bool.{Bool, true, false, cond}
use mathlib.Core.List.{List, [], ◌∷◌}
use mathlib.Core.Logic.{inl, inr, ◌↔◌}
use Prim.Native.Nat.{ℕ, suc, ◌+◌, ◌≤◌, ◌<◌}
use native.Mathlib.Omega.{arith}
use lib.Dec.{eqb, ltb}
use lib.ListN.{length, get_or, get_or-replicate, set, replicate}
use lib.Seq.{get_or-set_other, get_or-set_same}
use borrow.Author.Tests.{eqb-true, eqb-false, ne_eqb}
use Rattle.std.specs.Prelude.{None, Some}
use Rattle.refusal.specs.declared.Refusal.{Refusal}
use Rattle.refusal.specs.Numbers.{number_of}
use Rattle.decoder.specs.Decoding.{decode}
use Rattle.cmd_lora.specs.Responses.{lora_rx_stats_rsp, lora_packet_status_rsp}
use Rattle.cmd_fsk.specs.Responses.{fsk_rx_stats_rsp, fsk_packet_status_rsp}
use Rattle.std.specs.Prelude.{Ok, Err}
use Rattle.book.specs.Plain.{placed, put_on, Answer}
use Rattle.day.specs.declared.Day.{Day}
use Rattle.day.specs.Days.{accepted_one, bumped, fresh, is_action, kind_in, missed, most, noted, on_received, plus, refused_one, tallied}
use Rattle.day.specs.Steps.{Record, State, day_on, morning, on_sent, received, sent, step}
use Rattle.day.specs.Tally.{accepts, answers_to, newest, refused_from, refuses_by}
use Rattle.day.proofs.Commands.{latest-tallied}
use Rattle.day.proofs.Days.{plus-fits, tally-counted}
use Rattle.day.proofs.Answers.{answered, reads_of}
use Rattle.day.proofs.Counts.{Putting, Roomy, fresh-roomy, one-of-sum, put-number, putting-small, received_is, sent-frames, sent_is}

-- ---- the latest command

latest-sent : (room : ℕ) (f : List ℕ) (s : State) → (on_sent room f s).day.latest ≡ kind_in (decode f)
unfolding on_sent noted
latest-sent room f s = go (is_action (decode f))
  where
    go : (t : Bool)
        → (cond {A = State} t (record { frames = s.frames; day = noted (kind_in (decode f)) s.day })
        (record {
          frames = (put_on f [] room s.frames).frames;
          day = tallied (kind_in (decode f)) (put_on f [] room s.frames).answer s.day;
        })).day.latest ≡ kind_in (decode f)
    go true = refl
    go false = latest-tallied (kind_in (decode f)) (put_on f [] room s.frames).answer s.day

-- ---- an answer

module _ (b : List ℕ) (d : Day) where
  latest-received : (on_received b d).latest ≡ d.latest
  unfolding missed
  latest-received = answered b d (λ e. e.latest ≡ d.latest) (λ _ _. refl) (λ _ _. refl) (λ _ _. refl) (λ _ _. refl) (λ _. refl)

  refused-received : (on_received b d).refused ≡ d.refused
  unfolding missed
  refused-received = answered b d (λ e. e.refused ≡ d.refused) (λ _ _. refl) (λ _ _. refl) (λ _ _. refl) (λ _ _. refl) (λ _. refl)

-- ---- the last readings

-- A place of the numbers that commands leave alone, and answers only where they are to the request k and have the length m.
record Reads {X : Type 0} (get : Day → X) (read : List ℕ → X) (k m : ℕ) : Type 0 where
  kept : (j : ℕ) (d : Day) → get (noted j d) ≡ get d
  accepts : (d : Day) → get (accepted_one d) ≡ get d
  refuses : (n : ℕ) (d : Day) → get (refused_one n d) ≡ get d
  reads : (b : List ℕ) (d : Day) → get (on_received b d) ≡ cond (cond (eqb d.latest k) (eqb (length b) m) false) (read b) (get d)

module _ {X : Type 0} (get : Day → X) (read : List ℕ → X) (k m : ℕ) (R : Reads get read k m) where
  tallied-get : (j : ℕ) (a : Answer) (d : Day) → get (tallied j a d) ≡ get d
  tallied-get j (Ok n) d = R.accepts (noted j d) ∙ R.kept j d
  tallied-get j (Err x) d = go (ltb (number_of x) 9)
    where
      go : (t : Bool) → get (cond t (refused_one (number_of x) (noted j d)) (noted j d)) ≡ get d
      go true = R.refuses (number_of x) (noted j d) ∙ R.kept j d
      go false = R.kept j d

  sent-get : (room : ℕ) (f : List ℕ) (s : State) → get (on_sent room f s).day ≡ get s.day
  unfolding on_sent
  sent-get room f s = go (is_action (decode f))
    where
      go : (t : Bool)
          → get (cond {A = State} t (record { frames = s.frames; day = noted (kind_in (decode f)) s.day })
          (record {
            frames = (put_on f [] room s.frames).frames;
            day = tallied (kind_in (decode f)) (put_on f [] room s.frames).answer s.day;
          })).day ≡ get s.day
      go true = R.kept (kind_in (decode f)) s.day
      go false = tallied-get (kind_in (decode f)) (put_on f [] room s.frames).answer s.day

  last-from : (room : ℕ) (rs : List Record) (s : State) → get (day_on room rs s).day ≡ newest read (get s.day) (answers_to k m s.day.latest rs)
  unfolding day_on answers_to newest
  last-from room [] s = refl
  last-from room (sent f ∷ rs) s =
      last-from room rs (on_sent room f s)
      ∙ ap₂ (λ (x : X) (j : ℕ). newest read x (answers_to k m j rs)) (sent-get room f s) (latest-sent room f s)
  last-from room (received b ∷ rs) s =
      last-from room rs (step room (received b) s)
      ∙ ap₂ (λ (x : X) (j : ℕ). newest read x (answers_to k m j rs)) (R.reads b s.day) (latest-received b s.day)
      ∙ go (cond (eqb s.day.latest k) (eqb (length b) m) false)
    where
      go : (t : Bool)
          → newest read (cond t (read b) (get s.day)) (answers_to k m s.day.latest rs)
          ≡ newest read (get s.day) (cond t (b ∷ answers_to k m s.day.latest rs) (answers_to k m s.day.latest rs))
      go true = refl
      go false = refl

-- no reading is the last one exactly if there was no such answer, where a reading is never what was there before
newest-none : {X : Type 0} (read : List ℕ → X) (x : X) → ((b : List ℕ) → read b ≡ x → ⊥) → (bs : List (List ℕ)) → (newest read x bs ≡ x) ↔ (bs ≡ [])
unfolding newest
newest-none read x apart [] = ((λ e. refl), λ e. refl)
newest-none read x apart (b ∷ bs) = ((λ e. absurd (newest-some bs b e)), λ e. absurd (let z : ◌≡◌ {A = ℕ} (suc (length bs)) 0 = ap length e in omega arith))
  where
    newest-some : (cs : List (List ℕ)) (c : List ℕ) → newest read (read c) cs ≡ x → ⊥
    newest-some [] c e = apart c e
    newest-some (a ∷ cs) c e = newest-some cs a e

-- ---- of the four requests

module _ (room : ℕ) (rs : List Record) where
  pub last-lora-rx-stats :
      (day_on room rs morning).day.lora_rx_stats ≡ newest (λ b. Some (lora_rx_stats_rsp b)) None (answers_to 9 12 0 rs)
  unfolding fresh noted accepted_one refused_one missed
  last-lora-rx-stats =
      last-from (λ d. d.lora_rx_stats) (λ b. Some (lora_rx_stats_rsp b)) 9 12
      (record {
        kept = λ j d. refl;
        accepts = λ d. refl;
        refuses = λ n d. refl;
        reads = λ b d. reads_of b d (λ e. e.lora_rx_stats) (Some (lora_rx_stats_rsp b)) 9 12 refl refl refl refl refl refl;
      })
      room rs morning

  pub last-lora-packet-status :
      (day_on room rs morning).day.lora_packet_status ≡ newest (λ b. Some (lora_packet_status_rsp b)) None (answers_to 10 8 0 rs)
  unfolding fresh noted accepted_one refused_one missed
  last-lora-packet-status =
      last-from (λ d. d.lora_packet_status) (λ b. Some (lora_packet_status_rsp b)) 10 8
      (record {
        kept = λ j d. refl;
        accepts = λ d. refl;
        refuses = λ n d. refl;
        reads = λ b d. reads_of b d (λ e. e.lora_packet_status) (Some (lora_packet_status_rsp b)) 10 8 refl refl refl refl refl refl;
      })
      room rs morning

  pub last-fsk-rx-stats :
      (day_on room rs morning).day.fsk_rx_stats ≡ newest (λ b. Some (fsk_rx_stats_rsp b)) None (answers_to 22 16 0 rs)
  unfolding fresh noted accepted_one refused_one missed
  last-fsk-rx-stats =
      last-from (λ d. d.fsk_rx_stats) (λ b. Some (fsk_rx_stats_rsp b)) 22 16
      (record {
        kept = λ j d. refl;
        accepts = λ d. refl;
        refuses = λ n d. refl;
        reads = λ b d. reads_of b d (λ e. e.fsk_rx_stats) (Some (fsk_rx_stats_rsp b)) 22 16 refl refl refl refl refl refl;
      })
      room rs morning

  pub last-fsk-packet-status :
      (day_on room rs morning).day.fsk_packet_status ≡ newest (λ b. Some (fsk_packet_status_rsp b)) None (answers_to 23 8 0 rs)
  unfolding fresh noted accepted_one refused_one missed
  last-fsk-packet-status =
      last-from (λ d. d.fsk_packet_status) (λ b. Some (fsk_packet_status_rsp b)) 23 8
      (record {
        kept = λ j d. refl;
        accepts = λ d. refl;
        refuses = λ n d. refl;
        reads = λ b d. reads_of b d (λ e. e.fsk_packet_status) (Some (fsk_packet_status_rsp b)) 23 8 refl refl refl refl refl refl;
      })
      room rs morning

  -- ---- and where there is none

  pub never-lora-rx-stats : ((day_on room rs morning).day.lora_rx_stats ≡ None) ↔ (answers_to 9 12 0 rs ≡ [])
  never-lora-rx-stats =
      rw last-lora-rx-stats
      (newest-none (λ b. Some (lora_rx_stats_rsp b)) None (λ b e. let z : ◌≡◌ {A = ℕ} 0 1 = cc in omega arith)
      (answers_to 9 12 0 rs))

  pub never-lora-packet-status : ((day_on room rs morning).day.lora_packet_status ≡ None) ↔ (answers_to 10 8 0 rs ≡ [])
  never-lora-packet-status =
      rw last-lora-packet-status
      (newest-none (λ b. Some (lora_packet_status_rsp b)) None (λ b e. let z : ◌≡◌ {A = ℕ} 0 1 = cc in omega arith)
      (answers_to 10 8 0 rs))

  pub never-fsk-rx-stats : ((day_on room rs morning).day.fsk_rx_stats ≡ None) ↔ (answers_to 22 16 0 rs ≡ [])
  never-fsk-rx-stats =
      rw last-fsk-rx-stats
      (newest-none (λ b. Some (fsk_rx_stats_rsp b)) None (λ b e. let z : ◌≡◌ {A = ℕ} 0 1 = cc in omega arith)
      (answers_to 22 16 0 rs))

  pub never-fsk-packet-status : ((day_on room rs morning).day.fsk_packet_status ≡ None) ↔ (answers_to 23 8 0 rs ≡ [])
  never-fsk-packet-status =
      rw last-fsk-packet-status
      (newest-none (λ b. Some (fsk_packet_status_rsp b)) None (λ b e. let z : ◌≡◌ {A = ℕ} 0 1 = cc in omega arith)
      (answers_to 23 8 0 rs))

-- ---- refusals by each number

-- one more at the index of a refused put's number, and nowhere else
bumped-each : (l : List ℕ) (i n : ℕ) → length l ≡ 9 → i < 9 → get_or l i 0 < most → get_or (bumped i l) n 0 ≡ cond (eqb i n) 1 0 + get_or l n 0
unfolding bumped
bumped-each l i n nine-long low room = go (eqb i n) refl
  where
    go : (t : Bool) → eqb i n ≡ t → get_or (set l i (plus (get_or l i 0) 1)) n 0 ≡ cond t 1 0 + get_or l n 0
    go true e =
        let s : i ≡ n = eqb-true i n e in
        let one : plus (get_or l i 0) 1 ≡ 1 + get_or l i 0 = plus-fits (get_or l i 0) 1 (omega (arith, room)) ∙ omega arith in
        ap (λ (k : ℕ). get_or (set l i (plus (get_or l i 0) 1)) k 0) (sym s)
        ∙ get_or-set_same l i (plus (get_or l i 0) 1) 0 (omega (arith, nine-long, low))
        ∙ one
        ∙ ap (λ (k : ℕ). 1 + get_or l k 0) s
    go false e =
        let none : get_or l n 0 ≡ 0 + get_or l n 0 = omega arith in
        get_or-set_other l i n (plus (get_or l i 0) 1) 0 (λ q. eqb-false i n e (sym q)) ∙ none

module _ (n room : ℕ) where
  -- what one put adds to the count of n
  abbrev added : List ℕ → List (List ℕ) → ℕ
  added f fs = cond (is_action (decode f)) 0 (cond (refuses_by n (put_on f [] room fs).answer) 1 0)

  sent-each : (m : ℕ) (f : List ℕ) (s : State) → Roomy (suc m) s.day
      → get_or (on_sent room f s).day.refused n 0 ≡ added f s.frames + get_or s.day.refused n 0
  unfolding on_sent noted accepted_one refused_one
  sent-each m f s R = go (is_action (decode f)) refl (put_on f [] room s.frames).answer refl
    where
      same : get_or s.day.refused n 0 ≡ 0 + get_or s.day.refused n 0
      same = omega arith

      go : (t : Bool) → is_action (decode f) ≡ t → (a : Answer) → (put_on f [] room s.frames).answer ≡ a
          → get_or (cond {A = State} t (record { frames = s.frames; day = noted (kind_in (decode f)) s.day })
          (record { frames = (put_on f [] room s.frames).frames; day = tallied (kind_in (decode f)) a s.day })).day.refused n 0
          ≡ cond t 0 (cond (refuses_by n a) 1 0) + get_or s.day.refused n 0
      go true e a q = same
      go false e (Ok j) q = same
      go false e (Err x) q =
          let low : number_of x < 9 = putting-small x (put-number f room s.frames x e q) in
          ap (λ (y : Day). get_or y.refused n 0) (sym (tally-counted (kind_in (decode f)) s.day (Err x) x refl (number_of x) refl low))
          ∙ bumped-each s.day.refused (number_of x) n R.nine low (omega (arith, R.puts, one-of-sum s.day.refused (number_of x)))

  counts-refused-from : (rs : List Record) (s : State) → Roomy (length rs) s.day
      → get_or (day_on room rs s).day.refused n 0 ≡ get_or s.day.refused n 0 + refused_from n room s.frames rs
  unfolding day_on refused_from
  counts-refused-from [] s R = omega arith
  counts-refused-from (sent f ∷ rs) s R =
      let z = sent_is (length rs) room f s R in
      omega (
        arith,
        counts-refused-from rs (on_sent room f s) z.roomy,
        sent-each (length rs) f s R,
        ap (λ (fs : List (List ℕ)). refused_from n room fs rs) (sent-frames room f s),
      )
  counts-refused-from (received b ∷ rs) s R =
      let z = received_is (length rs) b s.day R in
      omega (arith, counts-refused-from rs (step room (received b) s) z.roomy, ap (λ (l : List ℕ). get_or l n 0) (refused-received b s.day))

  pub counts-refused : (rs : List Record) → length rs ≤ most → n < 9 → get_or (day_on room rs morning).day.refused n 0 ≡ refused_from n room [] rs
  unfolding fresh
  counts-refused rs few low =
      let none : ◌≡◌ {A = ℕ} (get_or (replicate 9 0) n 0) 0 = get_or-replicate 9 n 0 0 low in
      omega (arith, counts-refused-from rs morning (fresh-roomy room rs few), none)

  -- by a number that is neither 1 to 5 nor 8 no put is refused
  pub refused_none : (1 ≤ n → 5 < n) → (n ≡ 8 → ⊥) → (rs : List Record) (fs : List (List ℕ)) → refused_from n room fs rs ≡ 0
  unfolding refused_from
  refused_none h k [] fs = refl
  refused_none h k (received b ∷ rs) fs = refused_none h k rs fs
  refused_none h k (sent f ∷ rs) fs =
      let e : added f fs ≡ 0 = go (is_action (decode f)) refl (put_on f [] room fs).answer refl in
      omega (arith, e, refused_none h k rs (cond (accepts room fs f) (placed f fs) fs))
    where
      apart : (x : Refusal) → Putting x → number_of x ≡ n → ⊥
      apart x (inl p) q = omega (arith, p.0, p.1, q, h (omega (arith, p.0, q)))
      apart x (inr p) q = k (sym q ∙ p)

      go : (t : Bool) → is_action (decode f) ≡ t → (a : Answer) → (put_on f [] room fs).answer ≡ a → ◌≡◌ {A = ℕ} (cond t 0 (cond (refuses_by n a) 1 0)) 0
      go true e a q = refl
      go false e (Ok j) q = refl
      go false e (Err x) q = rw (ne_eqb (number_of x) n (apart x (put-number f room fs x e q))) refl
