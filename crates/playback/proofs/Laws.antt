-- What a whole playback promises, in the words of its contract: `plays t b` is all that `play` says of a trace t and a buffer b.
--     play-counted           a smaller count in the header gives the state of that prefix, and no refusal
--     play-cut               the bytes cut behind a record give the same state, with 15 at the cut where records are missing
--     play-behind            what stands behind the last record is never looked at
--     play-between           nor is what stands between the header and the first record
--     play-stopped           on 15 book, counts and readings are those of the records before the fault
--     play-headless          a fault of the header leaves a fresh book
--     play-eleven            where no book can be made it is 11, whatever the trace, and nothing is altered; and nowhere else (`play-size`)
--     fault-play, play-fault      else it is 15 with the place p exactly if the trace is at fault there,
--     done-play, play-done        and done exactly if it is nowhere at fault
--     play-keeps             and no other refusal but 11 and 15 is given
--     play-book              the final book is the book that the accepted frames give when put in order into a fresh one
--     play-sent, play-accepted, play-refused, play-skipped, play-records       what the counts are, said of the records alone
--     play-lora-rx-stats and its like             the last readings, said of the records alone
--     play-never             there is none exactly if there is no answer to that request that has its length
-- That parts cut anywhere give the same is in proofs/Parts.antt.
-- Assumes nothing.
use mathlib.Core.Path.{◌≡◌, refl, sym, ap, ◌∙◌}
use mathlib.Core.Bool.{Bool, true, false, cond}
use mathlib.Core.List.{List, [], ◌∷◌, ◌++◌}
use mathlib.Core.Logic.{◌↔◌, ◌⊎◌, inl, inr}
use mathlib.Core.Option.{Option, none, some}
use Prim.Native.Nat.{ℕ, ◌+◌, ◌≤◌, ◌<◌}
use native.Mathlib.Omega.{arith}
use lib.Dec.{leb, ltb}
use lib.ListN.{length, take, drop, get_or}
use borrow.Author.Tests.{le-leb, leb-false, leb-true}
use Rattle.std.specs.Prelude.{None, Some}
use Rattle.refusal.specs.declared.Refusal.{Refusal}
use Rattle.refusal.specs.declared.Refusal.TheVariants.{BufferSize, TraceFault}
use Rattle.cmd_lora.specs.Responses.{lora_packet_status_rsp, lora_rx_stats_rsp}
use Rattle.cmd_fsk.specs.Responses.{fsk_packet_status_rsp, fsk_rx_stats_rsp}
use Rattle.contents.specs.Contents.{image, longest, room_of, start, word_at}
use Rattle.contents.proofs.Judged.{Bytes}
use Rattle.book.specs.Plain.{Answer}
use Rattle.std.specs.Prelude.{Ok, Err}
use Rattle.book.specs.Book.{made, ours}
use Rattle.book.specs.Book as Call
use Rattle.book.specs.History.{Make, after, on_bytes}
use Rattle.book.proofs.Calls.{done_refused}
use Rattle.day.specs.declared.Day.{Day}
use Rattle.day.specs.Days.{fresh, most}
use Rattle.day.specs.Steps.{Record, State, day_on, morning}
use Rattle.day.specs.Tally.{accepted_from, answers_to, newest, puts, puttable, refused_from, sum, unread}
use Rattle.day.proofs.Counts.{counts-accepted, counts-records, counts-sent, counts-skipped, day-book}
use Rattle.day.proofs.Each.{counts-refused, last-fsk-packet-status, last-fsk-rx-stats, last-lora-packet-status, last-lora-rx-stats}
use Rattle.day.proofs.Each.{never-fsk-packet-status, never-fsk-rx-stats, never-lora-packet-status, never-lora-rx-stats}
use Rattle.playback.specs.Trace.{Found, count_in, end_of, first_in, headed, records_from, recounted, stopped_at, traced}
use Rattle.playback.specs.Plays.{Outcome, Run, answer_of, handed, on_made, plays, run_in, run_on}
use Rattle.playback.proofs.Found.{records-most}
use Rattle.playback.proofs.Traces.{ran, run-cut, run-headless, run-prefix, run-stopped, traced-behind, traced-between}

-- ---- whatever the buffer

-- what a run leaves in a buffer of m bytes
abbrev pub shown : ℕ → Run → Outcome
shown m r = record { played = handed r; bytes = image ours m r.state.frames }

-- nothing of a trace matters but its records and its fault
same-records : (b t u : List ℕ) → traced t ≡ traced u → plays t b ≡ plays u b
unfolding plays run_in
same-records b t u e = go (after Make b).answer
  where
    go : (a : Answer) → on_made t b a ≡ on_made u b a
    go (Err x) = refl
    go (Ok n) = ap (λ (f : Found). shown (length b) (run_on (room_of ours (length b)) f morning)) e

pub play-behind : (b t x : List ℕ) → (traced t).stop ≡ none → plays (t ++ x) b ≡ plays t b
play-behind b t x e = same-records b (t ++ x) t (traced-behind t x e)

-- two traces with the same header and the same bytes from the first record on
pub play-between : (b t u : List ℕ) → 4 ≤ length t → 4 ≤ length u → take 4 t ≡ take 4 u → drop (first_in t) t ≡ drop (first_in t) u
    → plays t b ≡ plays u b
play-between b t u l m e f = same-records b t u (traced-between t u l m e f)

-- a buffer that is too short or too long
pub play-eleven : (t b : List ℕ) → (start ours.slots ≤ length b → longest < length b)
    → plays t b ≡ record { played = record { answer = Err BufferSize; day = fresh }; bytes = b }
unfolding plays made
play-eleven t b h = go (leb (start ours.slots) (length b)) refl (leb (length b) longest) refl
  where
    go : (u : Bool) → leb (start ours.slots) (length b) ≡ u → (v : Bool) → leb (length b) longest ≡ v
        → on_made t b (cond {A = Call.Outcome} u
        (cond v (record { answer = Ok 0; output = []; bytes = image ours (length b) [] }) (record { answer = Err BufferSize; output = []; bytes = b }))
        (record { answer = Err BufferSize; output = []; bytes = b })).answer
        ≡ record { played = record { answer = Err BufferSize; day = fresh }; bytes = b }
    go true p true q = absurd (let k : longest < length b = h (leb-true _ _ p) in omega (arith, k, leb-true (length b) longest q))
    go true p false q = refl
    go false p v q = refl

-- ---- a buffer that a book can be made in

module _ (b : List ℕ) (low : start ours.slots ≤ length b) (high : length b ≤ longest) where
  abbrev room : ℕ
  room = room_of ours (length b)

  pub play-run : (t : List ℕ) → plays t b ≡ shown (length b) (run_in room t)
  unfolding plays made
  play-run t = rw (le-leb (start ours.slots) (length b) low, le-leb (length b) longest high) refl

  -- ---- the answer

  module _ (t : List ℕ) where
    play-answer : (plays t b).played.answer ≡ answer_of (traced t).stop
    unfolding run_in
    play-answer = ap (λ (o : Outcome). o.played.answer) (play-run t)

    pub fault-play : (p : ℕ) → (traced t).stop ≡ some p → (plays t b).played.answer ≡ Err (TraceFault p)
    fault-play p e = play-answer ∙ ap answer_of e

    pub play-fault : (p : ℕ) → (plays t b).played.answer ≡ Err (TraceFault p) → (traced t).stop ≡ some p
    play-fault p e = at (traced t).stop (sym play-answer ∙ e)
      where
        at : (o : Option ℕ) → answer_of o ≡ Err (TraceFault p) → o ≡ some p
        at none q = absurd (done_refused 0 (TraceFault p) q)
        at (some n) q = let z : n ≡ p = cc in ap some z

    pub done-play : (traced t).stop ≡ none → (plays t b).played.answer ≡ Ok 0
    done-play e = play-answer ∙ ap answer_of e

    pub play-done : (plays t b).played.answer ≡ Ok 0 → (traced t).stop ≡ none
    play-done e = nowhere (traced t).stop (sym play-answer ∙ e)
      where
        nowhere : (o : Option ℕ) → answer_of o ≡ Ok 0 → o ≡ none
        nowhere none q = refl
        nowhere (some n) q = absurd (done_refused 0 _ (sym q))

    -- 11 is not given here
    play-sized : (plays t b).played.answer ≡ Err BufferSize → ⊥
    play-sized e = by (traced t).stop (sym play-answer ∙ e)
      where
        by : (o : Option ℕ) → answer_of o ≡ Err BufferSize → ⊥
        by none q = done_refused 0 BufferSize q
        by (some n) q = let z : ◌≡◌ {A = ℕ} 0 1 = cc in omega arith

  -- ---- prefixes

  module _ (t : List ℕ) (h : headed t ≡ true) where
    -- the state of the first m records
    abbrev pub state_of : ℕ → State
    state_of m = day_on room (take m (traced t).records) morning

    pub play-counted : (m : ℕ) → m ≤ length (traced t).records → plays (recounted m t) b ≡ shown (length b) (ran (state_of m) none)
    play-counted m k = play-run (recounted m t) ∙ ap (shown (length b)) (run-prefix t h room m k)

    pub play-cut : (m : ℕ) → m ≤ length (traced t).records
        → plays (take (end_of m t) t) b ≡ shown (length b) (ran (state_of m) (cond (ltb m (count_in t)) (some (end_of m t)) none))
    play-cut m k = play-run (take (end_of m t) t) ∙ ap (shown (length b)) (run-cut t h m k room)

    -- the same trace with the number of the records before the fault in its header is played without a refusal, to the same day and book
    pub play-stopped : let n : ℕ = length (traced t).records in
        plays (recounted n t) b ≡ record { played = record { answer = Ok 0; day = (plays t b).played.day }; bytes = (plays t b).bytes }
    play-stopped =
        let n : ℕ = length (traced t).records in
        play-run (recounted n t)
        ∙ ap (shown (length b)) (run-stopped t h room)
        ∙ ap (λ (o : Outcome). record { played = record { answer = Ok 0; day = o.played.day }; bytes = o.bytes }) (sym (play-run t))

  pub play-headless : (t : List ℕ) → headed t ≡ false → plays t b ≡ shown (length b) (ran morning (some 0))
  play-headless t h = play-run t ∙ ap (shown (length b)) (run-headless t room h)

  -- ---- the book

  pub play-book : (t : List ℕ) → (plays t b).bytes ≡ (on_bytes after (Make ∷ puts (accepted_from room [] (traced t).records)) b).bytes
  unfolding run_in on_bytes
  play-book t = ap (λ (o : Outcome). o.bytes) (play-run t) ∙ sym (day-book b low high (traced t).records)

  -- what a playback's day has of the run's
  of-day : (t : List ℕ) {X : Type 0} (f : Day → X) → f (plays t b).played.day ≡ f (day_on room (traced t).records morning).day
  unfolding run_in
  of-day t f = ap (λ (o : Outcome). f o.played.day) (play-run t)

  -- ---- the counts

  module _ (t : List ℕ) (B : Bytes t) where
    few : length (traced t).records ≤ most
    unfolding traced word_at
    few = go (headed t) refl
      where
        go : (y : Bool) → headed t ≡ y
            → length (cond {A = Found} y (records_from (count_in t) (first_in t) (drop (first_in t) t)) (stopped_at 0)).records ≤ most
        go true e = omega (arith, records-most (count_in t) (first_in t) (drop (first_in t) t), B 0, B (0 + 1))
        go false e = omega arith

    pub play-records : (plays t b).played.day.records ≡ length (traced t).records
    play-records = of-day t (λ d. d.records) ∙ counts-records room (traced t).records few

    pub play-sent : (plays t b).played.day.accepted + sum (plays t b).played.day.refused ≡ puttable (traced t).records
    play-sent = of-day t (λ d. d.accepted + sum d.refused) ∙ counts-sent room (traced t).records few

    pub play-accepted : (plays t b).played.day.accepted ≡ length (accepted_from room [] (traced t).records)
    play-accepted = of-day t (λ d. d.accepted) ∙ counts-accepted room (traced t).records few

    pub play-refused : (n : ℕ) → n < 9 → get_or (plays t b).played.day.refused n 0 ≡ refused_from n room [] (traced t).records
    play-refused n h = of-day t (λ d. get_or d.refused n 0) ∙ counts-refused n room (traced t).records few h

    pub play-skipped : (plays t b).played.day.skipped ≡ unread 0 (traced t).records
    play-skipped = of-day t (λ d. d.skipped) ∙ counts-skipped room (traced t).records few

  -- ---- the readings

  module _ (t : List ℕ) where
    pub play-lora-rx-stats : (plays t b).played.day.lora_rx_stats
        ≡ newest (λ x. Some (lora_rx_stats_rsp x)) None (answers_to 9 12 0 (traced t).records)
    play-lora-rx-stats = of-day t (λ d. d.lora_rx_stats) ∙ last-lora-rx-stats room (traced t).records

    pub play-lora-packet-status : (plays t b).played.day.lora_packet_status
        ≡ newest (λ x. Some (lora_packet_status_rsp x)) None (answers_to 10 8 0 (traced t).records)
    play-lora-packet-status = of-day t (λ d. d.lora_packet_status) ∙ last-lora-packet-status room (traced t).records

    pub play-fsk-rx-stats : (plays t b).played.day.fsk_rx_stats
        ≡ newest (λ x. Some (fsk_rx_stats_rsp x)) None (answers_to 22 16 0 (traced t).records)
    play-fsk-rx-stats = of-day t (λ d. d.fsk_rx_stats) ∙ last-fsk-rx-stats room (traced t).records

    pub play-fsk-packet-status : (plays t b).played.day.fsk_packet_status
        ≡ newest (λ x. Some (fsk_packet_status_rsp x)) None (answers_to 23 8 0 (traced t).records)
    play-fsk-packet-status = of-day t (λ d. d.fsk_packet_status) ∙ last-fsk-packet-status room (traced t).records

    -- none exactly if there is no such answer
    abbrev rs : List Record
    rs = (traced t).records

    pub play-never :
        (((plays t b).played.day.lora_rx_stats ≡ None) ↔ (answers_to 9 12 0 rs ≡ []))
        × (((plays t b).played.day.lora_packet_status ≡ None) ↔ (answers_to 10 8 0 rs ≡ []))
        × (((plays t b).played.day.fsk_rx_stats ≡ None) ↔ (answers_to 22 16 0 rs ≡ []))
        × (((plays t b).played.day.fsk_packet_status ≡ None) ↔ (answers_to 23 8 0 rs ≡ []))
    play-never = (
      rw (of-day t (λ d. d.lora_rx_stats)) (never-lora-rx-stats room rs),
      rw (of-day t (λ d. d.lora_packet_status)) (never-lora-packet-status room rs),
      rw (of-day t (λ d. d.fsk_rx_stats)) (never-fsk-rx-stats room rs),
      rw (of-day t (λ d. d.fsk_packet_status)) (never-fsk-packet-status room rs),
    )

-- ---- refusals, whatever the buffer

pub play-size : (t b : List ℕ) → ((plays t b).played.answer ≡ Err BufferSize) ↔ (start ours.slots ≤ length b → longest < length b)
play-size t b =
    ((λ e low. over low (leb (length b) longest) refl e), λ h. ap (λ (o : Outcome). o.played.answer) (play-eleven t b h))
  where
    over : start ours.slots ≤ length b → (x : Bool) → leb (length b) longest ≡ x → (plays t b).played.answer ≡ Err BufferSize → longest < length b
    over low true q e = absurd (play-sized b low (leb-true (length b) longest q) t e)
    over low false q e = leb-false (length b) longest q

pub play-keeps : (t b : List ℕ) (x : Refusal) → (plays t b).played.answer ≡ Err x
    → ((x ≡ BufferSize) × ((plays t b).bytes ≡ b)) ⊎ ((p : ℕ) × (x ≡ TraceFault p))
unfolding plays made
play-keeps t b x e = go (leb (start ours.slots) (length b)) (leb (length b) longest) e
  where
    answer : Bool → Bool → Answer
    answer u v =
        (cond {A = Call.Outcome} u
        (cond v (record { answer = Ok 0; output = []; bytes = image ours (length b) [] }) (record { answer = Err BufferSize; output = []; bytes = b }))
        (record { answer = Err BufferSize; output = []; bytes = b })).answer

    by : (o : Option ℕ) → answer_of o ≡ Err x → (p : ℕ) × (x ≡ TraceFault p)
    by none q = absurd (done_refused 0 x q)
    by (some p) q = (p, cc)

    go : (u v : Bool) → (on_made t b (answer u v)).played.answer ≡ Err x
        → ((x ≡ BufferSize) × ((on_made t b (answer u v)).bytes ≡ b)) ⊎ ((p : ℕ) × (x ≡ TraceFault p))
    go true true q = inr (by (run_in (room_of ours (length b)) t).stop q)
    go true false q = inl (cc, refl)
    go false v q = inl (cc, refl)
