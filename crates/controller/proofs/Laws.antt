-- THE CONTROLLER, OVER EVERY BOOK AND EVERY LIST OF STATUSES. Whatever bytes open, stored or made: a book of no frames is done at once (`empty-done`), any
-- other starts with no frame sent (`some-running`). Of n frames, n above 0: it stops at the first frame that its status says went wrong (`first-stopped`)
-- and at no other (`stopped-first`), and not where there is none (`none_runs`, `none_done`); it is done or stopped within n + 1 steps
-- (`ends-within`). The frames sent are the replay's, in order, each once, through the step that stops (`first-sent`, `none_runs`, `none_done`, `sent-replay`).
-- Behind the end nothing is sent (`done-sends`, `stopped-sends`, `past-sends`, `none-sends`). What is refused is what a read refuses, in every state
-- (`refused_all`, `refused-own`), by 11, 10 or 16 (`refused-numbers`).
-- Assumes nothing.
use mathlib.Core.Path.{ap, ap₂, refl, subst, sym, ◌∙◌, ◌≡◌}
use mathlib.Core.Bool.{Bool, cond, false, false≢true, true, ◌&&◌}
use mathlib.Core.List.{List, [], ◌∷◌}
use mathlib.Core.Logic.{inl, inr, ◌⊎◌}
use Prim.Native.Nat.{suc, zero, ℕ, ◌+◌, ◌-◌, ◌<◌, ◌≤◌}
use native.Mathlib.Omega.{arith}
use borrow.Author.Tests.{eq-eqb, eqb-false, eqb-true, le-leb, leb-false, leb-true, lt-leb, ne_eqb}
use lib.Dec.{eqb, leb}
use lib.ListN.{get_or, length, take}
use lib.Seq.{take_all}
use Rattle.refusal.specs.declared.Refusal.{Refusal}
use Rattle.refusal.specs.Numbers.{number_of, place_of}
use Rattle.reel.specs.Reel.{reel_of, unreel}
use Rattle.reel.proofs.Reels.{reel-whole}
use Rattle.status.specs.declared.CmdStatus.{CmdStatus}
use Rattle.status.specs.declared.CmdStatus.TheVariants as cmd
use Rattle.status.specs.Codes.{cmds, good_cmd}
use Rattle.status.specs.Notation.{field, wide}
use Rattle.contents.specs.Contents.{Contents, holds, refused}
use Rattle.contents.proofs.Places.{judge-own, judge-place}
use Rattle.std.specs.Prelude.{Ok, Err, Option, None, Some}
use Rattle.book.specs.Book.{Read, layout_in, longest_reel, opened_for}
use Rattle.book.specs.History.{Replay, after}
use Rattle.book.proofs.Told.{Fits, Replayed, opened-fits, replay-told}
use Rattle.book.proofs.Versions.{opened_for-opened}
use Rattle.book.proofs.Places.{opened_for-says}
use Rattle.controller.specs.declared.State.{State}
use Rattle.controller.specs.declared.State.TheVariants as state
use Rattle.controller.specs.declared.Sending.{Sending}
use Rattle.controller.specs.Controller.{Turn, goes_on, heard_of, is_good, is_over, reads, sending_of, sends, sends_of, start_of}
use Rattle.controller.specs.Runs.{FirstBad, NoneBad, is_ended, run}
use Rattle.controller.proofs.Walking.{behind-one}
use Rattle.controller.proofs.Steps.{sends-done, sends-over, sends-read, sends-stopped, over_none, over-past}
use Rattle.controller.proofs.Runs.{Verdict, bad, ended, fine, first_bad, run-sent, run-state, through, verdict_on}

-- ---- a status, in numbers

-- it is good exactly if its bits 11 to 9 are 2 or 3
by_number : (v : ℕ) → goes_on (get_or cmds v cmd.Unknown) ≡ (leb 2 v && leb v 3)
by_number zero = refl
by_number (suc zero) = refl
by_number (suc (suc zero)) = refl
by_number (suc (suc (suc zero))) = refl
by_number (suc (suc (suc (suc v)))) =
    let w : ℕ = suc (suc (suc (suc v))) in
    sym (ap₂ (λ (x y : Bool). x && y) (le-leb 2 w (omega arith)) (lt-leb w 3 (omega arith)))

pub good-bits : (s : List ℕ) → is_good s ≡ (leb 2 (field (wide s 0 1) 11 9) && leb (field (wide s 0 1) 11 9) 3)
good-bits s = by_number (field (wide s 0 1) 11 9)

-- which is when the status reader says that the command succeeded
pub good-ok : (c : CmdStatus) → goes_on c ≡ good_cmd c
good-ok cmd.Fail = refl
good-ok cmd.PErr = refl
good-ok cmd.Ok = refl
good-ok cmd.Data = refl
good-ok cmd.Unknown = refl

-- ---- the first bad status

-- q is the first that is judged bad, of statuses that judge m frames from p on
record First (m p : ℕ) (ss : List (List ℕ)) (q : ℕ) : Type 0 where
  low : p ≤ q
  high : q < p + m
  judged : q < p + length ss
  wrong : is_good (get_or ss (q - p) []) ≡ false
  earlier : (i : ℕ) → p ≤ i → i < q → is_good (get_or ss (i - p) []) ≡ true

-- all of them are good
record NoBad (m p : ℕ) (ss : List (List ℕ)) : Type 0 where
  all : (i : ℕ) → p ≤ i → i < p + m → i < p + length ss → is_good (get_or ss (i - p) []) ≡ true

abbrev Says : ℕ → ℕ → List (List ℕ) → Verdict → Type 0
Says m p ss (bad q) = First m p ss q
Says m p ss fine = NoBad m p ss

next-at : (s : List ℕ) (ss : List (List ℕ)) (p i : ℕ) → p + 1 ≤ i → get_or (s ∷ ss) (i - p) [] ≡ get_or ss (i - (p + 1)) []
next-at s ss p i h = let e : i - p - 1 ≡ i - (p + 1) = omega arith in behind-one s ss (i - p) (omega arith) ∙ ap (λ (k : ℕ). get_or ss k []) e

first-at : (s : List ℕ) (ss : List (List ℕ)) (p i : ℕ) → i ≡ p → get_or (s ∷ ss) (i - p) [] ≡ s
first-at s ss p i h = let e : i - p ≡ 0 = omega arith in ap (λ (k : ℕ). get_or (s ∷ ss) k []) e

says : (m p : ℕ) (ss : List (List ℕ)) → Says m p ss (first_bad m p ss)
unfolding first_bad
says zero p ss = record { all = λ i a h k. absurd (omega arith) }
says (suc m) p [] = record { all = λ i a h k. absurd (omega arith) }
says (suc m) p (s ∷ ss) = by (is_good s) refl (first_bad m (p + 1) ss) (says m (p + 1) ss)
  where
    -- what is good from p + 1 on is so from p on
    ahead : is_good s ≡ true → (q : ℕ) → ((i : ℕ) → p + 1 ≤ i → i < q → is_good (get_or ss (i - (p + 1)) []) ≡ true)
        → (i : ℕ) → p ≤ i → i < q → is_good (get_or (s ∷ ss) (i - p) []) ≡ true
    ahead g q f i a h = here (eqb i p) refl
      where
        here : (t : Bool) → eqb i p ≡ t → is_good (get_or (s ∷ ss) (i - p) []) ≡ true
        here true e = ap is_good (first-at s ss p i (eqb-true i p e)) ∙ g
        here false e = let k : p + 1 ≤ i = omega (arith, eqb-false i p e) in ap is_good (next-at s ss p i k) ∙ f i k h

    by : (t : Bool) → is_good s ≡ t → (v : Verdict) → Says m (p + 1) ss v → Says (suc m) p (s ∷ ss) (cond t v (bad p))
    by false g v z =
        record {
          low = omega arith;
          high = omega arith;
          judged = omega arith;
          wrong = ap is_good (first-at s ss p p refl) ∙ g;
          earlier = λ i a h. absurd (omega arith);
        }
    by true g (bad q) z =
        record {
          low = omega (arith, z.low);
          high = omega (arith, z.high);
          judged = omega (arith, z.judged);
          wrong = ap is_good (next-at s ss p q z.low) ∙ z.wrong;
          earlier = ahead g q z.earlier;
        }
    by true g fine z = record { all = λ i a h k. ahead g (i + 1) (λ j c d. z.all j c (omega arith) (omega arith)) i a (omega arith) }

first-once : (m p : ℕ) (ss : List (List ℕ)) (q r : ℕ) → First m p ss q → First m p ss r → q ≡ r
first-once m p ss q r F G = by (eqb q r) refl (leb q r) refl
  where
    by : (t : Bool) → eqb q r ≡ t → (u : Bool) → leb q r ≡ u → q ≡ r
    by true e u f = eqb-true q r e
    by false e true f =
        let h : q < r = omega (arith, eqb-false q r e, leb-true q r f) in
        absurd (false≢true (sym F.wrong ∙ G.earlier q F.low h))
    by false e false f = absurd (false≢true (sym G.wrong ∙ F.earlier r G.low (leb-false q r f)))

first-none : (m p : ℕ) (ss : List (List ℕ)) (q : ℕ) → First m p ss q → NoBad m p ss → ⊥
first-none m p ss q F N = false≢true (sym F.wrong ∙ N.all q F.low F.high F.judged)

-- ---- of a whole run, whose first status judges none

module _ (n : ℕ) (s : List ℕ) (ss : List (List ℕ)) where
  whole-first : (p : ℕ) → First n 1 ss p → FirstBad n (s ∷ ss) p
  whole-first p F =
      record {
        low = F.low;
        high = omega (arith, F.high);
        judged = omega (arith, F.judged);
        wrong = ap is_good (behind-one s ss p F.low) ∙ F.wrong;
        earlier = λ i a h. ap is_good (behind-one s ss i a) ∙ F.earlier i a h;
      }

  first-whole : (p : ℕ) → FirstBad n (s ∷ ss) p → First n 1 ss p
  first-whole p F =
      record {
        low = F.low;
        high = omega (arith, F.high);
        judged = omega (arith, F.judged);
        wrong = sym (ap is_good (behind-one s ss p F.low)) ∙ F.wrong;
        earlier = λ i a h. sym (ap is_good (behind-one s ss i a)) ∙ F.earlier i a h;
      }

  none-whole : NoneBad n (s ∷ ss) → NoBad n 1 ss
  none-whole N = record { all = λ i a h k. sym (ap is_good (behind-one s ss i a)) ∙ N.all i a (omega arith) (omega arith) }

  whole-none : NoBad n 1 ss → NoneBad n (s ∷ ss)
  whole-none N = record { all = λ i a h k. ap is_good (behind-one s ss i a) ∙ N.all i a (omega arith) (omega arith) }

-- what the verdict says of the statuses
abbrev Of : ℕ → List (List ℕ) → Verdict → Type 0
Of n ss (bad p) = FirstBad n ss p
Of n ss fine = NoneBad n ss

of-verdict : (n : ℕ) (ss : List (List ℕ)) → Of n ss (verdict_on n ss)
of-verdict n [] = record { all = λ i a h k. absurd (omega arith) }
of-verdict n (s ∷ ss) = by (first_bad n 1 ss) (says n 1 ss)
  where
    by : (v : Verdict) → Says n 1 ss v → Of n (s ∷ ss) v
    by (bad p) F = whole-first n s ss p F
    by fine N = whole-none n s ss N

verdict-bad : (n : ℕ) (ss : List (List ℕ)) (p : ℕ) → FirstBad n ss p → verdict_on n ss ≡ bad p
verdict-bad n [] p F = absurd (omega (arith, F.judged))
verdict-bad n (s ∷ ss) p F = by (first_bad n 1 ss) (says n 1 ss)
  where
    by : (v : Verdict) → Says n 1 ss v → v ≡ bad p
    by (bad q) G = ap bad (first-once n 1 ss q p G (first-whole n s ss p F))
    by fine N = absurd (first-none n 1 ss p (first-whole n s ss p F) N)

verdict-fine : (n : ℕ) (ss : List (List ℕ)) → NoneBad n ss → verdict_on n ss ≡ fine
verdict-fine n [] N = refl
verdict-fine n (s ∷ ss) N = by (first_bad n 1 ss) (says n 1 ss)
  where
    by : (v : Verdict) → Says n 1 ss v → v ≡ fine
    by (bad q) G = absurd (first-none n 1 ss q G (none-whole n s ss N))
    by fine M = refl

-- ---- the theorems

-- no step sends more bytes than there is place for
pub sends-short : (b : List ℕ) (st : State) (s : Sending) → sending_of (opened_for Read b) st ≡ Ok (Some s) → s.len ≤ 12
unfolding sends_of
sends-short b st s = by (opened_for Read b) refl st
  where
    frame-short : (fs : List (List ℕ)) → Fits fs → (j : ℕ) → length (get_or fs j []) ≤ 12
    frame-short [] F j = omega arith
    frame-short (f ∷ fs) F zero = F.0.short
    frame-short (f ∷ fs) F (suc j) = frame-short fs F.1 j

    by : (q : Contents) → opened_for Read b ≡ q → (st : State) → sending_of q st ≡ Ok (Some s) → s.len ≤ 12
    by (refused x) h st e = absurd (let z : ◌≡◌ {A = ℕ} 0 1 = cc in omega arith)
    by (holds fs) h state.Done e = absurd (let z : ◌≡◌ {A = ℕ} 0 1 = cc in omega arith)
    by (holds fs) h (state.Stopped p) e = absurd (let z : ◌≡◌ {A = ℕ} 0 1 = cc in omega arith)
    by (holds fs) h (state.Running sent) e = pick (is_over (length fs) sent) e
      where
        pick : (t : Bool) → ◌≡◌ {A = Turn} (Ok (cond t None (sends (get_or fs sent [])))) (Ok (Some s)) → s.len ≤ 12
        pick true e = absurd (let z : ◌≡◌ {A = ℕ} 0 1 = cc in omega arith)
        pick false e =
            let k : length (get_or fs sent []) ≡ s.len = cc in
            omega (arith, frame-short fs (opened-fits (layout_in b) b fs (opened_for-opened Read b fs h)) sent)

-- what is refused is what a read refuses
pub refused_all : (b : List ℕ) (x : Refusal) → opened_for Read b ≡ refused x → (st : State) (s : List ℕ)
    → (start_of (opened_for Read b) ≡ Err x) × (sending_of (opened_for Read b) st ≡ Err x)
    × (heard_of (opened_for Read b) st (is_good s) ≡ Err x)
refused_all b x e st s = (
  ap start_of e,
  ap (λ (q : Contents). sending_of q st) e,
  ap (λ (q : Contents). heard_of q st (is_good s)) e,
)

-- and nothing else is, in any state
pub refused-own : (b : List ℕ) (x : Refusal) (st : State) (s : List ℕ)
    → (start_of (opened_for Read b) ≡ Err x → opened_for Read b ≡ refused x)
    × (sending_of (opened_for Read b) st ≡ Err x → opened_for Read b ≡ refused x)
    × (heard_of (opened_for Read b) st (is_good s) ≡ Err x → opened_for Read b ≡ refused x)
refused-own b x st s = (started (opened_for Read b), sent (opened_for Read b), heard (opened_for Read b))
  where
    started : (q : Contents) → start_of q ≡ Err x → q ≡ refused x
    started (refused y) e = let same : y ≡ x = cc in ap refused same
    started (holds fs) e = absurd (let z : ◌≡◌ {A = ℕ} 0 1 = cc in omega arith)

    heard : (q : Contents) → heard_of q st (is_good s) ≡ Err x → q ≡ refused x
    heard (refused y) e = let same : y ≡ x = cc in ap refused same
    heard (holds fs) e = absurd (let z : ◌≡◌ {A = ℕ} 0 1 = cc in omega arith)

    sent : (q : Contents) → sending_of q st ≡ Err x → q ≡ refused x
    sent (refused y) e = let same : y ≡ x = cc in ap refused same
    sent (holds fs) e = absurd (let z : ◌≡◌ {A = ℕ} 0 1 = cc in omega arith)

-- it is 11, 10 or 16, and has no place; so never 12
pub refused-numbers : (b : List ℕ) (x : Refusal) → opened_for Read b ≡ refused x
    → (((10 ≤ number_of x) × (number_of x ≤ 11)) ⊎ (number_of x ≡ 16)) × (place_of x ≡ 0)
refused-numbers b x e = (
  opened_for-says (λ y. ((10 ≤ number_of y) × (number_of y ≤ 11)) ⊎ (number_of y ≡ 16)) (inr refl) b (λ y w. inl (judge-own (layout_in b) b y w)) Read x e,
  opened_for-says (λ y. place_of y ≡ 0) refl b (λ y w. judge-place (layout_in b) b y w) Read x e,
)

module _ (b : List ℕ) (fs : List (List ℕ)) (opens : opened_for Read b ≡ holds fs) where
  abbrev n : ℕ
  n = length fs

  fit : Fits fs
  fit = opened-fits (layout_in b) b fs (opened_for-opened Read b fs opens)

  -- BEHIND THE END NOTHING IS SENT: neither a frame nor a read
  pub done-sends : sending_of (opened_for Read b) state.Done ≡ Ok None
  done-sends = ap (λ (q : Contents). sending_of q state.Done) opens ∙ ap (λ (x : Option Sending). Ok x) (sym (sends-done fs))

  pub stopped-sends : (p : ℕ) → sending_of (opened_for Read b) (state.Stopped p) ≡ Ok None
  stopped-sends p = ap (λ (q : Contents). sending_of q (state.Stopped p)) opens ∙ ap (λ (x : Option Sending). Ok x) (sym (sends-stopped fs p))

  pub past-sends : (j : ℕ) → n < j → sending_of (opened_for Read b) (state.Running j) ≡ Ok None
  past-sends j h = ap (λ (q : Contents). sending_of q (state.Running j)) opens ∙ ap (λ (x : Option Sending). Ok x) (sym (sends-over fs j (over-past n j h)))

  pub none-sends : (j : ℕ) → n ≡ 0 → sending_of (opened_for Read b) (state.Running j) ≡ Ok None
  none-sends j e = ap (λ (q : Contents). sending_of q (state.Running j)) opens ∙ ap (λ (x : Option Sending). Ok x) (sym (sends-over fs j (over_none n j e)))

  -- BEHIND THE LAST FRAME COMES THE FINAL READ
  pub last-reads : 0 < n → sending_of (opened_for Read b) (state.Running n) ≡ Ok reads
  last-reads h = ap (λ (q : Contents). sending_of q (state.Running n)) opens ∙ ap (λ (x : Option Sending). Ok x) (sym (sends-read fs n h refl))

  -- AN EMPTY BOOK IS DONE AT ONCE
  pub empty-done : n ≡ 0 → start_of (opened_for Read b) ≡ Ok state.Done
  empty-done e = ap start_of opens ∙ ap (λ (t : Bool). Ok (cond t state.Done (state.Running 0))) (eq-eqb n 0 e)

  -- THE FRAMES ARE THE REPLAY'S, in its order: what a replay into an output that takes every reel writes is the reel of just these
  pub sent-replay : (o : List ℕ) → longest_reel ≤ length o → (m : ℕ) → (after (Replay o) b).answer ≡ Ok m
      → unreel (take m (after (Replay o) b).output) ≡ record { frames = fs; rest = [] }
  sent-replay o long m e =
      ap (λ (k : ℕ). unreel (take k (after (Replay o) b).output)) same_count
      ∙ ap unreel (T.reel ∙ ap reel_of same-frames)
      ∙ reel-whole fs
    where
      T : Replayed b (after (Replay o) b).output m
      T = replay-told b o long (after (Replay o) b).answer m (after (Replay o) b).output refl refl e

      same_count : m ≡ m - 0
      same_count = omega arith

      same-frames : T.frames ≡ fs
      same-frames = let z : holds T.frames ≡ holds fs = sym T.opens ∙ opens in cc

  module _ (some : 0 < n) where
    pub some-running : start_of (opened_for Read b) ≡ Ok (state.Running 0)
    some-running = ap start_of opens ∙ ap (λ (t : Bool). Ok (cond t state.Done (state.Running 0))) (ne_eqb n 0 (λ e. omega arith))

    module _ (ss : List (List ℕ)) where
      -- IT STOPS AT THE FIRST FRAME WHOSE STATUS IS BAD
      pub first-stopped : (p : ℕ) → FirstBad n ss p → (run b (state.Running 0) ss).state ≡ state.Stopped p
      first-stopped p F = run-state b fs opens fit some ss ∙ ap (ended n (length ss)) (verdict-bad n ss p F)

      pub first-sent : (p : ℕ) → FirstBad n ss p → (run b (state.Running 0) ss).sent ≡ take (p + 1) fs
      first-sent p F = run-sent b fs opens fit some ss ∙ ap (λ (v : Verdict). take (through (length ss) v) fs) (verdict-bad n ss p F)

      -- AND AT NO OTHER
      pub stopped-first : (p : ℕ) → (run b (state.Running 0) ss).state ≡ state.Stopped p → FirstBad n ss p
      stopped-first p e = by (verdict_on n ss) (of-verdict n ss) (sym (run-state b fs opens fit some ss) ∙ e)
        where
          apart : (t : Bool) → cond t state.Done (state.Running (length ss)) ≡ state.Stopped p → ⊥
          apart true e = let z : ◌≡◌ {A = ℕ} 0 1 = cc in omega arith
          apart false e = let z : ◌≡◌ {A = ℕ} 0 1 = cc in omega arith

          by : (v : Verdict) → Of n ss v → ended n (length ss) v ≡ state.Stopped p → FirstBad n ss p
          by (bad q) F e = let same : q ≡ p = cc in subst (FirstBad n ss) same F
          by fine N e = absurd (apart (leb (n + 1) (length ss)) e)

      -- WHERE NONE IS BAD, A FRAME GOES OUT AT EACH STEP, AND THE FINAL READ ENDS IT
      pub none_runs : NoneBad n ss → length ss ≤ n
          → ((run b (state.Running 0) ss).state ≡ state.Running (length ss)) × ((run b (state.Running 0) ss).sent ≡ take (length ss) fs)
      none_runs N h = (
        run-state b fs opens fit some ss
            ∙ ap (ended n (length ss)) (verdict-fine n ss N)
            ∙ ap (λ (t : Bool). cond t state.Done (state.Running (length ss))) (lt-leb (n + 1) (length ss) (omega arith)),
        run-sent b fs opens fit some ss ∙ ap (λ (v : Verdict). take (through (length ss) v) fs) (verdict-fine n ss N),
      )

      pub none_done : NoneBad n ss → n + 1 ≤ length ss
          → ((run b (state.Running 0) ss).state ≡ state.Done) × ((run b (state.Running 0) ss).sent ≡ fs)
      none_done N h = (
        run-state b fs opens fit some ss
            ∙ ap (ended n (length ss)) (verdict-fine n ss N)
            ∙ ap (λ (t : Bool). cond t state.Done (state.Running (length ss))) (le-leb (n + 1) (length ss) h),
        run-sent b fs opens fit some ss
            ∙ ap (λ (v : Verdict). take (through (length ss) v) fs) (verdict-fine n ss N)
            ∙ take_all (length ss) fs (omega arith),
      )

      -- DONE OR STOPPED WITHIN n + 1 STEPS
      pub ends-within : n + 1 ≤ length ss → is_ended (run b (state.Running 0) ss).state ≡ true
      ends-within h = ap is_ended (run-state b fs opens fit some ss) ∙ by (verdict_on n ss)
        where
          by : (v : Verdict) → is_ended (ended n (length ss) v) ≡ true
          by (bad p) = refl
          by fine = ap (λ (t : Bool). is_ended (cond t state.Done (state.Running (length ss)))) (le-leb (n + 1) (length ss) h)
