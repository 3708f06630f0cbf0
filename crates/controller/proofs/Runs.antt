-- A run, step by step: what a step sends of a book's frames (`handed-step`), what stays after the end (`done-stays`, `stopped-stays`, `past-stays`,
-- `none_stays`, `refused-stays`), and where a run from the start comes to, by the first status that judges a frame bad (`run-sent`, `run-state`).
-- Assumes nothing.
use mathlib.Core.Path.{ap, ap₂, refl, subst, sym, ◌∙◌, ◌≡◌}
use mathlib.Core.Bool.{Bool, cond, false, true}
use mathlib.Core.List.{List, [], ◌++◌, ◌∷◌, append_assoc, append-nil}
use Prim.Native.Nat.{suc, zero, ℕ, ◌+◌, ◌<◌, ◌≤◌}
use native.Mathlib.Omega.{arith}
use borrow.Author.Tests.{le-leb, lt-leb, ltb-false, ltb-true, ne_eqb}
use lib.Dec.{leb, ltb}
use lib.ListN.{get_or-eq_default, drop, get_or, length, length-replicate, replicate, take}
use lib.Seq.{drop-cons, paste, take-add, take_all, take-length, take-paste}
use Rattle.std.specs.Prelude.{Option, None, Ok}
use Rattle.refusal.specs.declared.Refusal.{Refusal}
use Rattle.spans.specs.Spans.{written}
use Rattle.spans.proofs.Spans.{written-fits}
use Rattle.contents.specs.Contents.{Contents, holds, refused}
use Rattle.book.specs.Book.{Read, opened_for}
use Rattle.book.proofs.Told.{Fit, Fits}
use Rattle.controller.specs.declared.State.{State}
use Rattle.controller.specs.declared.State.TheVariants as state
use Rattle.controller.specs.declared.Sending.{Sending}
use Rattle.controller.specs.Controller.{heard_of, heard_on, is_good, is_over, onward_of, sending_of, sends, sends_of}
use Rattle.controller.specs.Runs.{Run, handed, kept, run}
use Rattle.controller.proofs.Steps.{going, heard-done, heard-frame, heard-going, heard-over, heard-stopped}
use Rattle.controller.proofs.Steps.{over_none, over-past, sends-done, sends-next, sends-over, sends-stopped}

-- a run in which nothing is sent and nothing changes
abbrev pub still : State → Run
still st = record { sent = []; state = st }

-- ---- a refused book: every step is refused, and keeps the state

pub refused-stays : (b : List ℕ) (x : Refusal) → opened_for Read b ≡ refused x → (st : State) (ss : List (List ℕ)) → run b st ss ≡ still st
unfolding run
refused-stays b x e st [] = refl
refused-stays b x e st (s ∷ ss) =
    ap (λ (q : Contents). record {
      sent = handed (sending_of q st) ++ (run b (kept st (heard_of q st (is_good s))) ss).sent;
      state = (run b (kept st (heard_of q st (is_good s))) ss).state;
    }) e
    ∙ refused-stays b x e st ss

-- ---- what is handed out

fit_at : (fs : List (List ℕ)) → Fits fs → (j : ℕ) → j < length fs → Fit (get_or fs j [])
fit_at [] h j k = absurd (omega arith)
fit_at (f ∷ fs) h zero k = h.0
fit_at (f ∷ fs) h (suc j) k = fit_at fs h.1 j (omega arith)

-- the bytes that stand first are the frame's
front : (f : List ℕ) → length f ≤ 12 → take (length f) (written (replicate 12 0) 0 f) ≡ f
front f h =
    ap (take (length f)) (written-fits (replicate 12 0) 0 f (omega (arith, length-replicate {A = ℕ} 12 0)))
    ∙ ap (λ (n : ℕ). take n (paste (replicate 12 0) 0 f (length f))) (zeroth (length f))
    ∙ take-paste (replicate 12 0) 0 f (length f) (omega arith) (omega arith)
    ∙ take-length f
  where
    zeroth : (m : ℕ) → m ≡ 0 + m
    zeroth m = omega arith

handed-frame : (f : List ℕ) → Fit f → handed (Ok (sends f)) ≡ f ∷ []
handed-frame f h =
    ap (λ (t : Bool). cond t [] (take (length f) (written (replicate 12 0) 0 f) ∷ [])) (ne_eqb (length f) 0 (λ e. omega (arith, h.some)))
    ∙ ap (λ (x : List ℕ). x ∷ []) (front f h.short)

none_from : (fs : List (List ℕ)) (j : ℕ) → length fs ≤ j → take 1 (drop j fs) ≡ []
none_from [] zero h = refl
none_from [] (suc j) h = refl
none_from (f ∷ fs) zero h = absurd (omega arith)
none_from (f ∷ fs) (suc j) h = none_from fs j (omega arith)

-- ---- the first status that judges a frame bad

pub data Verdict : Type 0 where
  bad : ℕ → Verdict
  fine : Verdict

-- of statuses that judge m frames from p on
unfoldable pub first_bad : ℕ → ℕ → List (List ℕ) → Verdict
first_bad zero p ss = fine
first_bad (suc m) p [] = fine
first_bad (suc m) p (s ∷ ss) = cond (is_good s) (first_bad m (p + 1) ss) (bad p)

-- the first status judges none
abbrev pub verdict_on : ℕ → List (List ℕ) → Verdict
verdict_on n [] = fine
verdict_on n (s ∷ ss) = first_bad n 1 ss

-- stopped at the frame that was judged bad; else done where n + 1 statuses came, and else so many frames are sent
abbrev pub ended : ℕ → ℕ → Verdict → State
ended n steps (bad p) = state.Stopped p
ended n steps fine = cond (leb (n + 1) steps) state.Done (state.Running steps)

-- the frames go out through the step that stops
abbrev pub through : ℕ → Verdict → ℕ
through steps (bad p) = p + 1
through steps fine = steps

-- ---- on a book that opens

module _ (b : List ℕ) (fs : List (List ℕ)) (opens : opened_for Read b ≡ holds fs) where
  abbrev n : ℕ
  n = length fs

  -- a step on the frames, and the run behind it
  stepped : (st next : State) (out : List (List ℕ)) (s : List ℕ) (ss : List (List ℕ)) → next ≡ heard_on n st (is_good s)
      → handed (Ok (sends_of fs st)) ≡ out
      → run b st (s ∷ ss) ≡ record { sent = out ++ (run b next ss).sent; state = (run b next ss).state }
  unfolding run
  stepped st next out s ss e h =
      ap (λ (q : Contents). record {
        sent = handed (sending_of q st) ++ (run b (kept st (heard_of q st (is_good s))) ss).sent;
        state = (run b (kept st (heard_of q st (is_good s))) ss).state;
      }) opens
      ∙ ap₂ (λ (x : List (List ℕ)) (y : State). record { sent = x ++ (run b y ss).sent; state = (run b y ss).state }) h (sym e)

  -- a state that a step keeps, and in which none sends, stays for good
  stays : (st : State) → ((s : List ℕ) → st ≡ heard_on n st (is_good s)) → handed (Ok (sends_of fs st)) ≡ []
      → (ss : List (List ℕ)) → run b st ss ≡ still st
  unfolding run
  stays st e h [] = refl
  stays st e h (s ∷ ss) = stepped st st [] s ss (e s) h ∙ stays st e h ss

  silent : (st : State) → None ≡ sends_of fs st → handed (Ok (sends_of fs st)) ≡ []
  silent st e = ap (λ (y : Option Sending). handed (Ok y)) (sym e)

  pub done-stays : (ss : List (List ℕ)) → run b state.Done ss ≡ still state.Done
  done-stays = stays state.Done (λ s. heard-done n (is_good s)) (silent state.Done (sends-done fs))

  pub stopped-stays : (p : ℕ) (ss : List (List ℕ)) → run b (state.Stopped p) ss ≡ still (state.Stopped p)
  stopped-stays p = stays (state.Stopped p) (λ s. heard-stopped n (is_good s) p) (silent (state.Stopped p) (sends-stopped fs p))

  -- nothing is left to do
  over-stays : (j : ℕ) → is_over n j ≡ true → (ss : List (List ℕ)) → run b (state.Running j) ss ≡ still (state.Running j)
  over-stays j e = stays (state.Running j) (λ s. heard-over n (is_good s) j e) (silent (state.Running j) (sends-over fs j e))

  -- a state that no run reaches: more frames sent than there are, or any in an empty book
  pub past-stays : (j : ℕ) → n < j → (ss : List (List ℕ)) → run b (state.Running j) ss ≡ still (state.Running j)
  past-stays j h = over-stays j (over-past n j h)

  pub none_stays : (j : ℕ) → n ≡ 0 → (ss : List (List ℕ)) → run b (state.Running j) ss ≡ still (state.Running j)
  none_stays j e = over-stays j (over_none n j e)

  -- ---- from the start

  module _ (fit : Fits fs) (some : 0 < n) where
    -- the step of a running controller hands out the frame behind those that are sent, or none
    handed-step : (j : ℕ) → j ≤ n → handed (Ok (sends_of fs (state.Running j))) ≡ take 1 (drop j fs)
    handed-step j k = ap (λ (x : Option Sending). handed (Ok x)) (sym (sends-next fs j some k)) ∙ by (ltb j n) refl
      where
        by : (t : Bool) → ltb j n ≡ t → handed (Ok (sends (get_or fs j []))) ≡ take 1 (drop j fs)
        by true e =
            let i : j < n = ltb-true j n e in
            handed-frame (get_or fs j []) (fit_at fs fit j i) ∙ sym (ap (take 1) (drop-cons fs j [] i))
        by false e =
            let i : n ≤ j = ltb-false j n e in
            ap (λ (f : List ℕ). handed (Ok (sends f))) (get_or-eq_default fs [] {n = j} i) ∙ sym (none_from fs j i)

    -- what a run comes to, j of the frames being sent already
    record Comes (j steps : ℕ) (v : Verdict) (r : Run) : Type 0 where
      pub sent : take j fs ++ r.sent ≡ take (through steps v) fs
      pub state : r.state ≡ ended n steps v

    -- one frame more of those that are sent
    one_more : (j : ℕ) (x : List (List ℕ)) → take j fs ++ (take 1 (drop j fs) ++ x) ≡ take (j + 1) fs ++ x
    one_more j x = sym (append_assoc (take j fs) (take 1 (drop j fs)) x) ∙ ap (λ (y : List (List ℕ)). y ++ x) (sym (take-add j 1 fs))

    -- a run that goes on
    onto : (j : ℕ) → j ≤ n → (s : List ℕ) (next : State) → next ≡ heard_on n (state.Running j) (is_good s) → (ss : List (List ℕ)) (steps : ℕ) (v : Verdict)
        → Comes (j + 1) steps v (run b next ss) → Comes j steps v (run b (state.Running j) (s ∷ ss))
    onto j k s next e ss steps v c =
        subst (Comes j steps v) (sym (stepped (state.Running j) next (take 1 (drop j fs)) s ss e (handed-step j k)))
        (record { sent = one_more j (run b next ss).sent ∙ c.sent; state = c.state })

    -- a run that has ended
    over-comes : (j steps : ℕ) (v : Verdict) (st : State) (ss : List (List ℕ)) → run b st ss ≡ still st
        → take j fs ≡ take (through steps v) fs → st ≡ ended n steps v → Comes j steps v (run b st ss)
    over-comes j steps v st ss e a h = subst (Comes j steps v) (sym e) (record { sent = append-nil (take j fs) ∙ a; state = h })

    -- the state behind a step that judges frame j
    module _ (j : ℕ) (h : 0 < j) (k : j ≤ n) (s : List ℕ) where
      judged-by : (t : Bool) → is_good s ≡ t → cond t (onward_of n j) (state.Stopped j) ≡ heard_on n (state.Running j) (is_good s)
      judged-by t e =
          ap (λ (x : Bool). cond x (onward_of n j) (state.Stopped j)) (sym e)
          ∙ sym (ap (λ (x : Bool). cond x (onward_of n j) (cond (is_good s) (onward_of n j) (state.Stopped j))) (ne_eqb j 0 (λ z. omega arith)))
          ∙ heard-going n (is_good s) j (going n j some k)

      goes_on : is_good s ≡ true → (u : Bool) → ltb j n ≡ u → cond u (state.Running (j + 1)) state.Done ≡ heard_on n (state.Running j) (is_good s)
      goes_on e u d = ap (λ (x : Bool). cond x (state.Running (j + 1)) state.Done) (sym d) ∙ judged-by true e

    -- behind the first frame, j being sent: the next status judges frame j
    later : (m : ℕ) (ss : List (List ℕ)) (j : ℕ) → 0 < j → j ≤ n → j + m ≡ n + 1
        → Comes j (j + length ss) (first_bad m j ss) (run b (state.Running j) ss)
    unfolding run first_bad
    later zero ss j h k e = absurd (omega arith)
    later (suc m) [] j h k e =
        let same : j ≡ j + 0 = omega arith in
        record {
          sent = append-nil (take j fs) ∙ ap (λ (i : ℕ). take i fs) same;
          state =
              ap state.Running same
              ∙ sym (ap (λ (t : Bool). cond t state.Done (state.Running (j + 0))) (lt-leb (n + 1) (j + 0) (omega arith)));
        }
    later (suc m) (s ∷ ss) j h k e = by (is_good s) refl (ltb j n) refl (later m ss (j + 1))
      where
        by : (g : Bool) → is_good s ≡ g → (t : Bool) → ltb j n ≡ t
            → (0 < j + 1 → j + 1 ≤ n → j + 1 + m ≡ n + 1
            → Comes (j + 1) (j + 1 + length ss) (first_bad m (j + 1) ss) (run b (state.Running (j + 1)) ss))
            → Comes j (j + length (s ∷ ss)) (cond g (first_bad m (j + 1) ss) (bad j)) (run b (state.Running j) (s ∷ ss))
        by false x t y ih =
            onto j k s (state.Stopped j) (judged-by j h k s false x) ss (j + length (s ∷ ss)) (bad j)
            (over-comes (j + 1) (j + length (s ∷ ss)) (bad j) (state.Stopped j) ss (stopped-stays j ss) refl refl)
        by true x true y ih =
            let i : j < n = ltb-true j n y in
            let same : j + 1 + length ss ≡ j + length (s ∷ ss) = omega arith in
            onto j k s (state.Running (j + 1)) (goes_on j h k s x true y) ss (j + length (s ∷ ss)) (first_bad m (j + 1) ss)
            (subst (λ (i : ℕ). Comes (j + 1) i (first_bad m (j + 1) ss) (run b (state.Running (j + 1)) ss)) same
            (ih (omega arith) (omega arith) (omega arith)))
        by true x false y ih =
            let i : n ≤ j = ltb-false j n y in
            let none : 0 ≡ m = omega arith in
            onto j k s state.Done (goes_on j h k s x false y) ss (j + length (s ∷ ss)) (first_bad m (j + 1) ss)
            (subst (λ (i : ℕ). Comes (j + 1) (j + length (s ∷ ss)) (first_bad i (j + 1) ss) (run b state.Done ss)) none
            (over-comes (j + 1) (j + length (s ∷ ss)) fine state.Done ss (done-stays ss)
            (take_all (j + 1) fs (omega arith) ∙ sym (take_all (j + length (s ∷ ss)) fs (omega arith)))
            (sym (ap (λ (t : Bool). cond t state.Done (state.Running (j + length (s ∷ ss)))) (le-leb (n + 1) (j + length (s ∷ ss)) (omega arith))))))

    -- the first status comes back with the first frame
    comes : (ss : List (List ℕ)) → Comes 0 (length ss) (verdict_on n ss) (run b (state.Running 0) ss)
    unfolding run
    comes [] = record { sent = refl; state = sym (ap (λ (t : Bool). cond t state.Done (state.Running 0)) (lt-leb (n + 1) 0 (omega arith))) }
    comes (s ∷ ss) =
        onto 0 (omega arith) s (state.Running 1) (heard-frame n (is_good s) 0 some) ss (length (s ∷ ss)) (first_bad n 1 ss)
        (subst (λ (i : ℕ). Comes 1 i (first_bad n 1 ss) (run b (state.Running 1) ss)) (omega arith)
        (later n ss 1 (omega arith) (omega arith) (omega arith)))

    pub run-sent : (ss : List (List ℕ)) → (run b (state.Running 0) ss).sent ≡ take (through (length ss) (verdict_on n ss)) fs
    run-sent ss = (comes ss).sent

    pub run-state : (ss : List (List ℕ)) → (run b (state.Running 0) ss).state ≡ ended n (length ss) (verdict_on n ss)
    run-state ss = (comes ss).state
