-- The controller in C's numbers: which number says what, refused or not (`start-handed`, `hear-handed`, `send-handed`, `outcomes`); a state handed over and
-- handed back goes on as it was (`send-same`, `hear-same`); an end is over, and comes back as it was given, whatever its numbers are (`end-over`,
-- `end_back`), and so do a running state past the end (`past_back`, `none-back`) and any state at a refusal (`refused-back`).
-- Assumes nothing.
use mathlib.Core.Path.{ap, refl, sym, ◌∙◌, ◌≡◌}
use mathlib.Core.Bool.{Bool, cond, false, true}
use mathlib.Core.List.{List, []}
use Prim.Native.Nat.{ℕ, ◌<◌, ◌≤◌}
use native.Mathlib.Omega.{arith}
use lib.Dec.{eqb}
use lib.ListN.{length, replicate}
use Rattle.refusal.specs.declared.Refusal.{Refusal}
use Rattle.refusal.specs.declared.Refusal.TheVariants.{NotWellFormed}
use Rattle.refusal.specs.Numbers.{number_of, place_of}
use Rattle.contents.specs.Contents.{Contents, holds, refused}
use Rattle.book.specs.Book.{Read, opened_for}
use Rattle.controller.specs.declared.State.{State}
use Rattle.controller.specs.declared.State.TheVariants.{Done, Running, Stopped}
use Rattle.std.specs.Prelude.{Err, None, Ok, Some}
use Rattle.controller.specs.declared.Sending.{Sending}
use Rattle.controller.specs.Controller.{Answer, Turn, heard_of, heard_on, is_good, is_over, sending_of, sends_of, start_of}
use Rattle.controller.specs.Runs.{kept}
use Rattle.controller.proofs.Steps.{heard-over, over_none, over-past}
use Rattle.controller.proofs.Laws.{done-sends, refused-numbers, refused-own, sends-short}
use Rattle.hoardbutton.specs.declared.controllers.HbController.{HbController}
use Rattle.hoardbutton.specs.declared.controllers.HbControl.{HbControl}
use Rattle.hoardbutton.specs.declared.controllers.HbSending.{HbSending}
use Rattle.hoardbutton.specs.Answers.{low}
use Rattle.hoardbutton.specs.Controllers.{hear_c, sending_c, start_c, state_c, state_of}
use Rattle.hoardbutton.proofs.Whole.{low_small}

-- ---- what each struct has, field by field: nothing is cut

abbrev pub StartSays : Answer → HbControl → Type 0
StartSays (Ok st) r = (r.refusal ≡ 0) × (r.place ≡ 0) × (r.state ≡ state_c st)
StartSays (Err x) r = (r.refusal ≡ number_of x) × (r.place ≡ 0) × (r.state ≡ record { outcome = 1; count = 0 })

abbrev pub HearSays : HbController → Answer → HbControl → Type 0
HearSays c (Ok st) r = (r.refusal ≡ 0) × (r.place ≡ 0)
HearSays c (Err x) r = (r.refusal ≡ number_of x) × (r.place ≡ 0) × (r.state ≡ c)

abbrev pub SendSays : Turn → HbSending → Type 0
SendSays (Ok (Some s)) r = (r.refusal ≡ 0) × (r.place ≡ 0) × (r.over ≡ 0) × (r.len ≡ s.len) × (r.bytes ≡ s.frame)
SendSays (Ok None) r = (r.refusal ≡ 0) × (r.place ≡ 0) × (r.over ≡ 1) × (r.len ≡ 0) × (r.bytes ≡ replicate 12 0)
SendSays (Err x) r = (r.refusal ≡ number_of x) × (r.place ≡ 0) × (r.over ≡ 0) × (r.len ≡ 0) × (r.bytes ≡ replicate 12 0)

-- a book's own refusal has no place
own-place : (b : List ℕ) (x : Refusal) → opened_for Read b ≡ refused x → low (place_of x) ≡ 0
own-place b x e = let z : place_of x ≡ 0 = (refused-numbers b x e).1 in omega arith

pub start-handed : (b : List ℕ) → StartSays (start_of (opened_for Read b)) (start_c (start_of (opened_for Read b)))
start-handed b = by (start_of (opened_for Read b)) (λ x. (refused-own b x Done []).0)
  where
    by : (a : Answer) → ((x : Refusal) → a ≡ Err x → opened_for Read b ≡ refused x) → StartSays a (start_c a)
    by (Ok st) h = (refl, refl, refl)
    by (Err x) h = (refl, own-place b x (h x refl), refl)

pub hear-handed : (b : List ℕ) (c : HbController) (s : List ℕ)
    → HearSays c (heard_of (opened_for Read b) (state_of c) (is_good s)) (hear_c c (heard_of (opened_for Read b) (state_of c) (is_good s)))
hear-handed b c s = by (heard_of (opened_for Read b) (state_of c) (is_good s)) (λ x. (refused-own b x (state_of c) s).2)
  where
    by : (a : Answer) → ((x : Refusal) → a ≡ Err x → opened_for Read b ≡ refused x) → HearSays c a (hear_c c a)
    by (Ok st) h = (refl, refl)
    by (Err x) h = (refl, own-place b x (h x refl), refl)

pub send-handed : (b : List ℕ) (st : State)
    → SendSays (sending_of (opened_for Read b) st) (sending_c (sending_of (opened_for Read b) st))
send-handed b st = by (sending_of (opened_for Read b) st) (λ s. sends-short b st s) (λ x. (refused-own b x st []).1)
  where
    by : (t : Turn) → ((s : Sending) → t ≡ Ok (Some s) → s.len ≤ 12) → ((x : Refusal) → t ≡ Err x → opened_for Read b ≡ refused x)
        → SendSays t (sending_c t)
    by (Ok (Some s)) k h = (refl, refl, refl, low_small s.len (omega (arith, k s refl)), refl)
    by (Ok None) k h = (refl, refl, refl, refl, refl)
    by (Err x) k h = (refl, own-place b x (h x refl), refl, refl, refl)

pub outcomes : (state_c (Running 3) ≡ record { outcome = 0; count = 3 }) × (state_c Done ≡ record { outcome = 1; count = 0 })
    × (state_c (Stopped 2) ≡ record { outcome = 2; count = 2 }) × ((start_c (Err NotWellFormed)).state ≡ record { outcome = 1; count = 0 })
outcomes = (refl, refl, refl, refl)

-- ---- a state that C was given is the controller's

pub send-same : (q : Contents) (st : State) → sending_c (sending_of q (state_of (state_c st))) ≡ sending_c (sending_of q st)
unfolding sends_of
send-same (refused x) st = refl
send-same (holds fs) (Running n) = refl
send-same (holds fs) Done = refl
send-same (holds fs) (Stopped p) = refl

pub hear-same : (q : Contents) (st : State) (good : Bool)
    → (hear_c (state_c st) (heard_of q (state_of (state_c st)) good)).state ≡ state_c (kept st (heard_of q st good))
unfolding heard_on
hear-same (refused x) st good = refl
hear-same (holds fs) (Running n) good = refl
hear-same (holds fs) Done good = refl
hear-same (holds fs) (Stopped p) good = refl

-- ---- an end, any outcome but 0, is over and comes back as it was given

pub end-over : (b : List ℕ) (fs : List (List ℕ)) → opened_for Read b ≡ holds fs → (c : HbController) → eqb c.outcome 0 ≡ false
    → sending_c (sending_of (opened_for Read b) (state_of c)) ≡ record { refusal = 0; place = 0; over = 1; len = 0; bytes = replicate 12 0 }
end-over b fs h c e =
    ap (λ (t : Bool). sending_c (sending_of (opened_for Read b) (cond t (Running c.count) Done))) e ∙ ap sending_c (done-sends b fs h)

pub end_back : (c : HbController) → eqb c.outcome 0 ≡ false → (a : Answer) → (hear_c c a).state ≡ c
end_back c e (Ok st) = ap (λ (t : Bool). cond t (state_c st) c) e
end_back c e (Err x) = refl

-- ---- what else comes back as it was given

abbrev pub running : ℕ → HbController
running j = record { outcome = 0; count = j }

pub refused-back : (c : HbController) (x : Refusal) → (hear_c c (Err x)).state ≡ c
refused-back c x = refl

over-back : (n j : ℕ) (good : Bool) → is_over n j ≡ true
    → (hear_c (running j) (Ok (heard_on n (Running j) good))).state ≡ running j
over-back n j good e = sym (ap state_c (heard-over n good j e))

-- more frames sent than the book has, and any in an empty one
pub past_back : (fs : List (List ℕ)) (j : ℕ) (good : Bool) → length fs < j
    → (hear_c (running j) (heard_of (holds fs) (state_of (running j)) good)).state ≡ running j
past_back fs j good h = over-back (length fs) j good (over-past (length fs) j h)

pub none-back : (fs : List (List ℕ)) (j : ℕ) (good : Bool) → length fs ≡ 0
    → (hear_c (running j) (heard_of (holds fs) (state_of (running j)) good)).state ≡ running j
none-back fs j good h = over-back (length fs) j good (over_none (length fs) j h)
