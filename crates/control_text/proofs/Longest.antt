-- No text of any book is longer than the output must be (`played-most`): a run of n frames has n + 1 steps at the most, and each line is short
-- (`step-most`, `closing-most`).
-- Assumes nothing.
use mathlib.Core.Path.{◌≡◌, refl, sym, ap, subst, ◌∙◌}
use mathlib.Core.Bool.{Bool, cond, false, true}
use mathlib.Core.List.{List, [], ◌∷◌, map}
use Prim.Native.Nat.{ℕ, ◌+◌, ◌*◌, ◌-◌, ◌<◌, ◌≤◌}
use native.Mathlib.Omega.{arith}
use borrow.Author.Tests.{eqb-false, le-ltb, ltb-true, ne_eqb}
use lib.Dec.{eqb, ltb}
use lib.ListN.{length, length-append, length-take, take}
use Rattle.reading.specs.Decimal.{decimal}
use Rattle.texts.specs.Words.{line, spaced, word}
use Rattle.texts.proofs.Longest.{decimal-most, spaced-length, spaced-none}
use Rattle.refusal.specs.declared.Refusal.{Refusal}
use Rattle.refusal.specs.Numbers.{number_of}
use Rattle.status.specs.declared.CmdStatus.{CmdStatus}
use Rattle.status.specs.declared.CmdStatus.TheVariants as cmd
use Rattle.status.specs.Words.{cmd_in, status_of}
use Rattle.status_list.specs.Words.{Word, is_status, status_in}
use Rattle.contents.specs.Contents.{Contents, holds, refused}
use Rattle.forms.specs.Forms.{most_frames}
use Rattle.forms.proofs.Most.{most-frames}
use Rattle.book.specs.Book.{Read, layout_in, opened_for}
use Rattle.book.proofs.Kept.{opened-kept}
use Rattle.controller.specs.declared.State.{State}
use Rattle.controller.specs.declared.State.TheVariants.{Done, Running, Stopped}
use Rattle.std.specs.Prelude.{Err, None, Ok, Some}
use Rattle.controller.specs.Controller.{Answer, Turn, heard_on, is_good, onward_of, sending_of, start_of}
use Rattle.controller.proofs.Laws.{sends-short}
use Rattle.control_text.specs.Text.{Play, Short, behind, closed, closing, cmd_name, heard, hex_of, is_first, is_read, is_running, judged_words, longest, played}
use Rattle.control_text.specs.Text.{played_by, played_from, sent_of, status_name, step_line, text_of, turn_words, unheard, wrong}
use Rattle.control_text.proofs.Forms.{step-form}

-- ---- lines

name-most : (s : List ℕ) → length (status_name s) ≤ 7
unfolding status_name
name-most s = go (cmd_in (status_of s).0)
  where
    go : (x : CmdStatus) → length (cmd_name x) ≤ 7
    go cmd.Fail = omega arith
    go cmd.PErr = omega arith
    go cmd.Ok = omega arith
    go cmd.Data = omega arith
    go cmd.Unknown = omega arith

judged-most : (sent : ℕ) (s : List ℕ) → length (spaced (judged_words sent s) []) ≤ 36
unfolding judged_words spaced
judged-most sent s = go (is_first sent)
  where
    go : (t : Bool) → length (spaced (cond t [] (word "judged" ∷ decimal sent ∷ status_name s ∷ [])) []) ≤ 36
    go true = omega arith
    go false = simp length-append (omega (arith, decimal-most sent, name-most s))

bytes-long : (bs : List ℕ) → length (spaced (map hex_of bs) []) ≡ 3 * length bs
unfolding spaced hex_of
bytes-long [] = refl
bytes-long (b ∷ bs) = omega (arith, bytes-long bs)

turn-most : (t : Turn) → Short t → length (spaced (turn_words t) []) ≤ 41
unfolding turn_words spaced
turn-most (Ok (Some s)) h = go (is_read s.len)
  where
    go : (t : Bool) → length (spaced (cond t (word "read" ∷ []) (word "sent" ∷ map hex_of (take s.len s.frame))) []) ≤ 41
    go true = omega arith
    go false = omega (arith, bytes-long (take s.len s.frame), length-take s.len s.frame)
turn-most (Ok None) h = omega arith
turn-most (Err x) h = omega arith

pub step-most : (sent : ℕ) (x : Turn) (s : List ℕ) → Short x → length (step_line sent x s) ≤ 128
step-most sent x s h =
    let long : length (step_line sent x s)
    ≡ length (decimal (sent + 1)) + (length (spaced (judged_words sent s) []) + (length (spaced (turn_words x) []) + 1)) =
    ap length (step-form sent x s) ∙ simp length-append in
    omega (arith, decimal-most (sent + 1), judged-most sent s, turn-most x h)

pub closing-most : (st : State) (s : List ℕ) → length (closing st s) ≤ 128
unfolding closing line
closing-most (Running sent) s = simp (spaced-length, spaced-none) (omega (arith, decimal-most sent))
closing-most Done s = rw spaced-none (omega arith)
closing-most (Stopped p) s = simp (spaced-length, spaced-none) (omega (arith, decimal-most p, name-most s))

refused-most : (x : Refusal) → length (line (word "refused") (decimal (number_of x) ∷ [])) ≤ 128
unfolding line
refused-most x = simp (spaced-length, spaced-none) (omega (arith, decimal-most (number_of x)))

-- ---- what is sent

pub all_short : (b : List ℕ) (st : State) → Short (sending_of (opened_for Read b) st)
all_short b st = go (sending_of (opened_for Read b) st) refl
  where
    go : (t : Turn) → sending_of (opened_for Read b) st ≡ t → Short t
    go (Ok (Some s)) e = sends-short b st s e
    go (Ok None) e = tt
    go (Err x) e = tt

-- what is known of the frames of a book that a read finds
record Sendable (fs : List (List ℕ)) : Type 0 where
  pub short : (st : State) → Short (sending_of (holds fs) st)
  pub few : length fs ≤ most_frames

opened-sendable : (b : List ℕ) (fs : List (List ℕ)) → opened_for Read b ≡ holds fs → Sendable fs
unfolding opened_for
opened-sendable b fs e =
    let k = opened-kept (layout_in b) b fs e in
    record { short = subst (λ (q : Contents). (st : State) → Short (sending_of q st)) e (all_short b); few = most-frames fs k.sound k.forms }

-- ---- runs

-- how many steps are left at the most
abbrev left : ℕ → State → ℕ
left n (Running sent) = n + 1 - sent
left n Done = 0
left n (Stopped p) = 0

-- not more frames are sent than there are, of which there are some
abbrev Near : ℕ → State → Type 0
Near n (Running sent) = (0 < n) × (sent ≤ n)
Near n Done = Unit {0}
Near n (Stopped p) = Unit {0}

onward-left : (n sent : ℕ) → 0 < n → sent ≤ n → Near n (onward_of n sent) × (left n (onward_of n sent) + 1 ≤ left n (Running sent))
onward-left n sent h k = go (ltb sent n) refl
  where
    next : Bool → State
    next t = cond t (Running (sent + 1)) Done

    go : (t : Bool) → ltb sent n ≡ t → Near n (next t) × (left n (next t) + 1 ≤ left n (Running sent))
    go true e = ((h, omega (arith, ltb-true sent n e)), omega (arith, ltb-true sent n e))
    go false e = (tt, omega arith)

heard-left : (n sent : ℕ) (good : Bool) → 0 < n → sent ≤ n
    → Near n (heard_on n (Running sent) good) × (left n (heard_on n (Running sent) good) + 1 ≤ left n (Running sent))
unfolding heard_on
heard-left n sent good h k = rw (ne_eqb n 0 (λ e. omega arith), le-ltb n sent k) (go (eqb sent 0) good (onward-left n sent h k))
  where
    next : State
    next = onward_of n sent

    stopped : Bool → Bool → State
    stopped t u = cond t next (cond u next (Stopped sent))

    go : (t u : Bool) → Near n next × (left n next + 1 ≤ left n (Running sent))
        → Near n (stopped t u) × (left n (stopped t u) + 1 ≤ left n (Running sent))
    go true u w = w
    go false true w = w
    go false false w = (tt, omega arith)

lines-most : (fs : List (List ℕ)) → Sendable fs → (ws : List Word) (st : State) (s : List ℕ) → Near (length fs) st
    → length (played_from (holds fs) st s ws).lines ≤ 128 * left (length fs) st
unfolding played_from
lines-most fs S [] st s h = omega arith
lines-most fs S (w ∷ ws) Done s h = omega arith
lines-most fs S (w ∷ ws) (Stopped p) s h = omega arith
lines-most fs S (w ∷ ws) (Running sent) s h = go (is_status w.bytes) (lines-most fs S ws (heard (holds fs) (Running sent) x) x)
  where
    x : List ℕ
    x = status_in w.bytes

    next : State
    next = heard (holds fs) (Running sent) x

    line_of : List ℕ
    line_of = step_line sent (sending_of (holds fs) (Running sent)) x

    rest : Play
    rest = played_from (holds fs) next x ws

    go : (t : Bool) → (Near (length fs) next → length rest.lines ≤ 128 * left (length fs) next)
        → length (cond t (behind line_of rest) (wrong w)).lines ≤ 128 * (length fs + 1 - sent)
    go true ih =
        let n = heard-left (length fs) sent (is_good x) h.0 h.1 in
        omega (
          arith,
          length-append line_of rest.lines,
          ih n.0,
          n.1,
          step-most sent (sending_of (holds fs) (Running sent)) x (S.short (Running sent)),
        )
    go false ih = omega arith

last-most : (q : Contents) (ws : List Word) (st : State) (s : List ℕ) → length (played_from q st s ws).last ≤ 128
unfolding played_from
last-most q [] st s = closing-most st s
last-most q (w ∷ ws) st s = go (is_running st) (is_status w.bytes) (last-most q ws (heard q st x) x)
  where
    x : List ℕ
    x = status_in w.bytes

    rest : Play
    rest = played_from q (heard q st x) x ws

    go : (t u : Bool) → length rest.last ≤ 128
        → length (cond t (cond u (behind (step_line (sent_of st) (sending_of q st) x) rest) (wrong w)) (closed st s)).last ≤ 128
    go true true h = h
    go true false h = omega arith
    go false u h = closing-most st s

-- ---- texts

start-near : (fs : List (List ℕ)) (st : State) → start_of (holds fs) ≡ Ok st → Near (length fs) st × (left (length fs) st ≤ length fs + 1)
start-near fs st e = go (eqb (length fs) 0) refl e
  where
    n : ℕ
    n = length fs

    first : Bool → State
    first t = cond t Done (Running 0)

    is : (t : Bool) → ◌≡◌ {A = Answer} (Ok (first t)) (Ok st) → first t ≡ st
    is t f = cc

    go : (t : Bool) → eqb n 0 ≡ t → ◌≡◌ {A = Answer} (Ok (first t)) (Ok st) → Near n st × (left n st ≤ n + 1)
    go true f g = subst (λ (z : State). Near n z × (left n z ≤ n + 1)) (is true g) (tt, omega arith)
    go false f g =
        let some : n ≡ 0 → ⊥ = eqb-false n 0 f in
        subst (λ (z : State). Near n z × (left n z ≤ n + 1)) (is false g) ((omega arith, omega arith), omega arith)

-- a run begins with no frame sent
pub start_none : (q : Contents) (st : State) → start_of q ≡ Ok st → sent_of st ≡ 0
start_none (refused x) st e = absurd (let z : ◌≡◌ {A = ℕ} 0 1 = cc in omega arith)
start_none (holds fs) st e = go (eqb (length fs) 0) e
  where
    go : (t : Bool) → ◌≡◌ {A = Answer} (Ok (cond t Done (Running 0))) (Ok st) → sent_of st ≡ 0
    go true f = let is : Done ≡ st = cc in ap sent_of (sym is)
    go false f = let is : Running 0 ≡ st = cc in ap sent_of (sym is)

text-most : (q : Contents) (ws : List Word) → ((fs : List (List ℕ)) → q ≡ holds fs → Sendable fs) → (a : Answer) → start_of q ≡ a
    → length (text_of (played_by q ws a)) ≤ longest
text-most q ws S (Err x) e = omega (arith, refused-most x)
text-most (refused x) ws S (Ok st) e = absurd (let z : ◌≡◌ {A = ℕ} 0 1 = cc in omega arith)
text-most (holds fs) ws S (Ok st) e =
    let s = S fs refl in
    let near = start-near fs st e in
    let p : Play = played_from (holds fs) st unheard ws in
    omega (arith, length-append p.lines p.last, lines-most fs s ws st unheard near.0, near.1, s.few, last-most (holds fs) ws st unheard)

pub played-most : (b : List ℕ) (ws : List Word) → length (text_of (played (opened_for Read b) ws)) ≤ longest
unfolding played
played-most b ws = text-most (opened_for Read b) ws (opened-sendable b) (start_of (opened_for Read b)) refl
