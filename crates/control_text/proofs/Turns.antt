-- How a run goes on: the lines that stand there, and what is played from here on, make up the whole (`Going`). A step keeps that (`going_step`), and where
-- nothing more is played it is all: at the end, or where the statuses end (`going-close`), or where a word is wrong (`going-wrong`).
-- Assumes nothing.
use mathlib.Core.Path.{◌≡◌, refl, sym, ap, ap₂, ◌∙◌}
use mathlib.Core.Bool.{Bool, cond, false, true}
use mathlib.Core.List.{List, [], ◌∷◌, ◌++◌, append_assoc, append-nil}
use Prim.Native.Nat.{ℕ, ◌+◌, ◌<◌, ◌≤◌}
use native.Mathlib.Omega.{arith}
use lib.Dec.{eqb, ltb}
use lib.ListN.{length, length-append}
use lib.Seq.{sets}
use Rattle.texts.specs.Written.{Puts}
use Rattle.texts.proofs.Writing.{puts-as, puts-length, puts_none, puts_then}
use Rattle.std.specs.Prelude.{None, Ok}
use Rattle.status_list.specs.Words.{Word, is_status, status_in}
use Rattle.status_list.specs.Found.{found_at, status_found, words_at, wrong_found}
use Rattle.status_list.proofs.Laws.{AllWithin, IsStatus, IsWrong, found-end, found-status, found-wrong, words-start}
use Rattle.contents.specs.Contents.{Contents, holds, refused}
use Rattle.book.specs.Book.{Read, opened_for}
use Rattle.controller.specs.declared.State.{State}
use Rattle.controller.specs.declared.State.TheVariants.{Done, Running, Stopped}
use Rattle.controller.specs.Controller.{Turn, heard_on, is_good, is_over, onward_of, sending_of}
use Rattle.control_text.specs.declared.Halt.{Halt}
use Rattle.control_text.specs.declared.Halt.TheVariants.{Wrong}
use Rattle.control_text.specs.declared.Played.{Played}
use Rattle.control_text.specs.Text.{Closes, Play, Within, behind, closed, halt_of, heard, is_running, played_from, run_of, sent_of}
use Rattle.control_text.specs.Text.{step_line, text_of, told_of, unheard, wrong}

-- ---- one step

-- a step sends one frame at the most
onward-few : (n sent : ℕ) → sent_of (onward_of n sent) ≤ sent + 1
onward-few n sent = go (ltb sent n)
  where
    go : (t : Bool) → sent_of (cond t (Running (sent + 1)) Done) ≤ sent + 1
    go true = omega arith
    go false = omega arith

heard-few : (q : Contents) (st : State) (s : List ℕ) → sent_of (heard q st s) ≤ sent_of st + 1
unfolding heard_on
heard-few (refused x) st s = omega arith
heard-few (holds fs) Done s = omega arith
heard-few (holds fs) (Stopped p) s = omega arith
heard-few (holds fs) (Running sent) s = go (is_over (length fs) sent) (eqb sent 0) (is_good s) (onward-few (length fs) sent)
  where
    next : State
    next = onward_of (length fs) sent

    go : (t u v : Bool) → sent_of next ≤ sent + 1 → sent_of (cond t (Running sent) (cond u next (cond v next (Stopped sent)))) ≤ sent + 1
    go true u v h = omega arith
    go false true v h = h
    go false false true h = h
    go false false false h = omega arith

module _ (q : Contents) (st : State) (s : List ℕ) where
  pub played-over : (ws : List Word) → is_running st ≡ false → played_from q st s ws ≡ closed st s
  unfolding played_from
  played-over [] e = refl
  played-over (w ∷ ws) e = rw e

  played-step : (w : Word) (ws : List Word) (x : List ℕ) → is_running st ≡ true → is_status w.bytes ≡ true → status_in w.bytes ≡ x
      → played_from q st s (w ∷ ws) ≡ behind (step_line (sent_of st) (sending_of q st) x) (played_from q (heard q st x) x ws)
  unfolding played_from
  played-step w ws x r e f =
      rw (r, e) (ap (λ (y : List ℕ). behind (step_line (sent_of st) (sending_of q st) y) (played_from q (heard q st y) y ws)) f)

  played-wrong : (w : Word) (ws : List Word) → is_running st ≡ true → is_status w.bytes ≡ false → played_from q st s (w ∷ ws) ≡ wrong w
  unfolding played_from
  played-wrong w ws r e = rw (r, e)

-- a state that does not run is over
pub not-running : (st : State) → ((sent : ℕ) → st ≡ Running sent → ⊥) → is_running st ≡ false
not-running (Running sent) n = absurd (n sent refl)
not-running Done n = refl
not-running (Stopped p) n = refl

-- ---- on and on

pub record Going (b text : List ℕ) (first : State) (o : List ℕ) (st : State) (s : List ℕ) (at to : ℕ) (out : List ℕ) : Type 0 where
  pub shown : List ℕ
  pub whole : run_of b first text ≡ behind shown (played_from (opened_for Read b) st s (words_at text at))
  pub puts : Puts shown 0 o to out
  pub long : length out ≡ length o
  pub two : 2 ≡ length s
  pub inside : at ≤ length text
  pub few : sent_of st ≤ at

pub going_start : (b text : List ℕ) (first : State) (o : List ℕ) → sent_of first ≡ 0 → Going b text first o first unheard 0 0 o
going_start b text first o e = record {
  shown = [];
  whole = ap (played_from (opened_for Read b) first unheard) (words-start text);
  puts = puts_none _ _;
  long = refl;
  two = refl;
  inside = omega arith;
  few = omega arith;
}

-- behind what is behind
behind-twice : (a b : List ℕ) (p : Play) → behind a (behind b p) ≡ behind (a ++ b) p
behind-twice a b p = ap (λ (l : List ℕ). record { lines = l; last = p.last; halt = p.halt }) (sym (append_assoc a b p.lines))

pub played-is : (r : Played) (steps len : ℕ) (halt : Halt) → r.steps ≡ steps → r.len ≡ len → r.halt ≡ halt
    → r ≡ record { steps = steps; len = len; halt = halt }
played-is r steps len halt e f g i = record { steps = e i; len = f i; halt = g i }

module _ (b text : List ℕ) (first : State) (o : List ℕ) (st : State) (s : List ℕ) (at to : ℕ) (out : List ℕ) (g : Going b text first o st s at to out) where
  abbrev q : Contents
  q = opened_for Read b

  module _ (r : is_running st ≡ true) where
    module _ (high low next : ℕ) (f : found_at text at ≡ status_found high low next) where
      abbrev x : List ℕ
      x = high ∷ low ∷ []

      is : IsStatus text at high low next
      is = found-status text at high low next f

      pub going-forward : (at < next) × (next ≤ length text) × (sent_of st < next)
      going-forward = (is.forward, is.within, omega (arith, is.forward, g.few))

      pub going_step : (sent : ℕ) (y : Turn) (st' : State) (to' : ℕ) (out' : List ℕ) → sent ≡ sent_of st → y ≡ sending_of q st → st' ≡ heard q st x
          → Puts (step_line sent y x) to out to' out' → Going b text first o st' x next to' out'
      going_step sent y st' to' out' n k h p = record {
        shown = g.shown ++ step_line sent y x;
        whole =
            g.whole
            ∙ ap (λ (ws : List Word). behind g.shown (played_from q st s ws)) is.words
            ∙ ap (behind g.shown) (played-step q st s is.word (words_at text next) x r is.status is.says)
            ∙ behind-twice g.shown (step_line (sent_of st) (sending_of q st) x) (played_from q (heard q st x) x (words_at text next))
            ∙ ap₂ (λ (l : List ℕ) (z : State). behind (g.shown ++ l) (played_from q z x (words_at text next)))
            (ap₂ (λ (m : ℕ) (w : Turn). step_line m w x) (sym n) (sym k)) (sym h);
        puts = puts_then g.puts p;
        long = puts-length p ∙ g.long;
        two = refl;
        inside = is.within;
        few = omega (arith, is.forward, g.few, heard-few q st x, ap sent_of h);
      }

  module _ (fits : length (text_of (run_of b first text)) ≤ length o) where
    -- the lines that stand there, where nothing more is played but the last line
    module _ (p : Play) (e : run_of b first text ≡ behind g.shown p) (none : p.lines ≡ []) where
      text-is : text_of (run_of b first text) ≡ g.shown ++ p.last
      text-is = ap text_of e ∙ ap (λ (l : List ℕ). (g.shown ++ l) ++ p.last) none ∙ ap (λ (l : List ℕ). l ++ p.last) (append-nil g.shown)

      steps-are : to ≡ length (run_of b first text).lines
      steps-are =
          let n : length (text_of (run_of b first text)) ≡ length g.shown + length p.last = ap length text-is ∙ length-append g.shown p.last in
          let m : length (run_of b first text).lines ≡ length g.shown =
          ap (λ (y : Play). length y.lines) e ∙ ap (λ (l : List ℕ). length (g.shown ++ l)) none ∙ ap length (append-nil g.shown) in
          omega (arith, g.puts.ends)

      -- the last line stands behind them
      closes : (r : Played) (out' : List ℕ) → r.steps ≡ to → r.halt ≡ p.halt → Puts p.last to out r.len out'
          → (r ≡ told_of (run_of b first text)) × (out' ≡ sets o 0 (text_of (run_of b first text)))
      closes r out' k h u =
          let w : Puts (text_of (run_of b first text)) 0 o r.len out' = puts-as _ text-is (puts_then g.puts u) in
          (played-is r _ _ _ (k ∙ steps-are) (omega (arith, w.ends)) (h ∙ sym (ap (λ (y : Play). y.halt) e)), w.stands)

    module _ (r : Played) (out' : List ℕ) (c : Closes s st to out r out') where
      close-all : played_from q st s (words_at text at) ≡ closed st s → (r ≡ told_of (run_of b first text)) × (out' ≡ sets o 0 (text_of (run_of b first text)))
      close-all e = closes (closed st s) (g.whole ∙ ap (behind g.shown) e) refl r out' c.steps c.halt c.puts

      -- the run is over
      pub going-over : is_running st ≡ false → (r ≡ told_of (run_of b first text)) × (out' ≡ sets o 0 (text_of (run_of b first text)))
      going-over e = close-all (played-over q st s (words_at text at) e)

      -- the statuses are
      pub going_end : found_at text at ≡ Ok None → (r ≡ told_of (run_of b first text)) × (out' ≡ sets o 0 (text_of (run_of b first text)))
      unfolding played_from
      going_end f = close-all (ap (played_from q st s) (found-end text at f))

    pub going-wrong : (start end : ℕ) → is_running st ≡ true → found_at text at ≡ wrong_found start end
        → (record { steps = to; len = to; halt = Wrong start end } ≡ told_of (run_of b first text)) × (out ≡ sets o 0 (text_of (run_of b first text)))
    going-wrong start end r f =
        let is : IsWrong text at start end = found-wrong text at start end f in
        let e : played_from q st s (words_at text at) ≡ wrong is.word =
        ap (played_from q st s) is.words ∙ played-wrong q st s is.word (words_at text end) r is.wrong in
        closes (wrong is.word) (g.whole ∙ ap (behind g.shown) e) refl (record { steps = to; len = to; halt = Wrong start end }) out refl
        (ap₂ Wrong (sym is.starts) (sym is.ends)) (puts_none _ _)

-- ---- where a wrong word lies

closed-within : (n : ℕ) (st : State) → Within n (halt_of st)
closed-within n (Running sent) = tt
closed-within n Done = tt
closed-within n (Stopped p) = tt

pub halt-within : (n : ℕ) (q : Contents) (ws : List Word) (st : State) (s : List ℕ) → AllWithin n ws → Within n (played_from q st s ws).halt
unfolding played_from
halt-within n q [] st s a = closed-within n st
halt-within n q (w ∷ ws) st s a = go (is_running st) (is_status w.bytes) (halt-within n q ws (heard q st x) x a.1)
  where
    x : List ℕ
    x = status_in w.bytes

    rest : Play
    rest = played_from q (heard q st x) x ws

    go : (t u : Bool) → Within n rest.halt
        → Within n (cond t (cond u (behind (step_line (sent_of st) (sending_of q st) x) rest) (wrong w)) (closed st s)).halt
    go true true h = h
    go true false h = (omega arith, a.0)
    go false u h = closed-within n st
