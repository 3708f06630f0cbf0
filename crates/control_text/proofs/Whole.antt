-- A play as the source hands it over: in an output that is too short nothing is played (`play-short`), and else the text stands at its start, by the run
-- from the first state (`play-run`) or for a refused book (`play-refused`).
-- Assumes nothing.
use mathlib.Core.Path.{◌≡◌, sym, ap, subst, ◌∙◌}
use mathlib.Core.List.{List, [], ◌∷◌}
use Prim.Native.Nat.{ℕ, ◌<◌, ◌≤◌}
use native.Mathlib.Omega.{arith}
use borrow.Author.Tests.{le-leb, lt-leb}
use lib.ListN.{length, length-append}
use lib.Seq.{sets}
use Rattle.texts.specs.Words.{word}
use Rattle.texts.specs.Whole.{laid}
use Rattle.texts.specs.Written.{Puts, filled}
use Rattle.texts.proofs.Writing.{puts-as, short-whole, start-whole}
use Rattle.refusal.specs.declared.Refusal.{Refusal}
use Rattle.refusal.specs.Numbers.{number_of}
use Rattle.status_list.specs.Words.{words_in}
use Rattle.status_list.proofs.Laws.{words-within}
use Rattle.book.specs.Book.{Read, opened_for}
use Rattle.controller.specs.declared.State.{State}
use Rattle.controller.specs.Controller.{Answer}
use Rattle.std.specs.Prelude.{Err, Ok}
use Rattle.controller.specs.Controller.{start_of}
use Rattle.control_text.specs.declared.Halt.TheVariants.{Ended, Waiting}
use Rattle.control_text.specs.declared.Played.{Played}
use Rattle.control_text.specs.Text.{Play, Within, longest, played, played_by, played_in, run_of, text_of, told_of, unheard}
use Rattle.control_text.proofs.Forms.{refused-form}
use Rattle.control_text.proofs.Turns.{halt-within, played-is}
use Rattle.control_text.proofs.Longest.{played-most}

module _ (b text o : List ℕ) where
  abbrev p : Play
  p = played (opened_for Read b) (words_in text)

  -- what the contract asks of an answer and of the output at exit
  abbrev Plays : Played → List ℕ → Type 0
  Plays r out = (r ≡ played_in p o) × ((out ≡ laid longest (text_of p) o) × ((r.steps ≤ r.len) × (r.len ≤ length o) × Within (length text) r.halt))

  p-within : Within (length text) p.halt
  unfolding played
  p-within = go (start_of (opened_for Read b))
    where
      go : (a : Answer) → Within (length text) (played_by (opened_for Read b) (words_in text) a).halt
      go (Ok st) = halt-within (length text) (opened_for Read b) (words_in text) st unheard (words-within text)
      go (Err x) = tt

  pub play-short : length o < longest → Plays (record { steps = 0; len = 0; halt = Waiting }) o
  play-short h = (rw (lt-leb longest (length o) h), ((short-whole longest (text_of p) o h).1.0, (omega arith, omega arith, tt)))

  module _ (h : longest ≤ length o) where
    whole : (r : Played) (out : List ℕ) → r ≡ told_of p → out ≡ sets o 0 (text_of p) → Plays r out
    whole r out e f =
        let len : r.len ≡ length (text_of p) = ap (λ (x : Played). x.len) e in
        let steps : r.steps ≡ length p.lines = ap (λ (x : Played). x.steps) e in
        let w = start-whole (text_of p) o longest (played-most b (words_in text)) h len f in
        let lies : Within (length text) r.halt = subst (Within (length text)) (sym (ap (λ (x : Played). x.halt) e)) p-within in
        (rw (le-leb longest (length o) h) e, (w.1.0, (omega (arith, length-append p.lines p.last), w.1.1, lies)))

    module _ (first : State) (s : start_of (opened_for Read b) ≡ Ok first) where
      run_is : p ≡ run_of b first text
      unfolding played
      run_is = ap (played_by (opened_for Read b) (words_in text)) s

      pub run_fits : length (text_of (run_of b first text)) ≤ length o
      run_fits = omega (arith, played-most b (words_in text), ap (λ (x : Play). length (text_of x)) run_is)

      pub play-run : (r : Played) (out : List ℕ) → r ≡ told_of (run_of b first text) → out ≡ sets o 0 (text_of (run_of b first text)) → Plays r out
      play-run r out e f = whole r out (e ∙ ap told_of (sym run_is)) (f ∙ ap (λ (x : Play). sets o 0 (text_of x)) (sym run_is))

    pub play-refused : (x : Refusal) (n len : ℕ) (out : List ℕ) → start_of (opened_for Read b) ≡ Err x → n ≡ number_of x
        → Puts (filled (word "refused 0\n") (n ∷ []) []) 0 o len out → Plays (record { steps = 0; len = len; halt = Ended }) out
    unfolding played
    play-refused x n len out s e u =
        let is : p ≡ played_by (opened_for Read b) (words_in text) (Err x) = ap (played_by (opened_for Read b) (words_in text)) s in
        let v : Puts (text_of p) 0 o len out = puts-as _ (ap text_of is ∙ refused-form x e) u in
        let r : Played = record { steps = 0; len = len; halt = Ended } in
        whole r out
        (played-is r _ _ _ (sym (ap (λ (y : Play). length y.lines) is)) (omega (arith, v.ends, played-most b (words_in text)))
        (sym (ap (λ (y : Play). y.halt) is)))
        v.stands
