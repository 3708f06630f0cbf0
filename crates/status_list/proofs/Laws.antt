-- Stepping through a text: the words of a text are those from place 0 on (`words-start`). What is found from a place on is the first of them,
-- and behind it go on the others: a status (`found-status`), a wrong word with its line (`found-wrong`), no word (`found-end`).
-- Every word lies in its text (`words-within`).
-- Assumes nothing.
use mathlib.Core.Path.{◌≡◌, refl, sym, ap, subst, ◌∙◌}
use mathlib.Core.Bool.{Bool, cond, false, true}
use mathlib.Core.List.{List, [], ◌∷◌}
use Prim.Native.Nat.{ℕ, suc, ◌+◌, ◌<◌, ◌≤◌}
use native.Mathlib.Omega.{arith}
use borrow.Author.Tests.{leb-false, leb-true, lt-ltb}
use lib.Dec.{leb}
use lib.ListN.{drop, get_or, length, length-drop}
use Rattle.std.specs.Prelude.{Err, None, Ok, Option, Result, Some}
use Rattle.status_list.specs.declared.Found.{Found}
use Rattle.status_list.specs.declared.Wrong.{Wrong}
use Rattle.status_list.specs.Words.{Word, add_if, begins, in_comment, is_status, line_behind, status_in, word_of, words_from, words_in}
use Rattle.status_list.specs.Found.{byte_before, first_of, found_at, line_of, newlines_in, skipped_from, status_found, word_length, words_at, wrong_found}
use Rattle.status_list.proofs.Scans.{word-le}
use Rattle.status_list.proofs.Walks.{word_at, word-length, word_some, words-none, words-word}

pub words-start : (text : List ℕ) → words_in text ≡ words_at text 0
unfolding words_in words_at newlines_in
words-start text = refl

-- the place behind a word
abbrev pub behind : Word → ℕ
behind w = w.start + length w.bytes

-- Where the first word from a place on lies, and which are the others.
pub record Next (text : List ℕ) (at : ℕ) (w : Word) (ws : List Word) : Type 0 where
  pub onward : ws ≡ words_at text (behind w)
  pub from : at ≤ w.start
  pub some : w.start < behind w
  pub within : behind w ≤ length text
  pub line : w.line ≡ line_of text w.start

module _ (text : List ℕ) (at : ℕ) where
  abbrev skips : ℕ
  skips = skipped_from false (byte_before text at) (drop at text)

  next_word : at + skips < length text → Next text at (word_at text (at + skips)) (words_at text (at + skips + word_length (drop (at + skips) text)))
  next_word h =
      let p : ℕ = at + skips in
      let long : length (word_of (drop p text)) ≡ word_length (drop p text) = word-length (drop p text) in
      record {
        onward = ap (λ (n : ℕ). words_at text (p + n)) (sym long);
        from = omega arith;
        some = omega (arith, word_some text at skips refl h);
        within = omega (arith, word-le (drop p text), length-drop p text);
        line = sym (rw (lt-ltb p (length text) h));
      }

  pub words-next : (w : Word) (ws : List Word) → words_at text at ≡ w ∷ ws → Next text at w ws
  words-next w ws e = go (leb (length text) (at + skips)) refl
    where
      go : (t : Bool) → leb (length text) (at + skips) ≡ t → Next text at w ws
      go true l =
          let none : words_at text at ≡ [] = words-none text at skips refl (leb-true (length text) (at + skips) l) in
          absurd (let z : ◌≡◌ {A = ℕ} 0 1 = cc in omega arith)
      go false l =
          let h : at + skips < length text = leb-false (length text) (at + skips) l in
          let is : words_at text at ≡ word_at text (at + skips) ∷ words_at text (at + skips + word_length (drop (at + skips) text)) =
          words-word text at skips refl h in
          let one : word_at text (at + skips) ≡ w = cc in
          let more : words_at text (at + skips + word_length (drop (at + skips) text)) ≡ ws = cc in
          subst (λ (v : Word). Next text at v ws) one (subst (Next text at (word_at text (at + skips))) more (next_word h))

  -- ---- what is found

  pub record IsStatus (high low next : ℕ) : Type 0 where
    pub word : Word
    pub words : words_at text at ≡ word ∷ words_at text next
    pub status : is_status word.bytes ≡ true
    pub says : status_in word.bytes ≡ high ∷ low ∷ []
    pub forward : at < next
    pub within : next ≤ length text

  pub record IsWrong (start end : ℕ) : Type 0 where
    pub word : Word
    pub words : words_at text at ≡ word ∷ words_at text end
    pub wrong : is_status word.bytes ≡ false
    pub starts : word.start ≡ start
    pub ends : behind word ≡ end
    pub line : word.line ≡ line_of text start
    pub some : start < end
    pub within : end ≤ length text

  abbrev pub Finds : Result (Option Found) Wrong → Type 0
  Finds (Ok (Some f)) = IsStatus f.high f.low f.next
  Finds (Ok None) = words_at text at ≡ []
  Finds (Err w) = IsWrong w.start w.end

  finds : (ws : List Word) → words_at text at ≡ ws → Finds (first_of ws)
  finds [] e = e
  finds (w ∷ ws) e = go (is_status w.bytes) refl
    where
      n : Next text at w ws
      n = words-next w ws e

      go : (t : Bool) → is_status w.bytes ≡ t
          → Finds (cond t (status_found (get_or (status_in w.bytes) 0 0) (get_or (status_in w.bytes) 1 0) (behind w)) (wrong_found w.start (behind w)))
      go true s = record {
        word = w;
        words = e ∙ ap (λ (vs : List Word). w ∷ vs) n.onward;
        status = s;
        says = refl;
        forward = omega (arith, n.from, n.some);
        within = n.within;
      }
      go false s = record {
        word = w;
        words = e ∙ ap (λ (vs : List Word). w ∷ vs) n.onward;
        wrong = s;
        starts = refl;
        ends = refl;
        line = n.line;
        some = n.some;
        within = n.within;
      }

  pub found-finds : Finds (found_at text at)
  unfolding found_at
  found-finds = finds (words_at text at) refl

  pub found-status : (high low next : ℕ) → found_at text at ≡ status_found high low next → IsStatus high low next
  found-status high low next e = subst Finds e found-finds

  pub found-wrong : (start end : ℕ) → found_at text at ≡ wrong_found start end → IsWrong start end
  found-wrong start end e = subst Finds e found-finds

  pub found-end : found_at text at ≡ Ok None → words_at text at ≡ []
  found-end e = subst Finds e found-finds

-- ---- where the words lie

abbrev pub AllWithin : ℕ → List Word → Type 0
AllWithin n [] = Unit {0}
AllWithin n (w ∷ ws) = (behind w ≤ n) × AllWithin n ws

from-within : (c : Bool) (before line at : ℕ) (s : List ℕ) (n : ℕ) → at + length s ≤ n → AllWithin n (words_from c before line at s)
unfolding words_from
from-within c before line at [] n h = tt
from-within c before line at (b ∷ s) n h =
    go (begins c before b) (from-within (in_comment c before b) b (line_behind b line) (suc at) s n (omega arith))
  where
    w : Word
    w = record { line = line; start = at; bytes = word_of (b ∷ s) }

    go : (t : Bool) → AllWithin n (words_from (in_comment c before b) b (line_behind b line) (suc at) s)
        → AllWithin n (add_if t w (words_from (in_comment c before b) b (line_behind b line) (suc at) s))
    go true a = (omega (arith, word-length (b ∷ s), word-le (b ∷ s)), a)
    go false a = a

pub words-within : (text : List ℕ) → AllWithin (length text) (words_in text)
unfolding words_in
words-within text = from-within false 10 1 0 text (length text) (omega arith)
