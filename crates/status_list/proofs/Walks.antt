-- From place to place of a text: a place is left behind byte by byte (`from_step`), so that the first word from a place on is the one that
-- `skipped_from` says, and the others are those from behind it on (`from-none`, `from-word`).
-- Assumes nothing.
use mathlib.Core.Path.{◌≡◌, refl, sym, ap, ap₂, ◌∙◌}
use mathlib.Core.Bool.{Bool, cond, false, false≢true, not, true, ◌&&◌}
use mathlib.Core.List.{List, [], ◌∷◌, ◌++◌}
use Prim.Native.Nat.{ℕ, zero, suc, ◌+◌, ◌-◌, ◌<◌, ◌≤◌}
use native.Mathlib.Numerals.{add-one}
use native.Mathlib.Omega.{arith}
use borrow.Author.Tests.{ne_eqb}
use lib.Dec.{eqb}
use lib.ListN.{drop, drop_of_length-le, get_or, length, length-drop, take}
use lib.Seq.{get_or-drop, length-take-le, take_all, take-suc}
use Rattle.std.specs.Prelude.{None, Ok}
use Rattle.status_list.specs.Words.{Word, add_if, begins, between, in_comment, is_blank, line_behind, word_of, words_from}
use Rattle.status_list.specs.Found.{byte_before, first_of, found_at, newlines_in, said_by, skipped_from, word_length, words_at}
use Rattle.status_list.proofs.Scans.{from-here, skipped-le, word-le}

-- the words from a place on, where a comment may reach
abbrev pub from : Bool → List ℕ → ℕ → List Word
from c text at = words_from c (byte_before text at) (newlines_in (take at text) + 1) at (drop at text)

-- the word that begins at a place
abbrev pub word_at : List ℕ → ℕ → Word
word_at text at = record { line = newlines_in (take at text) + 1; start = at; bytes = word_of (drop at text) }

-- ---- lines

newlines-append : (a b : List ℕ) → newlines_in (a ++ b) ≡ newlines_in a + newlines_in b
unfolding newlines_in
newlines-append [] b = omega arith
newlines-append (x ∷ a) b = omega (arith, newlines-append a b)

newline-one : (b n : ℕ) → n + newlines_in (b ∷ []) + 1 ≡ line_behind b (n + 1)
unfolding newlines_in
newline-one b n = go (eqb b 10)
  where
    go : (t : Bool) → n + (cond t 1 0 + 0) + 1 ≡ cond t (suc (n + 1)) (n + 1)
    go true = omega arith
    go false = omega arith

-- ---- a byte

module _ (text : List ℕ) (at : ℕ) (h : at < length text) where
  abbrev b : ℕ
  b = get_or text at 0

  pub before-next : byte_before text (at + 1) ≡ get_or text at 0
  before-next =
      let n : at + 1 - 1 ≡ at = omega arith in
      rw (ne_eqb (at + 1) 0 (λ e. omega arith)) (ap (λ (i : ℕ). get_or text i 0) n)

  line-next : newlines_in (take (at + 1) text) + 1 ≡ line_behind b (newlines_in (take at text) + 1)
  line-next =
      let taken : take (at + 1) text ≡ take at text ++ (b ∷ []) = ap (λ (k : ℕ). take k text) (add-one at) ∙ take-suc text at 0 h in
      ap (λ (l : List ℕ). newlines_in l + 1) taken
      ∙ ap (λ (k : ℕ). k + 1) (newlines-append (take at text) (b ∷ []))
      ∙ newline-one b (newlines_in (take at text))

  pub from_step : (c : Bool)
      → from c text at ≡ add_if (begins c (byte_before text at) b) (word_at text at) (from (in_comment c (byte_before text at) b) text (at + 1))
  unfolding words_from
  from_step c =
      let before : ℕ = byte_before text at in
      let line : ℕ = newlines_in (take at text) + 1 in
      let rest : List ℕ = drop (at + 1) text in
      ap (words_from c before line at) (from-here text at h)
      ∙ ap (λ (l : List ℕ). add_if (begins c before b) (record { line = line; start = at; bytes = word_of l })
      (words_from (in_comment c before b) b (line_behind b line) (suc at) rest)) (sym (from-here text at h))
      ∙ ap (λ (k : ℕ). add_if (begins c before b) (word_at text at) (words_from (in_comment c before b) b (line_behind b line) k rest)) (sym (add-one at))
      ∙ ap₂ (λ (x y : ℕ). add_if (begins c before b) (word_at text at) (words_from (in_comment c before b) x y (at + 1) rest)) (sym before-next) (sym line-next)

  skipped-step : (c : Bool) → skipped_from c (byte_before text at) (drop at text)
      ≡ cond (begins c (byte_before text at) b) 0 (suc (skipped_from (in_comment c (byte_before text at) b) (byte_before text (at + 1)) (drop (at + 1) text)))
  unfolding skipped_from
  skipped-step c =
      let before : ℕ = byte_before text at in
      ap (skipped_from c before) (from-here text at h)
      ∙ ap (λ (x : ℕ). cond (begins c before b) 0 (suc (skipped_from (in_comment c before b) x (drop (at + 1) text)))) (sym before-next)

-- ---- behind the first byte of a word

-- behind a byte that is no white space no word begins
pub inside-begins : (c : Bool) (before b : ℕ) → is_blank before ≡ false → begins c before b ≡ false
unfolding begins
inside-begins c before b e = rw e

-- nor does a line
inside-line : (before : ℕ) → is_blank before ≡ false → eqb before 10 ≡ false
unfolding is_blank between
inside-line before e = ne_eqb before 10 (λ f. absurd (false≢true (sym e ∙ ap is_blank f)))

pub inside-comment : (before b : ℕ) → is_blank before ≡ false → in_comment false before b ≡ false
unfolding in_comment
inside-comment before b e = rw (inside-line before e) (go (eqb b 10))
  where
    go : (t : Bool) → not t && false ≡ false
    go true = refl
    go false = refl

-- a word that begins is no white space, and stands in no comment
begins-says : (c : Bool) (before b : ℕ) → begins c before b ≡ true → (is_blank b ≡ false) × (in_comment c before b ≡ false)
unfolding begins
begins-says c before b e = go (is_blank before) (is_blank b) (in_comment c before b) e
  where
    go : (t u v : Bool) → t && (not u && not v) ≡ true → (u ≡ false) × (v ≡ false)
    go true true v e = absurd (false≢true e)
    go true false true e = absurd (false≢true e)
    go true false false e = (refl, refl)
    go false u v e = absurd (false≢true e)

pub word-inside : (s : List ℕ) (i : ℕ) → i < word_length s → is_blank (get_or s i 0) ≡ false
unfolding word_length
word-inside [] i h = absurd (omega arith)
word-inside (b ∷ s) i h = go (is_blank b) refl i h (word-inside s)
  where
    go : (t : Bool) → is_blank b ≡ t → (i : ℕ) → i < cond t 0 (suc (word_length s)) → ((j : ℕ) → j < word_length s → is_blank (get_or s j 0) ≡ false)
        → is_blank (get_or (b ∷ s) i 0) ≡ false
    go true e i h f = absurd (omega arith)
    go false e zero h f = e
    go false e (suc i) h f = f i (omega arith)

module _ (text : List ℕ) where
  -- n bytes that are no white space, behind one that is none
  inside-pass : (n at : ℕ) → at + n ≤ length text → is_blank (byte_before text at) ≡ false
      → ((i : ℕ) → i < n → is_blank (get_or text (at + i) 0) ≡ false) → from false text at ≡ from false text (at + n)
  inside-pass zero at h e f = let z : at ≡ at + 0 = omega arith in ap (from false text) z
  inside-pass (suc n) at h e f =
      let in-text : at < length text = omega arith in
      let here : at + 0 ≡ at = omega arith in
      let far : at + 1 + n ≡ at + suc n = omega arith in
      let black : is_blank (byte_before text (at + 1)) ≡ false =
      ap is_blank (before-next text at in-text ∙ ap (λ (i : ℕ). get_or text i 0) (sym here)) ∙ f 0 (omega arith) in
      from_step text at in-text false
      ∙ ap₂ (λ (t u : Bool). add_if t (word_at text at) (from u text (at + 1)))
      (inside-begins false (byte_before text at) (get_or text at 0) e) (inside-comment (byte_before text at) (get_or text at 0) e)
      ∙ inside-pass n (at + 1) (omega arith) black (λ i k. ap (λ (j : ℕ). is_blank (get_or text j 0)) (shift at i) ∙ f (suc i) (omega arith))
      ∙ ap (from false text) far
    where
      shift : (at i : ℕ) → at + 1 + i ≡ at + suc i
      shift at i = omega arith

  -- ---- before it

  pub record First (c : Bool) (at n : ℕ) : Type 0 where
    pub words : from c text at ≡ word_at text (at + n) ∷ from false text (at + n + 1)
    pub black : is_blank (get_or text (at + n) 0) ≡ false

  first-here : (c : Bool) (at : ℕ) → at < length text → begins c (byte_before text at) (get_or text at 0) ≡ true → First c at 0
  first-here c at h e =
      let z : at ≡ at + 0 = omega arith in
      let says = begins-says c (byte_before text at) (get_or text at 0) e in
      record {
        words =
            from_step text at h c
            ∙ ap₂ (λ (t u : Bool). add_if t (word_at text at) (from u text (at + 1))) e says.1
            ∙ ap (λ (k : ℕ). word_at text k ∷ from false text (k + 1)) z;
        black = ap (λ (k : ℕ). is_blank (get_or text k 0)) (sym z) ∙ says.0;
      }

  first-later : (c : Bool) (at n : ℕ) → at < length text → begins c (byte_before text at) (get_or text at 0) ≡ false
      → First (in_comment c (byte_before text at) (get_or text at 0)) (at + 1) n → First c at (suc n)
  first-later c at n h e f =
      let far : at + 1 + n ≡ at + suc n = omega arith in
      record {
        words =
            from_step text at h c
            ∙ ap (λ (t : Bool). add_if t (word_at text at) (from (in_comment c (byte_before text at) (get_or text at 0)) text (at + 1))) e
            ∙ f.words
            ∙ ap (λ (k : ℕ). word_at text k ∷ from false text (k + 1)) far;
        black = ap (λ (k : ℕ). is_blank (get_or text k 0)) (sym far) ∙ f.black;
      }

  first-is : (n : ℕ) (c : Bool) (at : ℕ) → skipped_from c (byte_before text at) (drop at text) ≡ n → at + n < length text → First c at n
  first-is zero c at e h = go (begins c (byte_before text at) (get_or text at 0)) refl (sym (skipped-step text at (omega arith) c) ∙ e)
    where
      go : (t : Bool) → begins c (byte_before text at) (get_or text at 0) ≡ t
          → cond t 0 (suc (skipped_from (in_comment c (byte_before text at) (get_or text at 0)) (byte_before text (at + 1)) (drop (at + 1) text))) ≡ 0 → First c at 0
      go true f g = first-here c at (omega arith) f
      go false f g = absurd (omega arith)
  first-is (suc n) c at e h =
      go (begins c (byte_before text at) (get_or text at 0)) refl (sym (skipped-step text at (omega arith) c) ∙ e)
      (λ q. first-is n (in_comment c (byte_before text at) (get_or text at 0)) (at + 1) q (omega arith))
    where
      more : ℕ
      more = skipped_from (in_comment c (byte_before text at) (get_or text at 0)) (byte_before text (at + 1)) (drop (at + 1) text)

      go : (t : Bool) → begins c (byte_before text at) (get_or text at 0) ≡ t → cond t 0 (suc more) ≡ suc n
          → (more ≡ n → First (in_comment c (byte_before text at) (get_or text at 0)) (at + 1) n) → First c at (suc n)
      go true f g ih = absurd (omega arith)
      go false f g ih = first-later c at n (omega arith) f (ih (omega arith))

  first-none : (n : ℕ) (c : Bool) (at : ℕ) → skipped_from c (byte_before text at) (drop at text) ≡ n → length text ≤ at + n → from c text at ≡ []
  unfolding words_from
  first-none zero c at e h = ap (words_from c (byte_before text at) (newlines_in (take at text) + 1) at) (drop_of_length-le text {i = at} (omega arith))
  first-none (suc n) c at e h =
      let in-text : at < length text = omega (arith, skipped-le c (byte_before text at) (drop at text), length-drop at text) in
      from_step text at in-text c
      ∙ go (begins c (byte_before text at) (get_or text at 0)) (sym (skipped-step text at in-text c) ∙ e)
      (λ q. first-none n (in_comment c (byte_before text at) (get_or text at 0)) (at + 1) q (omega arith))
    where
      more : ℕ
      more = skipped_from (in_comment c (byte_before text at) (get_or text at 0)) (byte_before text (at + 1)) (drop (at + 1) text)

      rest : List Word
      rest = from (in_comment c (byte_before text at) (get_or text at 0)) text (at + 1)

      go : (t : Bool) → cond t 0 (suc more) ≡ suc n → (more ≡ n → rest ≡ []) → add_if t (word_at text at) rest ≡ []
      go true g ih = absurd (omega arith)
      go false g ih = ih (omega arith)

-- ---- from word to word

pub word-taken : (s : List ℕ) → word_of s ≡ take (word_length s) s
unfolding word_of word_length
word-taken [] = refl
word-taken (b ∷ s) = go (is_blank b) (word-taken s)
  where
    go : (t : Bool) → word_of s ≡ take (word_length s) s → cond t [] (b ∷ word_of s) ≡ take (cond t 0 (suc (word_length s))) (b ∷ s)
    go true e = refl
    go false e = ap (λ (l : List ℕ). b ∷ l) e

pub word-length : (s : List ℕ) → length (word_of s) ≡ word_length s
word-length s = ap length (word-taken s) ∙ length-take-le (word_length s) s (word-le s)

module _ (text : List ℕ) (at n : ℕ) (e : skipped_from false (byte_before text at) (drop at text) ≡ n) where
  pub words-none : length text ≤ at + n → words_at text at ≡ []
  unfolding words_at
  words-none h = first-none text n false at e h

  module _ (h : at + n < length text) where
    abbrev p : ℕ
    p = at + n

    first : First text false at n
    first = first-is text n false at e h

    -- a word has a byte at least
    pub word_some : 0 < word_length (drop (at + n) text)
    unfolding word_length
    word_some = let long : word_length (drop p text) ≡ suc (word_length (drop (p + 1) text)) = rw (from-here text p h, first.black) in omega arith

    pub words-word : words_at text at ≡ word_at text (at + n) ∷ words_at text (at + n + word_length (drop (at + n) text))
    unfolding words_at
    words-word =
        let m : ℕ = word_length (drop p text) - 1 in
        let far : p + 1 + m ≡ p + word_length (drop p text) = omega (arith, word_some) in
        let room : p + 1 + m ≤ length text = omega (arith, word_some, word-le (drop p text), length-drop p text) in
        let black : is_blank (byte_before text (p + 1)) ≡ false = ap is_blank (before-next text p h) ∙ first.black in
        first.words
        ∙ ap (λ (ws : List Word). word_at text p ∷ ws) (inside-pass text m (p + 1) room black inside ∙ ap (from false text) far)
      where
        inside : (i : ℕ) → i < word_length (drop p text) - 1 → is_blank (get_or text (p + 1 + i) 0) ≡ false
        inside i k =
            let at_one : p + 1 + i ≡ p + suc i = omega arith in
            ap (λ (j : ℕ). is_blank (get_or text j 0)) at_one ∙ ap is_blank (sym (get_or-drop p text (suc i) 0)) ∙ word-inside (drop p text) (suc i) (omega arith)

-- ---- as the source finds it: from a part of the text, by its own counts

pub tail : (n : ℕ) (l : List ℕ) → take (length l - n) (drop n l) ≡ drop n l
tail n l = take_all (length l - n) (drop n l) (omega (arith, length-drop n l))

module _ (text : List ℕ) (at : ℕ) where
  pub found-past : length text ≤ at → found_at text at ≡ Ok None
  unfolding found_at
  found-past h =
      let none : skipped_from false (byte_before text at) (drop at text) ≡ 0 =
      omega (arith, skipped-le false (byte_before text at) (drop at text), length-drop at text) in
      ap first_of (words-none text at 0 none (omega arith))

  module _ (before n : ℕ) (e : before ≡ byte_before text at) (f : n ≡ skipped_from false before (take (length text - at) (drop at text))) where
    pub skipped-is : skipped_from false (byte_before text at) (drop at text) ≡ n
    skipped-is = sym (f ∙ ap₂ (skipped_from false) e (tail at text))

    pub skipped-inside : at ≤ length text → at + n ≤ length text
    skipped-inside h = omega (arith, skipped-is, skipped-le false (byte_before text at) (drop at text), length-drop at text)

    pub found_none : length text ≤ at + n → found_at text at ≡ Ok None
    unfolding found_at
    found_none h = ap first_of (words-none text at n skipped-is h)

    module _ (m : ℕ) (g : m ≡ word_length (take (length text - (at + n)) (drop (at + n) text))) (h : at + n < length text) where
      length-is : m ≡ word_length (drop (at + n) text)
      length-is = g ∙ ap word_length (tail (at + n) text)

      pub word-inside-text : at + n + m ≤ length text
      word-inside-text = omega (arith, length-is, word-le (drop (at + n) text), length-drop (at + n) text)

      pub found_word : said_by (take (at + n + m - (at + n)) (drop (at + n) text)) (at + n) (at + n + m) ≡ found_at text at
      unfolding found_at
      found_word =
          let s : List ℕ = drop (at + n) text in
          let k : at + n + m - (at + n) ≡ word_length s = omega (arith, length-is) in
          let w : take (at + n + m - (at + n)) s ≡ word_of s = ap (λ (i : ℕ). take i s) k ∙ sym (word-taken s) in
          let z : at + n + m ≡ at + n + length (word_of s) = omega (arith, length-is, word-length s) in
          ap₂ (λ (l : List ℕ) (i : ℕ). said_by l (at + n) i) w z ∙ sym (ap first_of (words-word text at n skipped-is h))
