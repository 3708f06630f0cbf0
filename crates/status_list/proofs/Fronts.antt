-- What may stand in front: white space changes nothing (`blank-front`, `newline-front`), a comment nothing but the lines (`comment-front`, `comment-last`),
-- but for the places; and a word is ended by white space, or by the end (`word-ends`, `word-last`).
-- Assumes nothing.
use mathlib.Core.Path.{◌≡◌, refl, sym, ap, ap₂, ◌∙◌}
use mathlib.Core.Bool.{Bool, cond, false, false≢true, not, true, ◌&&◌, ◌||◌}
use mathlib.Core.List.{List, [], ◌∷◌, ◌++◌, map}
use Prim.Native.Nat.{ℕ, suc, ◌+◌}
use native.Mathlib.Omega.{arith}
use borrow.Author.Tests.{eqb-true, ne_eqb}
use lib.Dec.{eqb}
use lib.ListN.{get_or, length}
use Rattle.status_list.specs.Words.{Word, add_if, begins, between, in_comment, is_blank, line_behind, word_of, words_from, words_in}
use Rattle.status_list.proofs.Walks.{inside-begins, inside-comment}

-- ---- so many lines and places further on

abbrev pub moved : ℕ → ℕ → Word → Word
moved lines places w = record { line = w.line + lines; start = w.start + places; bytes = w.bytes }

add-moved : (k n : ℕ) (t : Bool) (w : Word) (ws : List Word) → add_if t (moved k n w) (map (moved k n) ws) ≡ map (moved k n) (add_if t w ws)
add-moved k n true w ws = refl
add-moved k n false w ws = refl

line-moved : (b line k : ℕ) → line_behind b (line + k) ≡ line_behind b line + k
line-moved b line k = go (eqb b 10)
  where
    go : (t : Bool) → cond t (suc (line + k)) (line + k) ≡ cond t (suc line) line + k
    go true = omega arith
    go false = refl

pub words-moved : (k n : ℕ) (c : Bool) (before line at : ℕ) (s : List ℕ)
    → words_from c before (line + k) (at + n) s ≡ map (moved k n) (words_from c before line at s)
unfolding words_from
words-moved k n c before line at [] = refl
words-moved k n c before line at (b ∷ s) =
    let w : Word = record { line = line; start = at; bytes = word_of (b ∷ s) } in
    let z : suc (at + n) ≡ suc at + n = omega arith in
    ap₂ (λ (i j : ℕ). add_if (begins c before b) (moved k n w) (words_from (in_comment c before b) b i j s)) (line-moved b line k) z
    ∙ ap (add_if (begins c before b) (moved k n w)) (words-moved k n (in_comment c before b) b (line_behind b line) (suc at) s)
    ∙ add-moved k n (begins c before b) w (words_from (in_comment c before b) b (line_behind b line) (suc at) s)

-- ---- white space in front

blank-no-word : (c : Bool) (before b : ℕ) → is_blank b ≡ true → begins c before b ≡ false
unfolding begins
blank-no-word c before b e = go (is_blank before)
  where
    go : (t : Bool) → t && (not (is_blank b) && not (in_comment c before b)) ≡ false
    go true = rw e
    go false = refl

blank-no-comment : (before b : ℕ) → is_blank b ≡ true → in_comment false before b ≡ false
unfolding in_comment is_blank between
blank-no-comment before b e = go (eqb b 10) (eqb before 10) (eqb b 35) refl
  where
    go : (t u v : Bool) → eqb b 35 ≡ v → not t && (false || (u && v)) ≡ false
    go true u v f = refl
    go false true true f = absurd (false≢true (sym (ap is_blank (eqb-true b 35 f)) ∙ e))
    go false true false f = refl
    go false false v f = refl

blank-first : (before line at b : ℕ) (s : List ℕ) → is_blank b ≡ true
    → words_from false before line at (b ∷ s) ≡ words_from false b (line_behind b line) (suc at) s
unfolding words_from
blank-first before line at b s e = rw (blank-no-word false before b e, blank-no-comment before b e)

-- bytes that do not begin with '#' have the same words behind any white space
same-comment : (x b : ℕ) → (b ≡ 35 → ⊥) → in_comment false x b ≡ false
unfolding in_comment
same-comment x b n = rw (ne_eqb b 35 n) (go (eqb b 10) (eqb x 10))
  where
    go : (t u : Bool) → not t && (false || (u && false)) ≡ false
    go true u = refl
    go false true = refl
    go false false = refl

same-begins : (x y b : ℕ) → is_blank x ≡ true → is_blank y ≡ true → (b ≡ 35 → ⊥) → begins false x b ≡ begins false y b
unfolding begins
same-begins x y b e f n = rw (e, f, same-comment x b n, same-comment y b n)

same-behind : (x y line at : ℕ) (s : List ℕ) → is_blank x ≡ true → is_blank y ≡ true → (get_or s 0 0 ≡ 35 → ⊥)
    → words_from false x line at s ≡ words_from false y line at s
unfolding words_from
same-behind x y line at [] e f n = refl
same-behind x y line at (b ∷ s) e f n =
    ap₂ (λ (t u : Bool). add_if t (record { line = line; start = at; bytes = word_of (b ∷ s) }) (words_from u b (line_behind b line) (suc at) s))
    (same-begins x y b e f n) (same-comment x b n ∙ sym (same-comment y b n))

newline-blank : is_blank 10 ≡ true
unfolding is_blank between
newline-blank = refl

-- white space that ends no line
pub blank-front : (b : ℕ) (s : List ℕ) → is_blank b ≡ true → (b ≡ 10 → ⊥) → (get_or s 0 0 ≡ 35 → ⊥) → words_in (b ∷ s) ≡ map (moved 0 1) (words_in s)
unfolding words_in
blank-front b s e n m =
    blank-first 10 1 0 b s e
    ∙ ap (λ (t : Bool). words_from false b (cond t 2 1) 1 s) (ne_eqb b 10 n)
    ∙ same-behind b 10 1 1 s e newline-blank m
    ∙ words-moved 0 1 false 10 1 0 s

pub newline-front : (s : List ℕ) → words_in (10 ∷ s) ≡ map (moved 1 1) (words_in s)
unfolding words_in
newline-front s = blank-first 10 1 0 10 s newline-blank ∙ words-moved 1 1 false 10 1 0 s

-- what is no white space ends no line
black-line : (b line : ℕ) → is_blank b ≡ false → line_behind b line ≡ line
unfolding is_blank between
black-line b line e = go (eqb b 10) refl
  where
    go : (t : Bool) → eqb b 10 ≡ t → cond t (suc line) line ≡ line
    go true f = absurd (false≢true (sym e ∙ ap is_blank (eqb-true b 10 f)))
    go false f = refl

-- ---- a comment in front

comment-goes : (before b : ℕ) → (b ≡ 10 → ⊥) → in_comment true before b ≡ true
unfolding in_comment
comment-goes before b n = rw (ne_eqb b 10 n)

comment-no-word : (c : Bool) (before b : ℕ) → in_comment c before b ≡ true → begins c before b ≡ false
unfolding begins
comment-no-word c before b e = rw e (go (is_blank before) (is_blank b))
  where
    go : (t u : Bool) → t && (not u && false) ≡ false
    go true true = refl
    go true false = refl
    go false u = refl

-- bytes without a newline
abbrev pub NoNewline : List ℕ → Type 0
NoNewline [] = Unit {0}
NoNewline (b ∷ s) = (b ≡ 10 → ⊥) × NoNewline s

newline-ends : (c : Bool) (before : ℕ) → in_comment c before 10 ≡ false
unfolding in_comment
newline-ends c before = refl

comment-pass : (a s : List ℕ) (before line at : ℕ) → NoNewline a
    → words_from true before line at (a ++ (10 ∷ s)) ≡ words_from false 10 (suc line) (suc (at + length a)) s
unfolding words_from
comment-pass [] s before line at n =
    let z : at ≡ at + 0 = omega arith in
    rw (blank-no-word true before 10 newline-blank, newline-ends true before) (ap (λ (k : ℕ). words_from false 10 (suc line) (suc k) s) z)
comment-pass (b ∷ a) s before line at n =
    let goes : in_comment true before b ≡ true = comment-goes before b n.0 in
    let z : suc at + length a ≡ at + suc (length a) = omega arith in
    rw (comment-no-word true before b goes, goes, ne_eqb b 10 n.0)
    (comment-pass a s b line (suc at) n.1 ∙ ap (λ (k : ℕ). words_from false 10 (suc line) (suc k) s) z)

comment-end : (a : List ℕ) (before line at : ℕ) → NoNewline a → words_from true before line at a ≡ []
unfolding words_from
comment-end [] before line at n = refl
comment-end (b ∷ a) before line at n =
    let goes : in_comment true before b ≡ true = comment-goes before b n.0 in
    rw (comment-no-word true before b goes, goes) (comment-end a b (line_behind b line) (suc at) n.1)

-- '#' at the start of a line opens a comment
comment-opens : in_comment false 10 35 ≡ true
unfolding in_comment
comment-opens = refl

comment-first : (line at : ℕ) (s : List ℕ) → words_from false 10 line at (35 ∷ s) ≡ words_from true 35 line (suc at) s
unfolding words_from
comment-first line at s = rw (comment-no-word false 10 35 comment-opens, comment-opens)

pub comment-front : (a s : List ℕ) → NoNewline a → words_in (35 ∷ (a ++ (10 ∷ s))) ≡ map (moved 1 (length a + 2)) (words_in s)
unfolding words_in
comment-front a s n =
    let z : suc (1 + length a) ≡ 0 + (length a + 2) = omega arith in
    comment-first 1 0 (a ++ (10 ∷ s))
    ∙ comment-pass a s 35 1 1 n
    ∙ ap (λ (k : ℕ). words_from false 10 2 k s) z
    ∙ words-moved 1 (length a + 2) false 10 1 0 s

pub comment-last : (a : List ℕ) → NoNewline a → words_in (35 ∷ a) ≡ []
unfolding words_in
comment-last a n = comment-first 1 0 a ∙ comment-end a 35 1 1 n

-- ---- a word, and what ends it

-- bytes without white space
abbrev pub Black : List ℕ → Type 0
Black [] = Unit {0}
Black (b ∷ s) = (is_blank b ≡ false) × Black s

word-whole : (w : List ℕ) → Black w → word_of w ≡ w
unfolding word_of
word-whole [] h = refl
word-whole (b ∷ w) h = rw h.0 (ap (λ (l : List ℕ). b ∷ l) (word-whole w h.1))

word-front : (w : List ℕ) (b : ℕ) (s : List ℕ) → Black w → is_blank b ≡ true → word_of (w ++ (b ∷ s)) ≡ w
unfolding word_of
word-front [] b s h e = rw e
word-front (x ∷ w) b s h e = rw h.0 (ap (λ (l : List ℕ). x ∷ l) (word-front w b s h.1 e))

-- behind its first byte
word-pass : (w : List ℕ) (before line at b : ℕ) (s : List ℕ) → is_blank before ≡ false → Black w → is_blank b ≡ true
    → words_from false before line at (w ++ (b ∷ s)) ≡ words_from false b (line_behind b line) (suc (at + length w)) s
unfolding words_from
word-pass [] before line at b s e h f =
    let z : at ≡ at + 0 = omega arith in
    blank-first before line at b s f ∙ ap (λ (k : ℕ). words_from false b (line_behind b line) (suc k) s) z
word-pass (x ∷ w) before line at b s e h f =
    let z : suc at + length w ≡ at + suc (length w) = omega arith in
    rw (inside-begins false before x e, inside-comment before x e, black-line x line h.0)
    (word-pass w x line (suc at) b s h.0 h.1 f ∙ ap (λ (k : ℕ). words_from false b (line_behind b line) (suc k) s) z)

word-past : (w : List ℕ) (before line at : ℕ) → is_blank before ≡ false → Black w → words_from false before line at w ≡ []
unfolding words_from
word-past [] before line at e h = refl
word-past (x ∷ w) before line at e h =
    rw (inside-begins false before x e, inside-comment before x e) (word-past w x (line_behind x line) (suc at) h.0 h.1)

-- a word of a byte x that is not '#' and others, none of them white space
module _ (x : ℕ) (w : List ℕ) (h : Black (x ∷ w)) (n : x ≡ 35 → ⊥) where
  black-begins : begins false 10 x ≡ true
  unfolding begins
  black-begins = rw (newline-blank, h.0, same-comment 10 x n)

  pub word-ends : (b : ℕ) (s : List ℕ) → is_blank b ≡ true
      → words_in ((x ∷ w) ++ (b ∷ s)) ≡ record { line = 1; start = 0; bytes = x ∷ w } ∷ words_from false b (line_behind b 1) (length (x ∷ w) + 1) s
  unfolding words_in words_from
  word-ends b s e =
      let z : suc (1 + length w) ≡ suc (length w) + 1 = omega arith in
      rw (black-begins, same-comment 10 x n, word-front (x ∷ w) b s h e, black-line x 1 h.0)
      (ap (λ (vs : List Word). record { line = 1; start = 0; bytes = x ∷ w } ∷ vs)
      (word-pass w x 1 1 b s h.0 h.1 e ∙ ap (λ (k : ℕ). words_from false b (line_behind b 1) k s) z))

  pub word-last : words_in (x ∷ w) ≡ record { line = 1; start = 0; bytes = x ∷ w } ∷ []
  unfolding words_in words_from
  word-last =
      rw (black-begins, same-comment 10 x n, word-whole (x ∷ w) h)
      (ap (λ (vs : List Word). record { line = 1; start = 0; bytes = x ∷ w } ∷ vs) (word-past w x (line_behind x 1) 1 h.0 h.1))
