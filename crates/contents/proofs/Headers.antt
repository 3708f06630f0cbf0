-- The header of a book, by its count, its end and its offsets: how long it is, and what is read in it.
-- Assumes nothing.
use mathlib.Core.Path.{ap, ap₂, refl, ◌∙◌, ◌≡◌}
use mathlib.Core.List.{List, ◌++◌, ◌∷◌}
use Prim.Native.Nat.{suc, zero, ℕ, ◌%◌, ◌*◌, ◌+◌, ◌/◌, ◌<◌, ◌≤◌}
use native.Mathlib.Nat.{le_refl}
use native.Mathlib.Omega.{arith}
use lib.ListN.{get_or, length}
use Rattle.contents.specs.Frames.{flat, place}
use Rattle.contents.specs.Contents.{Layout, header, offset_at, start, word_at, words}

pub words-cong : (l k : ℕ) (g h : ℕ → ℕ) → ((j : ℕ) → k ≤ j → j < k + l → g j ≡ h j) → words l k g ≡ words l k h
unfolding words
words-cong zero k g h e = refl
words-cong (suc l) k g h e =
    ap₂ (λ (x : ℕ) (r : List ℕ). x / 256 ∷ x % 256 ∷ r) (e k (le_refl k) (omega arith))
    (words-cong l (k + 1) g h (λ j x y. e j (omega arith) (omega arith)))

pub words-length : (m k : ℕ) (g : ℕ → ℕ) → length (words m k g) ≡ 2 * m
unfolding words
words-length zero k g = refl
words-length (suc m) k g = omega (arith, words-length m (k + 1) g)

pub header-length : (l : Layout) (fs : List (List ℕ)) → length (header l fs) ≡ start l.slots
unfolding header
header-length l fs = omega (arith, words-length l.slots 0 (place (start l.slots) fs))

unfoldable pub head : Layout → ℕ → ℕ → (ℕ → ℕ) → List ℕ
head l c e g = l.version ∷ c ∷ e / 256 ∷ e % 256 ∷ words l.slots 0 g

pub words-get : (l j : ℕ) (g : ℕ → ℕ) (r : List ℕ) (k : ℕ) → k < l → word_at (words l j g ++ r) (2 * k) ≡ g (j + k)
unfolding words word_at
words-get zero j g r k a = absurd (omega arith)
words-get (suc l) j g r zero a = ap (λ (x : ℕ). g x / 256 * 256 + g x % 256) (z j) ∙ whole (g (j + zero))
  where
    z : (j : ℕ) → j ≡ j + zero
    z j = omega arith

    whole : (n : ℕ) → n / 256 * 256 + n % 256 ≡ n
    whole n = omega arith
words-get (suc l) j g r (suc k) a =
    ap₂ (λ (x y : ℕ). get_or (words (suc l) j g ++ r) x 0 * 256 + get_or (words (suc l) j g ++ r) y 0) (two k) (three k)
    ∙ words-get l (j + 1) g r k (omega arith)
    ∙ ap g (sh j k)
  where
    two : (k : ℕ) → 2 * suc k ≡ suc (suc (2 * k))
    two k = omega arith

    three : (k : ℕ) → 2 * suc k + 1 ≡ suc (suc (2 * k + 1))
    three k = omega arith

    sh : (j k : ℕ) → j + 1 + k ≡ j + suc k
    sh j k = omega arith

pub head-get : (l : Layout) (c e : ℕ) (g : ℕ → ℕ) (r : List ℕ) (k : ℕ) → k < l.slots → offset_at (head l c e g ++ r) k ≡ g k
unfolding head offset_at word_at
head-get l c e g r k a =
    ap₂ (λ (x y : ℕ). get_or (head l c e g ++ r) x 0 * 256 + get_or (head l c e g ++ r) y 0) (four (2 * k)) (five (2 * k))
    ∙ words-get l.slots 0 g r k a
    ∙ ap g (z k)
  where
    four : (n : ℕ) → 4 + n ≡ suc (suc (suc (suc n)))
    four n = omega arith

    five : (n : ℕ) → 4 + n + 1 ≡ suc (suc (suc (suc (n + 1))))
    five n = omega arith

    z : (k : ℕ) → 0 + k ≡ k
    z k = omega arith

pub head-length : (l : Layout) (c e : ℕ) (g : ℕ → ℕ) → length (head l c e g) ≡ start l.slots
unfolding head
head-length l c e g = omega (arith, words-length l.slots 0 g)

pub header-head : (l : Layout) (fs : List (List ℕ)) → header l fs ≡ head l (length fs) (start l.slots + length (flat fs)) (place (start l.slots) fs)
unfolding header head
header-head l fs = refl
