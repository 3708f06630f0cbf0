-- A buffer edited in parts: pastes and stores in the first or the second of two lists, and a store of one slot's offset (`words-set`).
-- Assumes nothing.
use mathlib.Core.Path.{ap, ap₂, sym, ◌∙◌, ◌≡◌}
use mathlib.Core.List.{List, append_assoc, ◌++◌, ◌∷◌}
use Prim.Native.Nat.{suc, zero, ℕ, ◌%◌, ◌*◌, ◌+◌, ◌-◌, ◌/◌, ◌<◌, ◌≤◌}
use native.Mathlib.Omega.{arith}
use lib.ListN.{drop, length, length-set, replicate, set, take}
use lib.Seq.{drop-append-add, drop-append-le, paste, set-append_left, take_all, take-append-add, take-append-le}
use Rattle.spans.specs.Spans.{set_word}
use Rattle.contents.specs.Contents.{words}
use Rattle.contents.proofs.Headers.{words-cong}

pub paste-right : (x d : List ℕ) (o : ℕ) (s : List ℕ) (n : ℕ) → paste (x ++ d) (length x + o) s n ≡ x ++ paste d o s n
paste-right x d o s n =
    ap₂ (λ (u v : List ℕ). u ++ take n s ++ v) (take-append-add x d o)
    (ap (λ (i : ℕ). drop i (x ++ d)) (e (length x) o n) ∙ drop-append-add x d (o + n))
    ∙ ap (λ (u : List ℕ). u ++ drop (o + n) d) (append_assoc x (take o d) (take n s))
    ∙ append_assoc x (take o d ++ take n s) (drop (o + n) d)
  where
    e : (a b c : ℕ) → a + b + c ≡ a + (b + c)
    e a b c = omega arith

pub paste-left : (d y : List ℕ) (o : ℕ) (s : List ℕ) (n : ℕ) → o + n ≤ length d → paste (d ++ y) o s n ≡ paste d o s n ++ y
paste-left d y o s n h =
    ap₂ (λ (u v : List ℕ). u ++ take n s ++ v) (take-append-le o d y (omega arith)) (drop-append-le (o + n) d y h)
    ∙ sym (append_assoc (take o d ++ take n s) (drop (o + n) d) y)

pub set_word-left : (x y : List ℕ) (i v : ℕ) → i + 1 < length x → set_word (x ++ y) i v ≡ set_word x i v ++ y
unfolding set_word
set_word-left x y i v h =
    ap (λ (l : List ℕ). set l (i + 1) (v % 256)) (set-append_left x y i (v / 256) (omega arith))
    ∙ set-append_left (set x i (v / 256)) y (i + 1) (v % 256) (simp length-set (omega arith))

pub length-set_word : (l : List ℕ) (i v : ℕ) → length (set_word l i v) ≡ length l
unfolding set_word
length-set_word l i v = simp length-set

pub set_word-skip : (a b : ℕ) (l : List ℕ) (i v : ℕ) → set_word (a ∷ b ∷ l) (suc (suc i)) v ≡ a ∷ b ∷ set_word l i v
unfolding set_word
set_word-skip a b l i v = ap (λ (n : ℕ). set (a ∷ b ∷ set l i (v / 256)) n (v % 256)) (e i)
  where
    e : (i : ℕ) → suc (suc i) + 1 ≡ suc (suc (i + 1))
    e i = omega arith

pub drop-replicate : (m k : ℕ) → drop {A = ℕ} k (replicate m 0) ≡ replicate (m - k) 0
drop-replicate m zero = ap (λ (x : ℕ). replicate x 0) (e m)
  where
    e : (m : ℕ) → m ≡ m - zero
    e m = omega arith
drop-replicate zero (suc k) = ap (λ (x : ℕ). replicate x 0) (e k)
  where
    e : (k : ℕ) → zero ≡ zero - suc k
    e k = omega arith
drop-replicate (suc m) (suc k) = drop-replicate m k ∙ ap (λ (x : ℕ). replicate x 0) (e m k)
  where
    e : (m k : ℕ) → m - k ≡ suc m - suc k
    e m k = omega arith

plus-zero : (n : ℕ) → n ≡ n + 0
plus-zero n = omega arith

zero-plus : (n : ℕ) → 0 + n ≡ n
zero-plus n = omega arith

-- s over the front of W
paste-front : (W s : List ℕ) (n : ℕ) → length s ≡ n → paste W 0 s n ≡ s ++ drop n W
paste-front W s n e = ap₂ (λ (x y : List ℕ). x ++ y) (take_all n s (omega arith)) (ap (λ (i : ℕ). drop i W) (zero-plus n))

pub paste-at : (A W s : List ℕ) (i n : ℕ) → length A ≡ i → length s ≡ n → paste (A ++ W) i s n ≡ A ++ (s ++ drop n W)
paste-at A W s i n a e =
    ap (λ (x : ℕ). paste (A ++ W) x s n) (sym a ∙ plus-zero (length A)) ∙ paste-right A W 0 s n ∙ ap (λ (x : List ℕ). A ++ x) (paste-front W s n e)

-- a store of one slot's offset
pub words-set : (l j : ℕ) (g h : ℕ → ℕ) (k v : ℕ) → k < l → h (j + k) ≡ v → ((x : ℕ) → (j + k ≡ x → ⊥) → g x ≡ h x)
    → set_word (words l j g) (2 * k) v ≡ words l j h
unfolding words set_word
words-set zero j g h k v a e n = absurd (omega arith)
words-set (suc l) j g h zero v a e n =
    ap₂ (λ (x : ℕ) (r : List ℕ). x / 256 ∷ x % 256 ∷ r) (sym e ∙ ap h (z j)) (words-cong l (j + 1) g h (λ x p q. n x (λ w. absurd (omega arith))))
  where
    z : (j : ℕ) → j + zero ≡ j
    z j = omega arith
words-set (suc l) j g h (suc k) v a e n =
    ap (λ (i : ℕ). set_word (words (suc l) j g) i v) (two k)
    ∙ set_word-skip (g j / 256) (g j % 256) (words l (j + 1) g) (2 * k) v
    ∙ ap₂ (λ (x : ℕ) (r : List ℕ). x / 256 ∷ x % 256 ∷ r) (n j (λ w. absurd (omega arith)))
    (words-set l (j + 1) g h k v (omega arith) (ap h (sh j k) ∙ e) (λ x w. n x (λ u. w (sh j k ∙ u))))
  where
    two : (k : ℕ) → 2 * suc k ≡ suc (suc (2 * k))
    two k = omega arith

    sh : (j k : ℕ) → j + 1 + k ≡ j + suc k
    sh j k = omega arith
