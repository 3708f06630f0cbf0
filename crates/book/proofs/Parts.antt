-- A book's header edited in place: the walk over the offsets (`remap-..`), and the header with its count, its end or an offset stored anew (`head-..`).
-- Assumes nothing.
use mathlib.Core.Path.{ap, ap₂, refl, subst, sym, ◌∙◌, ◌≡◌}
use mathlib.Core.Bool.{Bool, cond, false, true}
use mathlib.Core.List.{List, ◌++◌, ◌∷◌}
use Prim.Native.Nat.{suc, zero, ℕ, ◌%◌, ◌*◌, ◌+◌, ◌-◌, ◌/◌, ◌<◌, ◌≤◌}
use native.Mathlib.Omega.{arith}
use borrow.Author.Tests.{eq-eqb, eqb-false, eqb-true, ne_eqb}
use lib.Dec.{eqb}
use lib.ListN.{get_or, set}
use lib.Seq.{get_or-set_other}
use Rattle.spans.specs.Spans.{set_word}
use Rattle.contents.specs.Contents.{Layout, offset_at, word_at, words}
use Rattle.contents.proofs.Headers.{head, head-get, head-length, words-cong}
use Rattle.contents.proofs.Loops.{minus-end, minus-step}
use Rattle.filling.proofs.Pieces.{set_word-left, set_word-skip, words-set}
use Rattle.book.specs.Edits.{remap}

-- ---- remap, in the code's terms

pub remap-step : (n : ℕ) (φ : ℕ → ℕ) (b : List ℕ) (k : ℕ) → k < n
    → remap φ (n - k) b k ≡ remap φ (n - (k + 1)) (set_word b (4 + 2 * k) (φ (offset_at b k))) (k + 1)
unfolding remap
remap-step n φ b k h = ap (λ (m : ℕ). remap φ m b k) (minus-step n k h)

pub remap-end : (n : ℕ) (φ : ℕ → ℕ) (b : List ℕ) (k : ℕ) → n ≤ k → remap φ (n - k) b k ≡ b
unfolding remap
remap-end n φ b k h = ap (λ (m : ℕ). remap φ m b k) (minus-end n k h)

-- a store of one slot's offset leaves the others
pub offset-others : (b : List ℕ) (k v s : ℕ) → k < s → offset_at (set_word b (4 + 2 * k) v) s ≡ offset_at b s
unfolding offset_at word_at set_word
offset-others b k v s a =
    ap₂ (λ (x y : ℕ). x * 256 + y) (one (4 + 2 * s) (λ e. absurd (omega arith)) (λ e. absurd (omega arith)))
    (one (4 + 2 * s + 1) (λ e. absurd (omega arith)) (λ e. absurd (omega arith)))
  where
    one : (i : ℕ) → (i ≡ 4 + 2 * k → ⊥) → (i ≡ 4 + 2 * k + 1 → ⊥) → get_or (set (set b (4 + 2 * k) (v / 256)) (4 + 2 * k + 1) (v % 256)) i 0 ≡ get_or b i 0
    one i x y = get_or-set_other (set b (4 + 2 * k) (v / 256)) (4 + 2 * k + 1) i (v % 256) 0 y ∙ get_or-set_other b (4 + 2 * k) i (v / 256) 0 x

-- ---- the header

pub head-set : (l : Layout) (c e : ℕ) (g h : ℕ → ℕ) (r : List ℕ) (k v : ℕ) → k < l.slots → h k ≡ v → ((x : ℕ) → (k ≡ x → ⊥) → g x ≡ h x)
    → set_word (head l c e g ++ r) (4 + 2 * k) v ≡ head l c e h ++ r
unfolding head
head-set l c e g h r k v a q n =
    set_word-left (head l c e g) r (4 + 2 * k) v (omega (arith, head-length l c e g))
    ∙ ap (λ (y : List ℕ). y ++ r)
    (ap (λ (i : ℕ). set_word (head l c e g) i v) (four (2 * k))
    ∙ set_word-skip l.version c (e / 256 ∷ e % 256 ∷ words l.slots 0 g) (suc (suc (2 * k))) v
    ∙ ap (λ (y : List ℕ). l.version ∷ c ∷ y) (set_word-skip (e / 256) (e % 256) (words l.slots 0 g) (2 * k) v)
    ∙ ap (λ (y : List ℕ). l.version ∷ c ∷ e / 256 ∷ e % 256 ∷ y)
    (words-set l.slots 0 g h k v a (ap h (z k) ∙ q) (λ x w. n x (λ u. w (z k ∙ u)))))
  where
    four : (n : ℕ) → 4 + n ≡ suc (suc (suc (suc n)))
    four n = omega arith

    z : (k : ℕ) → 0 + k ≡ k
    z k = omega arith

-- the offsets from slot j on, each as φ has it
pub head-remap : (l : Layout) (φ : ℕ → ℕ) (c e : ℕ) (r : List ℕ) (d j : ℕ) (g h : ℕ → ℕ) → j + d ≤ l.slots
    → ((x : ℕ) → j ≤ x → x < j + d → h x ≡ φ (g x)) → ((x : ℕ) → x < j → h x ≡ g x)
    → j + d ≡ l.slots → remap φ d (head l c e g ++ r) j ≡ head l c e h ++ r
unfolding remap head
head-remap l φ c e r zero j g h b p q s = ap (λ (t : List ℕ). t ++ r) (same g h (λ x y. sym (q x (omega arith))))
  where
    same : (g h : ℕ → ℕ) → ((x : ℕ) → x < l.slots → g x ≡ h x) → head l c e g ≡ head l c e h
    same g h n = ap (λ (t : List ℕ). l.version ∷ c ∷ e / 256 ∷ e % 256 ∷ t) (words-cong l.slots 0 g h (λ x y z. n x (omega arith)))
head-remap l φ c e r (suc d) j g h b p q s =
    ap (λ (t : List ℕ). remap φ d t (j + 1))
    (ap (λ (v : ℕ). set_word (head l c e g ++ r) (4 + 2 * j) (φ v)) (head-get l c e g r j (omega arith))
    ∙ head-set l c e g g1 r j (φ (g j)) (omega arith) here (λ x n. sym (there x n)))
    ∙ head-remap l φ c e r d (j + 1) g1 h (omega arith)
    (λ x a y. p x (omega arith) (omega arith) ∙ ap (φ) (sym (there x (λ u. absurd (omega arith)))))
    (λ x a. go x a (eqb j x) refl)
    (omega arith)
  where
    g1 : ℕ → ℕ
    g1 x = cond (eqb j x) (φ (g j)) (g x)

    here : cond (eqb j j) (φ (g j)) (g j) ≡ φ (g j)
    here = rw (eq-eqb j j refl)

    there : (x : ℕ) → (j ≡ x → ⊥) → cond (eqb j x) (φ (g j)) (g x) ≡ g x
    there x n = rw (ne_eqb j x n)

    go : (x : ℕ) → x < j + 1 → (t : Bool) → eqb j x ≡ t → h x ≡ cond (eqb j x) (φ (g j)) (g x)
    go x a true w = let e' : j ≡ x = eqb-true j x w in rw w (subst (λ (y : ℕ). h y ≡ φ (g j)) e' (p j (omega arith) (omega arith)))
    go x a false w = let n : j ≡ x → ⊥ = eqb-false j x w in rw w (q x (omega arith))

pub head-end : (l : Layout) (c e e' : ℕ) (g : ℕ → ℕ) (r : List ℕ) → set_word (head l c e g ++ r) 2 e' ≡ head l c e' g ++ r
unfolding head set_word
head-end l c e e' g r = refl

pub head-count : (l : Layout) (c e c' : ℕ) (g : ℕ → ℕ) (r : List ℕ) → set (head l c e g ++ r) 1 c' ≡ head l c' e g ++ r
unfolding head
head-count l c e c' g r = refl

pub head-same : (l : Layout) (c e : ℕ) (g h : ℕ → ℕ) → ((x : ℕ) → g x ≡ h x) → head l c e g ≡ head l c e h
unfolding head
head-same l c e g h n = ap (λ (t : List ℕ). l.version ∷ c ∷ e / 256 ∷ e % 256 ∷ t) (words-cong l.slots 0 g h (λ x y z. n x))
