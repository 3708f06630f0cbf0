-- The functions of specs/Book.antt one step at a time, in the code's own terms (`n - i`, `i + 1`): what the turn and the end of each loop
-- need, and `length_at` and `judge` at each of their tests.
-- Assumes nothing.
use mathlib.Core.Path.{ap, refl, sym, ◌∙◌, ◌≡◌}
use mathlib.Core.Bool.{Bool, cond, false, true}
use mathlib.Core.List.{List, [], ◌∷◌}
use Prim.Native.Nat.{suc, zero, ℕ, ◌%◌, ◌*◌, ◌+◌, ◌-◌, ◌<◌, ◌≤◌}
use native.Mathlib.Numerals.{add-one}
use native.Mathlib.Omega.{arith}
use borrow.Author.Tests.{eq-eqb, le-leb, le-ltb, leb-true, lt-leb, lt-ltb, ne_eqb}
use lib.Bits.{and_le_r, bit_or, or_add_and, or_zero_l}
use lib.Dec.{eqb, leb}
use lib.ListN.{drop, drop_of_length-le, get_or, length, take}
use lib.Seq.{drop-cons}
use Rattle.refusal.specs.declared.Refusal.TheVariants.{BufferSize, NotWellFormed}
use Rattle.std.specs.Prelude.{Err, Ok}
use Rattle.settings.specs.Settings.{size_of, slot_of}
use Rattle.contents.specs.Contents.{Contents, Layout, all_zero, before, frames_from, holds, judge, length_at, longest, offset_at, present_from, refused}
use Rattle.contents.specs.Contents.{slot_at, slot_from, start, verdict_of, word_at}

pub minus-step : (n k : ℕ) → k < n → n - k ≡ suc (n - (k + 1))
minus-step n k h = omega arith

pub minus-end : (n k : ℕ) → n ≤ k → n - k ≡ zero
minus-end n k h = omega arith

pub slot_from-step : (n : ℕ) (b : List ℕ) (p k : ℕ) → k < n
    → slot_from (n - k) b p k ≡ cond (eqb (offset_at b k) p) k (slot_from (n - (k + 1)) b p (k + 1))
unfolding slot_from
slot_from-step n b p k h = ap (λ (m : ℕ). slot_from m b p k) (minus-step n k h)

pub present_from-step : (n : ℕ) (b : List ℕ) (k : ℕ) → k < n
    → present_from (n - k) b k ≡ cond (eqb (offset_at b k) 0) 0 1 + present_from (n - (k + 1)) b (k + 1)
unfolding present_from
present_from-step n b k h = ap (λ (m : ℕ). present_from m b k) (minus-step n k h)

pub all_zero-step : (b : List ℕ) (i : ℕ) → i < length b
    → all_zero (drop i b) ≡ cond (eqb (get_or b i 0) 0) (all_zero (drop (i + 1) b)) false
unfolding all_zero
all_zero-step b i h = rw (add-one, drop-cons b i 0)

pub verdict-step : (t : Bool) (f : List ℕ) (r : Contents) → verdict_of (cond t (refused NotWellFormed) (before f r)) ≡ cond t (Err NotWellFormed)
    (verdict_of r)
verdict-step true f r = refl
verdict-step false f (refused x) = refl
verdict-step false f (holds fs) = refl

pub frames_from-step : (m n : ℕ) (b : List ℕ) (p e i : ℕ) → i < n
    → verdict_of (frames_from m (n - i) b p e) ≡ cond (eqb (length_at m b p e) 0) (Err NotWellFormed)
    (verdict_of (frames_from m (n - (i + 1)) b (p + length_at m b p e) e))
unfolding frames_from
frames_from-step m n b p e i h =
    ap (λ (x : ℕ). verdict_of (frames_from m x b p e)) (minus-step n i h)
    ∙ verdict-step (eqb (length_at m b p e) 0) (take (length_at m b p e) (drop p b)) (frames_from m (n - (i + 1)) b (p + length_at m b p e) e)

-- the second byte of a slot's offset is its low one
pub offset-low : (b : List ℕ) (k p : ℕ) → get_or b (4 + 2 * k + 1) 0 < 256 → offset_at b k ≡ p → get_or b (4 + 2 * k + 1) 0 ≡ p % 256
unfolding offset_at word_at
offset-low b k p h e = omega arith

pub slot_from-found : (n : ℕ) (b : List ℕ) (p k : ℕ) → k < n → offset_at b k ≡ p → slot_from (n - k) b p k ≡ k
slot_from-found n b p k h e = slot_from-step n b p k h ∙ rw (eq-eqb _ _ e)

pub slot_from-pass : (n : ℕ) (b : List ℕ) (p k : ℕ) → k < n → (offset_at b k ≡ p → ⊥) → slot_from (n - k) b p k ≡ slot_from (n - (k + 1)) b p (k + 1)
slot_from-pass n b p k h e = slot_from-step n b p k h ∙ rw (ne_eqb _ _ e)

pub slot_from-end : (n : ℕ) (b : List ℕ) (p k : ℕ) → n ≤ k → slot_from (n - k) b p k ≡ k
unfolding slot_from
slot_from-end n b p k h = ap (λ (m : ℕ). slot_from m b p k) (minus-end n k h)

pub present_from-some : (n : ℕ) (b : List ℕ) (k : ℕ) → k < n → (offset_at b k ≡ 0 → ⊥) → present_from (n - k) b k ≡ 1 + present_from (n - (k + 1)) b (k + 1)
present_from-some n b k h e = present_from-step n b k h ∙ rw (ne_eqb _ _ e)

pub present_from-none : (n : ℕ) (b : List ℕ) (k : ℕ) → k < n → offset_at b k ≡ 0 → present_from (n - k) b k ≡ present_from (n - (k + 1)) b (k + 1)
present_from-none n b k h e = present_from-step n b k h ∙ rw (eq-eqb _ _ e) (omega arith)

pub present_from-end : (n : ℕ) (b : List ℕ) (k : ℕ) → n ≤ k → present_from (n - k) b k ≡ 0
unfolding present_from
present_from-end n b k h = ap (λ (m : ℕ). present_from m b k) (minus-end n k h)

-- no byte was other than 0 where the bits of all of them, joined, are none
pub all_zero-join : (b : List ℕ) (a i : ℕ) → i < length b
    → cond (eqb a 0) (all_zero (drop i b)) false ≡ cond (eqb (bit_or a (get_or b i 0)) 0) (all_zero (drop (i + 1) b)) false
all_zero-join b zero i h = all_zero-step b i h ∙ rw (or_zero_l (get_or b i 0))
all_zero-join b (suc a) i h =
    let x = get_or b i 0 in
    rw (ne_eqb (suc a) 0 (λ e. omega arith), ne_eqb (bit_or (suc a) x) 0 (λ e. omega (arith, or_add_and (suc a) x, and_le_r (suc a) x)))

pub all_zero-end : (b : List ℕ) (a i : ℕ) → length b ≤ i → cond (eqb a 0) (all_zero (drop i b)) false ≡ eqb a 0
unfolding all_zero
all_zero-end b a i h = ap (λ (t : List ℕ). cond (eqb a 0) (all_zero t) false) (drop_of_length-le b h) ∙ itself (eqb a 0)
  where
    itself : (t : Bool) → cond t true false ≡ t
    itself true = refl
    itself false = refl

pub frames_from-stop : (m n : ℕ) (b : List ℕ) (p e i : ℕ) → i < n → length_at m b p e ≡ 0 → verdict_of (frames_from m (n - i) b p e) ≡ Err NotWellFormed
frames_from-stop m n b p e i h z = frames_from-step m n b p e i h ∙ rw (eq-eqb _ _ z)

pub frames_from-pass : (m n : ℕ) (b : List ℕ) (p e i l : ℕ) → i < n → l ≡ length_at m b p e → (l ≡ 0 → ⊥)
    → verdict_of (frames_from m (n - i) b p e) ≡ verdict_of (frames_from m (n - (i + 1)) b (p + l) e)
frames_from-pass m n b p e i l h q z = frames_from-step m n b p e i h ∙ rw (← q, ne_eqb _ _ z)

pub frames_from-end : (m n : ℕ) (b : List ℕ) (p e i : ℕ) → n ≤ i → verdict_of (frames_from m (n - i) b p e) ≡ cond (eqb p e) (Ok tt) (Err NotWellFormed)
unfolding frames_from
frames_from-end m n b p e i h = ap (λ (x : ℕ). verdict_of (frames_from m x b p e)) (minus-end n i h) ∙ verdict-end (eqb p e)
  where
    verdict-end : (t : Bool) → verdict_of (cond t (holds []) (refused NotWellFormed)) ≡ cond t (Ok tt) (Err NotWellFormed)
    verdict-end true = refl
    verdict-end false = refl

pub less_zero : (n : ℕ) → n ≡ n - 0
less_zero n = omega arith

pub zero-plus : (n : ℕ) → n ≡ 0 + n
zero-plus n = omega arith

part-len : (p n : ℕ) → p + n - p ≡ n
part-len p n = omega arith

sum-le : (p e n : ℕ) → p ≤ e → n ≤ e - p → p + n ≤ e
sum-le p e n h q = omega arith

sum_lt : (p e n : ℕ) → p ≤ e → e - p < n → e < p + n
sum_lt p e n h q = omega arith

module _ (m : ℕ) (b : List ℕ) (p e k : ℕ) (q : k ≡ slot_from m b p 0) (pe : p ≤ e) where
  pub length_at-yes : (r : ℕ) → k < m → size_of k ≤ e - p → r ≡ slot_of (take (p + (size_of k) - p) (drop p b)) → r ≡ k → size_of k ≡ length_at m b p e
  unfolding length_at
  length_at-yes r h f s t =
      let s' : slot_of (take (size_of k) (drop p b)) ≡ k = rw part-len at (sym s) ∙ t in
      rw (← q, lt-ltb _ _ h, le-leb _ _ (sum-le p e (size_of k) pe f), eq-eqb _ _ s')

  pub length_at-other : (r : ℕ) → k < m → size_of k ≤ e - p → r ≡ slot_of (take (p + (size_of k) - p) (drop p b)) → (r ≡ k → ⊥) → 0 ≡ length_at m b p e
  unfolding length_at
  length_at-other r h f s t =
      let s' : r ≡ slot_of (take (size_of k) (drop p b)) = rw part-len at s in
      rw (← q, lt-ltb _ _ h, le-leb _ _ (sum-le p e (size_of k) pe f), ne_eqb _ _ (λ x. t (s' ∙ x)))

  pub length_at-long : k < m → e - p < size_of k → 0 ≡ length_at m b p e
  unfolding length_at
  length_at-long h f = rw (← q, lt-ltb _ _ h, lt-leb _ _ (sum_lt p e (size_of k) pe f))

  pub length_at-none : m ≤ k → 0 ≡ length_at m b p e
  unfolding length_at
  length_at-none h = rw (← q, le-ltb _ _ h)

-- ---- a byte past the end

pub get_d_past : (b : List ℕ) (i : ℕ) → length b ≤ i → get_or b i 0 ≡ 0
get_d_past [] i h = refl
get_d_past (x ∷ b) zero h = absurd (omega arith)
get_d_past (x ∷ b) (suc i) h = get_d_past b i (omega arith)

pub word-past : (b : List ℕ) (i : ℕ) → length b ≤ i → word_at b i ≡ 0
unfolding word_at
word-past b i h = omega (arith, get_d_past b i h, get_d_past b (i + 1) (omega arith))

pub offset-past : (b : List ℕ) (s : ℕ) → length b ≤ 4 + 2 * s → offset_at b s ≡ 0
unfolding offset_at
offset-past b s h = word-past b (4 + 2 * s) h

pub slot-fits : (m : ℕ) (b : List ℕ) (p : ℕ) → start m ≤ length b → slot_at m b p ≡ slot_from m b p 0
unfolding slot_at
slot-fits m b p h = rw (le-leb _ _ h)

pub slot-short : (m : ℕ) (b : List ℕ) (p : ℕ) → length b < start m → slot_at m b p ≡ m
unfolding slot_at
slot-short m b p h = rw (lt-leb _ _ h)

-- `judge` at each of its tests, with those before it passed
module _ (l : Layout) (b : List ℕ) where
  -- so many slots that no buffer has their offsets
  pub judge-many : longest < start l.slots → judge l b ≡ refused BufferSize
  unfolding judge
  judge-many a = go (leb (start l.slots) (length b)) refl
    where
      go : (t : Bool) → leb (start l.slots) (length b) ≡ t → judge l b ≡ refused BufferSize
      go true w = let h : start l.slots ≤ length b = leb-true _ _ w in rw (w, lt-leb (length b) longest (omega arith))
      go false w = rw w

  pub judge-short : length b < start l.slots → judge l b ≡ refused BufferSize
  unfolding judge
  judge-short a = rw (lt-leb _ _ a)

  module _ (a1 : start l.slots ≤ length b) where
    pub judge-long : longest < length b → judge l b ≡ refused BufferSize
    unfolding judge
    judge-long a = rw (le-leb _ _ a1, lt-leb _ _ a)

    module _ (a2 : length b ≤ longest) where
      pub judge-version : (get_or b 0 0 ≡ l.version → ⊥) → judge l b ≡ refused NotWellFormed
      unfolding judge
      judge-version a = rw (le-leb _ _ a1, le-leb _ _ a2, ne_eqb _ _ a)

      module _ (a3 : get_or b 0 0 ≡ l.version) where
        pub judge-low : word_at b 2 < start l.slots → judge l b ≡ refused NotWellFormed
        unfolding judge
        judge-low a = rw (le-leb _ _ a1, le-leb _ _ a2, eq-eqb _ _ a3, lt-leb _ _ a)

        module _ (a4 : start l.slots ≤ word_at b 2) where
          pub judge-high : length b < word_at b 2 → judge l b ≡ refused NotWellFormed
          unfolding judge
          judge-high a = rw (le-leb _ _ a1, le-leb _ _ a2, eq-eqb _ _ a3, le-leb _ _ a4, lt-leb _ _ a)

          module _ (a5 : word_at b 2 ≤ length b) where
            pub judge-count : (present_from l.slots b 0 ≡ get_or b 1 0 → ⊥) → judge l b ≡ refused NotWellFormed
            unfolding judge
            judge-count a = rw (le-leb _ _ a1, le-leb _ _ a2, eq-eqb _ _ a3, le-leb _ _ a4, le-leb _ _ a5, ne_eqb _ _ a)

            module _ (a6 : present_from l.slots b 0 ≡ get_or b 1 0) where
              pub judge-tail : all_zero (drop (word_at b 2) b) ≡ false → judge l b ≡ refused NotWellFormed
              unfolding judge
              judge-tail a = rw (le-leb _ _ a1, le-leb _ _ a2, eq-eqb _ _ a3, le-leb _ _ a4, le-leb _ _ a5, eq-eqb _ _ a6, a)

              pub judge-all : all_zero (drop (word_at b 2) b) ≡ true → judge l b ≡ frames_from l.slots (get_or b 1 0) b (start l.slots) (word_at b 2)
              unfolding judge
              judge-all a = rw (le-leb _ _ a1, le-leb _ _ a2, eq-eqb _ _ a3, le-leb _ _ a4, le-leb _ _ a5, eq-eqb _ _ a6, a)

-- the same, at the length that the code looked up
module _ (m : ℕ) (b : List ℕ) (p e k : ℕ) (q : k ≡ slot_from m b p 0) (pe : p ≤ e) (n : ℕ) (en : n ≡ size_of k) where
  looked : (r : ℕ) → r ≡ slot_of (take (p + n - p) (drop p b)) → r ≡ slot_of (take (p + size_of k - p) (drop p b))
  looked r s = s ∙ ap (λ (x : ℕ). slot_of (take (p + x - p) (drop p b))) en

  pub len-yes : (r : ℕ) → k < m → n ≤ e - p → r ≡ slot_of (take (p + n - p) (drop p b)) → r ≡ k → n ≡ length_at m b p e
  len-yes r h f s t = en ∙ length_at-yes m b p e k q pe r h (omega arith) (looked r s) t

  pub len-other : (r : ℕ) → k < m → n ≤ e - p → r ≡ slot_of (take (p + n - p) (drop p b)) → (r ≡ k → ⊥) → 0 ≡ length_at m b p e
  len-other r h f s t = length_at-other m b p e k q pe r h (omega arith) (looked r s) t

  pub len-long : k < m → e - p < n → 0 ≡ length_at m b p e
  len-long h f = length_at-long m b p e k q pe h (omega arith)
