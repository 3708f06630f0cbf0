-- The slots and lengths of the settings, from tests computed over the table, and what the book asks of the decoder:
--     slot_of-length    a frame that decodes to a setting is as long as its slot says
--     size_low         no setting's frame has less than three bytes
--     slot-one         a slot has one kind
--     setting-kinds    the actions, by number
--     lacks-thirteen   which get 13
-- Assumes nothing.
use mathlib.Core.Path.{ap, refl, sym, ◌∙◌, ◌≡◌}
use mathlib.Core.Bool.{Bool, cond, false, false≢true, not, true, ◌&&◌}
use mathlib.Core.List.{List, [], ◌∷◌}
use Prim.Native.Nat.{suc, zero, ℕ, ◌+◌, ◌-◌, ◌<◌, ◌≤◌}
use native.Mathlib.Omega.{arith}
use borrow.Author.Tests.{eqb-true, le-leb, leb-true, lt-leb, lt-ltb, ltb-false, ltb-true}
use lib.Dec.{eqb, leb, ltb}
use Rattle.std.specs.Prelude.{Result, Ok, Err}
use lib.ListN.{get_or, length}
use Rattle.table.specs.Codes.{is_in}
use Rattle.table.specs.Table.{action, kinds, len_of, row_of, rows, settings}
use Rattle.refusal.specs.declared.Refusal.{Refusal}
use Rattle.refusal.specs.declared.Refusal.TheVariants.{NotAKind}
use Rattle.refusal.specs.Numbers.{number_of}
use Rattle.table.specs.Table.{is_kind}
use Rattle.decoder.specs.Decoding.{Reading, decode, decoded, reading, refuses}
use Rattle.decoder.specs.declared.Decoded.{Decoded}
use Rattle.decoder.proofs.Handed.{decoded-reading, decoded-refuses}
use Rattle.codec.proofs.Laws.{decode-kind}
use Rattle.settings.specs.Settings.{lacks, lengths, size_of, slot_for, slot_in, slot_of}
use Rattle.table.specs.Table as table

-- ---- a test that passes at every element passes at each

unfoldable every : {A : Type 0} → (ℕ → A → Bool) → ℕ → List A → Bool
every p i [] = true
every p i (x ∷ xs) = cond (p i x) (every p (suc i) xs) false

every-at : {A : Type 0} (p : ℕ → A → Bool) (d : A) (l : List A) (i : ℕ) → every p i l ≡ true → (k : ℕ) → k < length l → p (i + k) (get_or l k d) ≡ true
unfolding every
every-at p d [] i h k a = absurd (omega arith)
every-at p d (x ∷ xs) i h k a = go (every-at p d xs (suc i)) (p i x) refl h k a
  where
    next : (j : ℕ) → suc i + j ≡ i + suc j
    next j = omega arith

    here : i ≡ i + 0
    here = omega arith

    go : (every p (suc i) xs ≡ true → (k : ℕ) → k < length xs → p (suc i + k) (get_or xs k d) ≡ true) → (t : Bool) → p i x ≡ t
        → cond t (every p (suc i) xs) false ≡ true → (k : ℕ) → k < suc (length xs) → p (i + k) (get_or (x ∷ xs) k d) ≡ true
    go ih false e q k a = absurd (false≢true q)
    go ih true e q zero a = ap (λ (n : ℕ). p n x) (sym here) ∙ e
    go ih true e q (suc k) a = ap (λ (n : ℕ). p n (get_or xs k d)) (sym (next k)) ∙ ih q k (omega arith)

-- ---- the tests

-- the place of the first row with a slot
unfoldable place_for : List (List ℕ) → ℕ → ℕ
place_for [] s = 0
place_for (r ∷ rs) s = cond (eqb (table.slot_of r) s) 0 (suc (place_for rs s))

-- a setting's row has the length of its slot, and no row before it has the slot
unfoldable suited : ℕ → List ℕ → Bool
suited i r = cond (ltb (table.slot_of r) settings) (eqb (len_of r) (size_of (table.slot_of r)) && eqb (place_for rows (table.slot_of r)) i) true

all-suited : every suited 0 rows ≡ true
unfolding every suited place_for size_of lengths
all-suited = refl

all-sized : every (λ i n. leb 3 n && leb n 12) 0 (lengths rows) ≡ true
unfolding every lengths
all-sized = refl

-- ---- lengths

pub both : (x y : Bool) → x && y ≡ true → (x ≡ true) × (y ≡ true)
both true true e = (refl, refl)
both true false e = absurd (false≢true e)
both false y e = absurd (false≢true e)

module _ (s : ℕ) (a : s < settings) where
  sized : leb 3 (size_of s) && leb (size_of s) 12 ≡ true
  unfolding size_of lengths
  sized = every-at (λ i n. leb 3 n && leb n 12) 0 (lengths rows) 0 all-sized s a

  pub size_low : 3 ≤ size_of s
  size_low = leb-true _ _ (both (leb 3 (size_of s)) (leb (size_of s) 12) sized).0

  pub size-high : size_of s ≤ 12
  size-high = leb-true _ _ (both (leb 3 (size_of s)) (leb (size_of s) 12) sized).1

past_end : (l : List ℕ) (k : ℕ) → length l ≤ k → get_or l k 0 ≡ 0
past_end [] k h = refl
past_end (x ∷ xs) zero h = absurd (omega arith)
past_end (x ∷ xs) (suc k) h = past_end xs k (omega arith)

pub size_none : (s : ℕ) → settings ≤ s → size_of s ≡ 0
unfolding size_of lengths
size_none s h = past_end (lengths rows) s h

pub size-most : (s : ℕ) → size_of s ≤ 12
size-most s = go (ltb s settings) refl
  where
    go : (t : Bool) → ltb s settings ≡ t → size_of s ≤ 12
    go true e = size-high s (ltb-true s settings e)
    go false e = omega (arith, size_none s (ltb-false s settings e))

pub size-some : (s : ℕ) → (size_of s ≡ 0 → ⊥) → s < settings
size-some s n = go (ltb s settings) refl
  where
    go : (t : Bool) → ltb s settings ≡ t → s < settings
    go true e = ltb-true s settings e
    go false e = absurd (n (size_none s (ltb-false s settings e)))

-- ---- slots

module _ (k : ℕ) (low : 0 < k) (high : k ≤ kinds) where
  pub slot_row : slot_for k ≡ table.slot_of (row_of k)
  unfolding slot_for
  slot_row = rw (lt-ltb 0 k low, le-leb k kinds high)

  row-suited : slot_for k < settings → (len_of (row_of k) ≡ size_of (slot_for k)) × (place_for rows (slot_for k) ≡ k - 1)
  unfolding suited
  row-suited a =
      let t : table.slot_of (row_of k) < settings = omega (arith, slot_row) in
      let z = rw (lt-ltb (table.slot_of (row_of k)) settings t) at (every-at suited [] rows 0 all-suited (k - 1) (omega arith)) in
      let e = both (eqb (len_of (row_of k)) (size_of (table.slot_of (row_of k)))) (eqb (place_for rows (table.slot_of (row_of k))) (0 + (k - 1))) z in
      (eqb-true _ _ e.0 ∙ ap size_of (sym slot_row), ap (place_for rows) slot_row ∙ eqb-true _ _ e.1 ∙ past-zero (k - 1))
    where
      past-zero : (n : ℕ) → 0 + n ≡ n
      past-zero n = omega arith

-- a kind that is a setting is one of the table's
slot-bounds : (k : ℕ) → slot_for k < settings → (0 < k) × (k ≤ kinds)
unfolding slot_for
slot-bounds k a = go (ltb 0 k) (leb k kinds) refl refl a
  where
    go : (x y : Bool) → ltb 0 k ≡ x → leb k kinds ≡ y → cond (x && y) (table.slot_of (row_of k)) action < settings → (0 < k) × (k ≤ kinds)
    go true true p q z = (ltb-true 0 k p, leb-true k kinds q)
    go true false p q z = absurd (omega arith)
    go false y p q z = absurd (omega arith)

pub slot-one : (j k : ℕ) → slot_for j < settings → slot_for j ≡ slot_for k → j ≡ k
slot-one j k a e =
    let b : slot_for k < settings = omega arith in
    let p = slot-bounds j a in
    let q = slot-bounds k b in
    omega (arith, (row-suited j p.0 p.1 a).1, (row-suited k q.0 q.1 b).1, ap (place_for rows) e)

pub slot-zero : action ≡ slot_for 0
unfolding slot_for
slot-zero = refl

pub slot-past : (k : ℕ) → kinds < k → action ≡ slot_for k
unfolding slot_for
slot-past k a = rw (lt-ltb 0 k (omega arith), lt-leb k kinds a)

-- ---- a frame's slot

pub slot_of-length : (f : List ℕ) → slot_of f < settings → length f ≡ size_of (slot_of f)
unfolding slot_of
slot_of-length f h = go (decode f) refl h
  where
    go : (x : Reading) → decode f ≡ x → slot_in x < settings → length f ≡ size_of (slot_in x)
    go (refuses y) e q = absurd (omega arith)
    go (reading k vs) e q = let d = decode-kind f k vs e in d.2 ∙ (row-suited k d.0 d.1 q).0

module _ (f : List ℕ) (a : Result Decoded Refusal) (p : a ≡ decoded (decode f)) where
  pub slot_of-kind : (d : Decoded) → a ≡ Ok d → slot_for d.kind ≡ slot_of f
  unfolding slot_of
  slot_of-kind d q = ap slot_in (sym (decoded-reading (decode f) a d p q))

  pub slot_of-none : (x : Refusal) → a ≡ Err x → action ≡ slot_of f
  unfolding slot_of
  slot_of-none x q = ap slot_in (sym (decoded-refuses (decode f) a x p q))

  -- why it is no setting: a frame that decodes is an action's, and else the decoder's refusal is the answer
  pub lacks-kind : (d : Decoded) → a ≡ Ok d → lacks (decode f) ≡ NotAKind
  lacks-kind d q = ap lacks (decoded-reading (decode f) a d p q)

  pub lacks-own : (x : Refusal) → a ≡ Err x → lacks (decode f) ≡ x
  lacks-own x q = ap lacks (decoded-refuses (decode f) a x p q)

-- ---- by number

-- a frame that decodes and is no setting's gets 13
pub lacks-thirteen : (k : ℕ) (vs : List ℕ) → number_of (lacks (reading k vs)) ≡ 13
lacks-thirteen k vs = refl

-- the kinds that are no settings
abbrev pub actions : List ℕ
actions =
    -- from commands.json: actions
    8 ∷ 9 ∷ 10 ∷ 22 ∷ 23 ∷ 29 ∷ 30 ∷ 32 ∷ 36 ∷ 37
    -- end: actions
    ∷ []

abbrev alike : Bool → Bool → Bool
alike x y = cond x y (not y)

alike_same : (x y : Bool) → alike x y ≡ true → x ≡ y
alike_same true true e = refl
alike_same true false e = absurd (false≢true e)
alike_same false true e = absurd (false≢true e)
alike_same false false e = refl

listed : every (λ i r. alike (ltb (table.slot_of r) settings) (not (is_in (suc i) actions))) 0 rows ≡ true
unfolding every is_in
listed = refl

-- THE ACTIONS: a number is a setting's kind exactly if it is a kind and none of these
pub setting-kinds : (k : ℕ) → ltb (slot_for k) settings ≡ is_kind k && not (is_in k actions)
unfolding slot_for
setting-kinds k = go (ltb 0 k) refl (leb k kinds) refl
  where
    at : 0 < k → k ≤ kinds → ltb (table.slot_of (row_of k)) settings ≡ not (is_in k actions)
    at a b =
        let n : suc (0 + (k - 1)) ≡ k = omega arith in
        alike_same _ _ (every-at (λ i r. alike (ltb (table.slot_of r) settings) (not (is_in (suc i) actions))) [] rows 0 listed (k - 1) (omega arith))
        ∙ ap (λ (i : ℕ). not (is_in i actions)) n

    go : (x : Bool) → ltb 0 k ≡ x → (y : Bool) → leb k kinds ≡ y → ltb (cond (x && y) (table.slot_of (row_of k)) action) settings ≡ (x && y) && not
        (is_in k actions)
    go true p true q = at (ltb-true 0 k p) (leb-true k kinds q)
    go true p false q = refl
    go false p y q = refl
