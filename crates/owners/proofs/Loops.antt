-- The table's tests in the code's own terms: entry by entry (`each-..`), pair by pair (`joined-..`), and the whole (`right-..`).
-- Assumes nothing.
use mathlib.Core.Path.{refl, sym, ◌∙◌, ◌≡◌}
use mathlib.Core.Bool.{Bool, false, not, true}
use mathlib.Core.List.{List, [], ◌∷◌}
use Prim.Native.Nat.{ℕ, ◌+◌, ◌-◌, ◌<◌, ◌≤◌}
use native.Mathlib.Numerals.{add-one}
use native.Mathlib.Omega.{arith}
use borrow.Author.Tests.{eq-eqb, le-leb, leb-false, leb-true, lt-leb, ne_eqb, not-false, not-true}
use lib.Dec.{eqb, leb}
use lib.ListN.{drop, drop_of_length-le, get_or, length}
use lib.Seq.{drop-cons}
use Rattle.forms.specs.Forms.{long_of, short_of}
use Rattle.owners.specs.Owners.{all_first, each_side, is_side, joined, joined_in, owner_of, owner_table, spare_first, table_right}

-- ---- entries

module _ (ws : List ℕ) (i : ℕ) (h : i < length ws) where
  entry : drop i ws ≡ get_or ws i 0 ∷ drop (i + 1) ws
  entry = rw (add-one, drop-cons ws i 0 h)

  pub each-pass : is_side (get_or ws i 0) ≡ true → each_side (drop i ws) ≡ each_side (drop (i + 1) ws)
  unfolding each_side
  each-pass e = rw (entry, e)

  pub each-stop : is_side (get_or ws i 0) ≡ false → each_side (drop i ws) ≡ false
  unfolding each_side
  each-stop e = rw (entry, e)

pub each-end : (ws : List ℕ) (i : ℕ) → length ws ≤ i → each_side (drop i ws) ≡ true
unfolding each_side
each-end ws i h = rw (drop_of_length-le ws h)

-- ---- pairs

module _ (ws : List ℕ) (ps : List (List ℕ)) (i : ℕ) (h : i < length ps) where
  pair : drop i ps ≡ get_or ps i [] ∷ drop (i + 1) ps
  pair = rw (add-one, drop-cons ps i [] h)

  pub joined-pass : not (eqb (owner_of ws (short_of (get_or ps i []))) (owner_of ws (long_of (get_or ps i [])))) ≡ false
      → joined_in (drop i ps) ws ≡ joined_in (drop (i + 1) ps) ws
  unfolding joined_in
  joined-pass e = rw (pair, not-false (eqb (owner_of ws (short_of (get_or ps i []))) (owner_of ws (long_of (get_or ps i [])))) e)

  pub joined-stop : not (eqb (owner_of ws (short_of (get_or ps i []))) (owner_of ws (long_of (get_or ps i [])))) ≡ true → joined_in (drop i ps) ws ≡ false
  unfolding joined_in
  joined-stop e = rw (pair, not-true (eqb (owner_of ws (short_of (get_or ps i []))) (owner_of ws (long_of (get_or ps i [])))) e)

pub joined_end : (ws : List ℕ) (ps : List (List ℕ)) (i : ℕ) → length ps ≤ i → joined_in (drop i ps) ws ≡ true
unfolding joined_in
joined_end ws ps i h = rw (drop_of_length-le ps h)

-- ---- slots that no setting has

module _ (ws : List ℕ) (i : ℕ) (h : i < length ws) where
  pub spare-pass : get_or ws i 0 ≡ 1 → all_first (drop i ws) ≡ all_first (drop (i + 1) ws)
  unfolding all_first
  spare-pass e = rw (entry ws i h, eq-eqb _ _ e)

  pub spare-stop : (get_or ws i 0 ≡ 1 → ⊥) → all_first (drop i ws) ≡ false
  unfolding all_first
  spare-stop n = rw (entry ws i h, ne_eqb _ _ n)

pub spare-end : (ws : List ℕ) (i : ℕ) → length ws ≤ i → all_first (drop i ws) ≡ true
unfolding all_first
spare-end ws i h = rw (drop_of_length-le ws h)

-- ---- the whole

module _ (ws : List ℕ) (m room a b : ℕ) where
  pub right-entries : (length ws ≡ m → ⊥) → table_right m room (owner_table ws a b) ≡ false
  unfolding table_right
  right-entries n = rw (ne_eqb (length ws) m n)

  module _ (e : length ws ≡ m) where
    pub right-owners : each_side ws ≡ false → table_right m room (owner_table ws a b) ≡ false
    unfolding table_right
    right-owners q = rw (eq-eqb (length ws) m e, q)

    pub right-spare : each_side ws ≡ true → spare_first ws ≡ false → table_right m room (owner_table ws a b) ≡ false
    unfolding table_right
    right-spare q f = rw (eq-eqb (length ws) m e, q, f)

    module _ (f : spare_first ws ≡ true) where
      pub right-split : each_side ws ≡ true → joined ws ≡ false → table_right m room (owner_table ws a b) ≡ false
      unfolding table_right
      right-split q r = rw (eq-eqb (length ws) m e, q, f, r)

      right-sum : each_side ws ≡ true → joined ws ≡ true → table_right m room (owner_table ws a b) ≡ leb (a + b) room
      unfolding table_right
      right-sum q r = rw (eq-eqb (length ws) m e, q, f, r)

      pub right-over : each_side ws ≡ true → joined ws ≡ true → room < a → table_right m room (owner_table ws a b) ≡ false
      right-over q r h = right-sum q r ∙ lt-leb (a + b) room (omega arith)

      pub right-rest : each_side ws ≡ true → joined ws ≡ true → a ≤ room → leb b (room - a) ≡ table_right m room (owner_table ws a b)
      right-rest q r h = go (leb b (room - a)) refl ∙ sym (right-sum q r)
        where
          go : (x : Bool) → leb b (room - a) ≡ x → x ≡ leb (a + b) room
          go true p = sym (le-leb (a + b) room (omega (arith, leb-true b (room - a) p)))
          go false p = sym (lt-leb (a + b) room (omega (arith, leb-false b (room - a) p)))
