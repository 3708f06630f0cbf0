-- The greatest of the numbers that pass a limit, as a filter with a search for the greatest tells it: every number that passes is at most that one
-- (`passed-most`). So it is what `greatest` gives (`greatest-some`, `greatest-none`), and of the listed keys that of the right code (`key-some`, `key-none`).
-- Assumes nothing.
use mathlib.Core.Path.{◌≡◌, refl, sym, ap, ◌∙◌}
use mathlib.Core.Bool.{Bool, true, false, cond, not, false≢true}
use mathlib.Core.List.{List, [], ◌∷◌}
use Prim.Native.Nat.{ℕ, zero, suc, ◌%◌, ◌≤◌, ◌<◌}
use native.Mathlib.Omega.{arith}
use borrow.Author.Tests.{le-leb, le-ltb, lt-ltb, ltb-false, ltb-true}
use lib.Dec.{eqb, leb, ltb}
use lib.ListN.{get_or, length}
use Rattle.std.specs.Prelude.{Option, Some, None, Contains, EachIndex, IfSome, MatchOption, is_some, option_map, slice_index, slice_index_or, unwrap_or}
use Rattle.std.specs.List.{filter, list_all}
use Rattle.std.specs.Ordering.{is_gt, nat_cmp}
use Rattle.std.proofs.lemmas.Map.Keys.{le_from_not_gt}
use Rattle.table.specs.Codes.{is_in, rx_bw_codes}
use Rattle.rx_bw.specs.Width.{is_named}
use Rattle.rx_bw.proofs.Names.{both}
use Rattle.bank_widths.specs.Keys.{better, choice_for, greatest, key_of, keys_below, limit_of, listed_keys}
use Rattle.bank_widths.proofs.Search.{chosen_none, chosen-some}

-- ---- what passes

-- what holds of all that passes holds of each element that does
each-passing : (t : ℕ → Bool) (Q : ℕ → Type 0) (ks : List ℕ) → ((j : ℕ) → j < length (filter t ks) → Q (get_or (filter t ks) j 0))
    → (i : ℕ) → i < length ks → t (get_or ks i 0) ≡ true → Q (get_or ks i 0)
each-passing t Q [] h i l p = absurd (omega (arith, l))
each-passing t Q (k ∷ ks) h i l p = by (t k) refl h i l p (each-passing t Q ks)
  where
    by : (b : Bool) → t k ≡ b → ((j : ℕ) → j < length (cond b (k ∷ filter t ks) (filter t ks)) → Q (get_or (cond b (k ∷ filter t ks) (filter t ks)) j 0))
        → (i : ℕ) → i < length (k ∷ ks) → t (get_or (k ∷ ks) i 0) ≡ true
        → (((j : ℕ) → j < length (filter t ks) → Q (get_or (filter t ks) j 0)) → (i : ℕ) → i < length ks → t (get_or ks i 0) ≡ true → Q (get_or ks i 0))
        → Q (get_or (k ∷ ks) i 0)
    by true e h zero l p r = h 0 (omega arith)
    by true e h (suc i) l p r = r (λ j m. h (suc j) (omega (arith, m))) i (omega (arith, l)) p
    by false e h zero l p r = absurd (false≢true (sym e ∙ p))
    by false e h (suc i) l p r = r h i (omega (arith, l)) p

not-past : (m x : ℕ) (o : Option ℕ) → option_map (λ y. y) o ≡ Some x → IfSome o (λ z. is_gt (nat_cmp z m) ≡ false) → x ≤ m
not-past m x None e h = absurd (false≢true (ap is_some e))
not-past m x (Some z) e h =
    let same : z ≡ x = ap (λ (o : Option ℕ). unwrap_or o 0) e in
    omega (arith, same, le_from_not_gt z m h)

module _ (limit : ℕ) (ks items : List ℕ) (e : items ≡ filter (λ (k : ℕ). leb k limit) ks) (len : ℕ) (at : ℕ → Option ℕ) (n : len ≡ length items)
    (reads : (k d : ℕ) → k < len → option_map (λ y. y) (at k) ≡ Some (slice_index_or items k d)) where
  most : (m : ℕ) → ((k : ℕ) → IfSome (at k) (λ z. is_gt (nat_cmp z m) ≡ false)) → EachIndex ks (λ i. slice_index ks i ≤ limit → slice_index ks i ≤ m)
  most m h i l p =
      each-passing (λ (k : ℕ). leb k limit) (λ (k : ℕ). k ≤ m) ks
      (λ j q. rw (sym e) (not-past m (get_or items j 0) (at j) (reads j 0 (omega (arith, n, ap length e, q))) (h j)))
      i l (le-leb (get_or ks i 0) limit p)

  none : len ≡ 0 → EachIndex ks (λ i. limit < slice_index ks i)
  none z i l = by (ltb limit (get_or ks i 0)) refl
    where
      by : (b : Bool) → ltb limit (get_or ks i 0) ≡ b → limit < get_or ks i 0
      by true f = ltb-true limit (get_or ks i 0) f
      by false f =
          absurd
          (each-passing (λ (k : ℕ). leb k limit) (λ (k : ℕ). ⊥) ks (λ j q. omega (arith, n, z, ap length e, q)) i l
          (le-leb (get_or ks i 0) limit (ltb-false limit (get_or ks i 0) f)))

  pub passed-most : (X : ℕ → Type 0) (o : Option ℕ) → MatchOption o (len ≡ 0) (λ m. X m × ((k : ℕ) → IfSome (at k) (λ z. is_gt (nat_cmp z m) ≡ false)))
      → MatchOption o (EachIndex ks (λ i. limit < slice_index ks i)) (λ m. EachIndex ks (λ i. slice_index ks i ≤ limit → slice_index ks i ≤ m))
  passed-most X None h = none h
  passed-most X (Some m) h = most m h.1

-- ---- the greatest, one by one

pub greatest-none : (limit b : ℕ) (ks : List ℕ) → EachIndex ks (λ i. limit < slice_index ks i) → greatest limit b ks ≡ b
unfolding greatest better
greatest-none limit b [] h = refl
greatest-none limit b (k ∷ ks) h = rw (lt-ltb limit k (h 0 (omega arith))) (greatest-none limit b ks (λ i l. h (suc i) (omega (arith, l))))

-- no later number that passes is greater
greatest-stays : (limit m : ℕ) (ks : List ℕ) → EachIndex ks (λ i. slice_index ks i ≤ limit → slice_index ks i ≤ m) → greatest limit m ks ≡ m
unfolding greatest better
greatest-stays limit m [] h = refl
greatest-stays limit m (k ∷ ks) h = by (ltb limit k) refl (ltb m k) refl (greatest-stays limit m ks (λ i l. h (suc i) (omega (arith, l))))
  where
    by : (x : Bool) → ltb limit k ≡ x → (y : Bool) → ltb m k ≡ y → greatest limit m ks ≡ m → greatest limit (cond x m (cond y k m)) ks ≡ m
    by true p y q r = r
    by false p false q r = r
    by false p true q r = absurd (omega (arith, ltb-true m k q, h 0 (omega arith) (ltb-false limit k p)))

pub greatest-some : (limit b m : ℕ) (ks : List ℕ) → b ≤ m → m ≤ limit → (i : ℕ) → i < length ks → get_or ks i m ≡ m
    → EachIndex ks (λ i. slice_index ks i ≤ limit → slice_index ks i ≤ m) → greatest limit b ks ≡ m
unfolding greatest better
greatest-some limit b m [] p q i l e h = absurd (omega (arith, l))
greatest-some limit b m (k ∷ ks) p q zero l e h = by (ltb b k) refl
  where
    later : greatest limit m ks ≡ m
    later = greatest-stays limit m ks (λ i l. h (suc i) (omega (arith, l)))

    by : (y : Bool) → ltb b k ≡ y → greatest limit (cond (ltb limit k) b (cond y k b)) ks ≡ m
    by true f = rw (le-ltb limit k (omega (arith, e, q)), e) later
    by false f =
        let same : b ≡ m = omega (arith, e, p, ltb-false b k f) in
        rw (le-ltb limit k (omega (arith, e, q)), same) later
greatest-some limit b m (k ∷ ks) p q (suc i) l e h = by (ltb limit k) refl (ltb b k) refl (λ b p. greatest-some limit b m ks p q i (omega (arith, l)) e (λ j n. h (suc j) (omega (arith, n))))
  where
    by : (x : Bool) → ltb limit k ≡ x → (y : Bool) → ltb b k ≡ y → ((b : ℕ) → b ≤ m → greatest limit b ks ≡ m)
        → greatest limit (cond x b (cond y k b)) ks ≡ m
    by true f y g r = r b p
    by false f false g r = r b p
    by false f true g r = r k (h 0 (omega arith) (ltb-false limit k f))

-- ---- of the listed keys

keys-positive : list_all (λ (k : ℕ). not (eqb k 0)) listed_keys ≡ true
unfolding listed_keys keys_below key_of is_named is_in rx_bw_codes
keys-positive = refl

all-at : (p : ℕ → Bool) (xs : List ℕ) → list_all p xs ≡ true → (i d : ℕ) → i < length xs → p (get_or xs i d) ≡ true
all-at p [] h i d l = absurd (omega (arith, l))
all-at p (x ∷ xs) h zero d l = (both (p x) (list_all p xs) h).0
all-at p (x ∷ xs) h (suc i) d l = all-at p xs (both (p x) (list_all p xs) h).1 i d (omega (arith, l))

module _ (need : ℕ) (ks : List ℕ) (e : ks ≡ listed_keys) where
  pub key-none : EachIndex ks (λ i. limit_of need < slice_index ks i) → None ≡ choice_for need
  key-none h = chosen_none need (rw (sym e) (greatest-none (limit_of need) 0 ks h))

  pub key-some : (m : ℕ) → Contains ks m → m ≤ limit_of need → EachIndex ks (λ i. slice_index ks i ≤ limit_of need → slice_index ks i ≤ m)
      → Some (m % 256) ≡ choice_for need
  key-some m at q h =
      let found : greatest (limit_of need) 0 listed_keys ≡ m = rw (sym e) (greatest-some (limit_of need) 0 m ks (omega arith) q at.0 at.1 at.2 h) in
      let some : not (eqb (get_or ks at.0 m) 0) ≡ true = rw e (all-at (λ (k : ℕ). not (eqb k 0)) listed_keys keys-positive at.0 m (omega (arith, at.1, ap length e))) in
      ap (λ (k : ℕ). Some (k % 256)) (sym found) ∙ chosen-some need (λ z. absurd (false≢true (ap (λ (k : ℕ). not (eqb k 0)) (sym (at.2 ∙ sym found ∙ z)) ∙ some)))
