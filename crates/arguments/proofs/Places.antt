-- The inputs of a program. Of the names among some arguments: how many they are and which one stands at a place, where the mark does not lie before it
-- (`clear-length`, `clear_at`) and where it does (`marked-length`, `marked-at`). Of the inputs: where there is no name (`places-none`), and where there is
-- one (`places-some`).
-- Assumes nothing.
use mathlib.Core.Path.{◌≡◌, refl, ap, sym, ◌∙◌}
use mathlib.Core.Bool.{Bool, true, false}
use mathlib.Core.List.{List, [], ◌∷◌}
use Prim.Native.Nat.{ℕ, zero, suc, ◌+◌, ◌-◌, ◌<◌, ◌≤◌}
use native.Mathlib.Omega.{arith}
use borrow.Author.Tests.{eqb-false, eqb-true, ltb-false, ltb-true, ne_eqb}
use lib.Dec.{eqb, ltb}
use lib.ListN.{length}
use Rattle.std.proofs.Common.{Option, None, Some}
use Rattle.std.proofs.lemmas.Option.{none-some, same_Some, slice_get_past}
use Rattle.std.specs.Prelude.{slice_get}
use Rattle.arguments.specs.declared.Place.{Place}
use Rattle.arguments.specs.declared.Place.TheVariants.{Argument, StandardInput}
use Rattle.arguments.specs.Places.{add_unless, is_mark, names_from, names_of, or_standard_input, places_of}

-- ---- the names among the n arguments from k on

module _ (mark : Option ℕ) where
  -- the mark is none of the first n
  abbrev pub Clear : ℕ → ℕ → Type 0
  Clear k n = (j : ℕ) → j < n → mark ≡ Some (k + j) → ⊥

  unmarked : (k : ℕ) → (mark ≡ Some k → ⊥) → is_mark mark k ≡ false
  unmarked k h = go mark h
    where
      go : (m : Option ℕ) → (m ≡ Some k → ⊥) → is_mark m k ≡ false
      go None h = refl
      go (Some m) h = ne_eqb k m (λ e. h (ap Some (sym e)))

  clear_later : (k n : ℕ) → Clear k (suc n) → Clear (suc k) n
  clear_later k n h j a e = h (suc j) (omega arith) (e ∙ ap Some (omega arith))

  clear_first : (k n : ℕ) → Clear k (suc n) → is_mark mark k ≡ false
  clear_first k n h = unmarked k (λ e. h 0 (omega arith) (e ∙ ap Some (omega arith)))

  pub clear-length : (k n : ℕ) → Clear k n → length (names_from mark k n) ≡ n
  unfolding names_from
  clear-length k zero h = refl
  clear-length k (suc n) h = rw (clear_first k n h) (ap suc (clear-length (suc k) n (clear_later k n h)))

  pub clear_at : (k n i : ℕ) → i < n → Clear k (suc i) → slice_get (names_from mark k n) i ≡ Some (Argument (k + i))
  unfolding names_from
  clear_at k zero i a h = absurd (omega arith)
  clear_at k (suc n) zero a h = rw (clear_first k 0 h) (ap (λ (j : ℕ). Some (Argument j)) (omega arith))
  clear_at k (suc n) (suc i) a h =
      rw (clear_first k (suc i) h) (clear_at (suc k) n i (omega arith) (clear_later k (suc i) h) ∙ ap (λ (j : ℕ). Some (Argument j)) (omega arith))

-- the mark is past them, or before them
clear-past : (m k n : ℕ) → k + n ≤ m → Clear (Some m) k n
clear-past m k n h j a e = omega (arith, same_Some m (k + j) e)

clear-before : (m k n : ℕ) → m < k → Clear (Some m) k n
clear-before m k n h j a e = omega (arith, same_Some m (k + j) e)

clear-none : (k n : ℕ) → Clear None k n
clear-none k n j a e = none-some (k + j) e

module _ (m : ℕ) where
  -- the mark is one of them
  pub marked-length : (k n : ℕ) → k ≤ m → m < k + n → suc (length (names_from (Some m) k n)) ≡ n
  unfolding names_from
  marked-length k zero h a = absurd (omega arith)
  marked-length k (suc n) h a = go (eqb k m) refl (marked-length (suc k) n)
    where
      go : (t : Bool) → eqb k m ≡ t → (suc k ≤ m → m < suc k + n → suc (length (names_from (Some m) (suc k) n)) ≡ n)
          → suc (length (add_unless t (Argument k) (names_from (Some m) (suc k) n))) ≡ suc n
      go true e ih = ap suc (clear-length (Some m) (suc k) n (clear-before m (suc k) n (omega (arith, eqb-true k m e))))
      go false e ih = ap suc (ih (omega (arith, eqb-false k m e)) (omega arith))

  -- and lies before the place
  pub marked-at : (k n i : ℕ) → k ≤ m → m ≤ k + i → i + 1 < n → slice_get (names_from (Some m) k n) i ≡ Some (Argument (k + i + 1))
  unfolding names_from
  marked-at k zero i h b a = absurd (omega arith)
  marked-at k (suc n) i h b a = go (eqb k m) refl i b a (marked-at (suc k) n)
    where
      go : (t : Bool) → eqb k m ≡ t → (i : ℕ) → m ≤ k + i → i + 1 < suc n
          → ((i : ℕ) → suc k ≤ m → m ≤ suc k + i → i + 1 < n → slice_get (names_from (Some m) (suc k) n) i ≡ Some (Argument (suc k + i + 1)))
          → slice_get (add_unless t (Argument k) (names_from (Some m) (suc k) n)) i ≡ Some (Argument (k + i + 1))
      go true e i b a ih =
          clear_at (Some m) (suc k) n i (omega arith) (clear-before m (suc k) (suc i) (omega (arith, eqb-true k m e)))
          ∙ ap (λ (j : ℕ). Some (Argument j)) (omega arith)
      go false e zero b a ih = absurd (omega (arith, eqb-false k m e))
      go false e (suc i) b a ih =
          ih i (omega (arith, eqb-false k m e)) (omega arith) (omega arith) ∙ ap (λ (j : ℕ). Some (Argument j)) (omega arith)

-- ---- the names among all arguments

module _ (given : ℕ) where
  -- no argument is the mark
  pub names-unmarked : given ≡ length (names_of given None)
  unfolding names_of
  names-unmarked = sym (clear-length None 1 given (clear-none 1 given))

  pub name-unmarked : (i : ℕ) → i < given → Some (Argument (i + 1)) ≡ slice_get (names_of given None) i
  unfolding names_of
  name-unmarked i a = sym (clear_at None 1 given i a (clear-none 1 (suc i)) ∙ ap (λ (j : ℕ). Some (Argument j)) (omega arith))

module _ (given m : ℕ) where
  pub names-past : given < m → given ≡ length (names_of given (Some m))
  unfolding names_of
  names-past h = sym (clear-length (Some m) 1 given (clear-past m 1 given (omega arith)))

  pub names-own : m ≡ 0 → given ≡ length (names_of given (Some m))
  unfolding names_of
  names-own h = sym (clear-length (Some m) 1 given (clear-before m 1 given (omega arith)))

  -- one is
  pub names_marked : 0 < m → m ≤ given → given - 1 ≡ length (names_of given (Some m))
  unfolding names_of
  names_marked p h = omega (arith, marked-length m 1 given p (omega arith))

  pub names-most : length (names_of given (Some m)) ≤ given
  names-most = go (eqb m 0) refl (ltb given m) refl
    where
      go : (t : Bool) → eqb m 0 ≡ t → (u : Bool) → ltb given m ≡ u → length (names_of given (Some m)) ≤ given
      go true e u w = omega (arith, names-own (eqb-true m 0 e))
      go false e true w = omega (arith, names-past (ltb-true given m w))
      go false e false w =
          let p : 0 < m = omega (arith, eqb-false m 0 e) in
          omega (arith, names_marked p (ltb-false given m w))

  module _ (i : ℕ) (a : i < length (names_of given (Some m))) where
    -- before the mark, and where that is no argument behind the program's name
    pub name-before : i + 1 < m → Some (Argument (i + 1)) ≡ slice_get (names_of given (Some m)) i
    unfolding names_of
    name-before h =
        sym (clear_at (Some m) 1 given i (omega (arith, names-most)) (clear-past m 1 (suc i) (omega arith))
        ∙ ap (λ (j : ℕ). Some (Argument j)) (omega arith))

    pub name-own : m ≡ 0 → Some (Argument (i + 1)) ≡ slice_get (names_of given (Some m)) i
    unfolding names_of
    name-own h =
        sym (clear_at (Some m) 1 given i (omega (arith, names-most)) (clear-before m 1 (suc i) (omega arith))
        ∙ ap (λ (j : ℕ). Some (Argument j)) (omega arith))

    -- behind it
    pub behind-fits : 0 < m → m ≤ i + 1 → i + 2 ≤ given
    behind-fits p h = omega (arith, names-most, names_marked p (omega (arith, names-most)))

    pub name-behind : 0 < m → m ≤ i + 1 → Some (Argument (i + 2)) ≡ slice_get (names_of given (Some m)) i
    unfolding names_of
    name-behind p h =
        sym (marked-at m 1 given i p (omega arith) (omega (arith, behind-fits p h)) ∙ ap (λ (j : ℕ). Some (Argument j)) (omega arith))

-- no more of them than arguments
pub names-few : (given : ℕ) (mark : Option ℕ) → length (names_of given mark) ≤ given
names-few given None = omega (arith, names-unmarked given)
names-few given (Some m) = names-most given m

-- ---- the inputs

module _ (given : ℕ) (mark : Option ℕ) where
  pub places-none : length (names_of given mark) ≡ 0 → places_of given mark ≡ StandardInput ∷ []
  unfolding places_of
  places-none = go (names_of given mark)
    where
      go : (ps : List Place) → length ps ≡ 0 → or_standard_input ps ≡ StandardInput ∷ []
      go [] h = refl
      go (p ∷ ps) h = absurd (omega arith)

  pub places-some : 0 < length (names_of given mark) → places_of given mark ≡ names_of given mark
  unfolding places_of
  places-some = go (names_of given mark)
    where
      go : (ps : List Place) → 0 < length ps → or_standard_input ps ≡ ps
      go [] h = absurd (omega arith)
      go (p ∷ ps) h = refl

  -- how many they are
  pub count_none : length (names_of given mark) ≡ 0 → 1 ≡ length (places_of given mark)
  count_none h = sym (ap length (places-none h))

  pub count-some : 0 < length (names_of given mark) → length (names_of given mark) ≡ length (places_of given mark)
  count-some h = sym (ap length (places-some h))

  -- an input with a name, the one without, and none
  module _ (i : ℕ) where
    pub place-named : i < length (names_of given mark) → slice_get (names_of given mark) i ≡ slice_get (places_of given mark) i
    place-named h = ap (λ (ps : List Place). slice_get ps i) (sym (places-some (omega arith)))

    pub place-first : length (names_of given mark) ≤ i → i ≡ 0 → Some StandardInput ≡ slice_get (places_of given mark) i
    place-first h z = sym (rw (places-none (omega arith), z))

    pub place-past : length (names_of given mark) ≤ i → 0 < i → None ≡ slice_get (places_of given mark) i
    place-past h p = go (eqb (length (names_of given mark)) 0) refl
      where
        go : (t : Bool) → eqb (length (names_of given mark)) 0 ≡ t → None ≡ slice_get (places_of given mark) i
        go true e =
            let none : places_of given mark ≡ StandardInput ∷ [] = places-none (eqb-true _ _ e) in
            sym (ap (λ (ps : List Place). slice_get ps i) none ∙ slice_get_past (StandardInput ∷ []) i (omega arith))
        go false e =
            let q : 0 < length (names_of given mark) = omega (arith, eqb-false (length (names_of given mark)) 0 e) in
            sym (ap (λ (ps : List Place). slice_get ps i) (places-some q) ∙ slice_get_past (names_of given mark) i h)

-- ---- what a caller sees

module _ (mark : Option ℕ) where
  -- a name among the n arguments from k on is one of them, and not the mark
  name-is : (k n i j : ℕ) → slice_get (names_from mark k n) i ≡ Some (Argument j) → (k ≤ j) × (j < k + n) × (mark ≡ Some j → ⊥)
  unfolding names_from
  name-is k zero i j h = absurd (none-some (Argument j) h)
  name-is k (suc n) i j h = go (is_mark mark k) refl i h (name-is (suc k) n)
    where
      within : (suc k ≤ j) × (j < suc k + n) × (mark ≡ Some j → ⊥) → (k ≤ j) × (j < k + suc n) × (mark ≡ Some j → ⊥)
      within x = (omega (arith, x.0), omega (arith, x.1), x.2)

      go : (t : Bool) → is_mark mark k ≡ t → (i : ℕ) → slice_get (add_unless t (Argument k) (names_from mark (suc k) n)) i ≡ Some (Argument j)
          → ((i j : ℕ) → slice_get (names_from mark (suc k) n) i ≡ Some (Argument j) → (suc k ≤ j) × (j < suc k + n) × (mark ≡ Some j → ⊥))
          → (k ≤ j) × (j < k + suc n) × (mark ≡ Some j → ⊥)
      go true e i h ih = within (ih i j h)
      go false e zero h ih =
          let same : k ≡ j = cc in
          (omega arith, omega arith, λ z. eqb-false k j (sym (ap (λ (o : Option ℕ). is_mark o k) z) ∙ e) same)
      go false e (suc i) h ih = within (ih i j h)

  -- and standard input is none
  name-not-standard : (k n i : ℕ) → slice_get (names_from mark k n) i ≡ Some StandardInput → ⊥
  unfolding names_from
  name-not-standard k zero i h = none-some StandardInput h
  name-not-standard k (suc n) i h = go (is_mark mark k) i h (name-not-standard (suc k) n)
    where
      go : (t : Bool) (i : ℕ) → slice_get (add_unless t (Argument k) (names_from mark (suc k) n)) i ≡ Some StandardInput
          → ((i : ℕ) → slice_get (names_from mark (suc k) n) i ≡ Some StandardInput → ⊥) → ⊥
      go true i h ih = ih i h
      go false zero h ih = let z : ◌≡◌ {A = ℕ} 0 1 = cc in omega arith
      go false (suc i) h ih = ih i h

module _ (given : ℕ) (mark : Option ℕ) where
  -- an input that an argument names is named by one of them that is not the mark
  pub input-is : (i j : ℕ) → slice_get (places_of given mark) i ≡ Some (Argument j) → (1 ≤ j) × (j < 1 + given) × (mark ≡ Some j → ⊥)
  unfolding places_of names_of
  input-is i j h = name-is mark 1 given i j (go (names_from mark 1 given) i h)
    where
      go : (ps : List Place) (i : ℕ) → slice_get (or_standard_input ps) i ≡ Some (Argument j) → slice_get ps i ≡ Some (Argument j)
      go [] zero h = cc
      go [] (suc i) h = h
      go (p ∷ ps) i h = h

  -- standard input is the one input where no argument is a name, and nowhere else (`place-first` is the other half)
  pub standard-alone : (i : ℕ) → slice_get (places_of given mark) i ≡ Some StandardInput → (i ≡ 0) × (length (names_of given mark) ≡ 0)
  unfolding places_of names_of
  standard-alone i h = go (names_from mark 1 given) i h (name-not-standard mark 1 given i)
    where
      go : (ps : List Place) (i : ℕ) → slice_get (or_standard_input ps) i ≡ Some StandardInput → (slice_get ps i ≡ Some StandardInput → ⊥)
          → (i ≡ 0) × (length ps ≡ 0)
      go [] zero h never = (refl, refl)
      go [] (suc i) h never = absurd (none-some StandardInput h)
      go (p ∷ ps) i h never = absurd (never h)

-- each argument that is not the mark names an input, in their order: without a mark, before it, and behind it
module _ (given j : ℕ) (a : 1 ≤ j) (b : j ≤ given) where
  pub input-unmarked : slice_get (places_of given None) (j - 1) ≡ Some (Argument j)
  input-unmarked =
      let few : j - 1 < given = omega arith in
      sym (place-named given None (j - 1) (omega (arith, names-unmarked given))) ∙ sym (name-unmarked given (j - 1) few)
      ∙ ap (λ (k : ℕ). Some (Argument k)) (omega arith)

  module _ (m : ℕ) where
    pub input-before : j < m → slice_get (places_of given (Some m)) (j - 1) ≡ Some (Argument j)
    input-before h =
        let few : j - 1 < length (names_of given (Some m)) = few-before (ltb given m) refl h in
        sym (place-named given (Some m) (j - 1) few) ∙ sym (name-before given m (j - 1) few (omega arith))
        ∙ ap (λ (k : ℕ). Some (Argument k)) (omega arith)
      where
        few-before : (t : Bool) → ltb given m ≡ t → j < m → j - 1 < length (names_of given (Some m))
        few-before true e h = omega (arith, names-past given m (ltb-true given m e))
        few-before false e h =
            let one : m ≤ given = ltb-false given m e in
            omega (arith, names_marked given m (omega arith) one)

    pub input-behind : 0 < m → m < j → slice_get (places_of given (Some m)) (j - 2) ≡ Some (Argument j)
    input-behind p h =
        let few : j - 2 < length (names_of given (Some m)) = omega (arith, names_marked given m p (omega arith)) in
        sym (place-named given (Some m) (j - 2) few) ∙ sym (name-behind given m (j - 2) few p (omega arith))
        ∙ ap (λ (k : ℕ). Some (Argument k)) (omega arith)
