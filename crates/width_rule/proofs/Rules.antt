-- The rule in numbers, and that there is one right code.
--     right-means, means-right   a code is right exactly if it is listed and not `BwAuto`, its exact width is at least the need, and no such width is
--                                smaller, which is what `Right` says
--     right-once                 two codes that are right for a need are one
--     right-found                the right code is the one that `right_for` gives
--     right-served               a need that has a right code can be served
-- Assumes nothing.
use mathlib.Core.Path.{◌≡◌, refl, sym, ap, ◌∙◌}
use mathlib.Core.Bool.{Bool, true, false, cond, ◌&&◌, false≢true}
use mathlib.Core.List.{List, [], ◌∷◌}
use Prim.Native.Nat.{ℕ, ◌*◌, ◌≤◌}
use native.Mathlib.Omega.{arith}
use borrow.Author.Tests.{eqb-true, le-leb, leb-true}
use lib.Dec.{eqb}
use Rattle.table.specs.Codes.{rx_bw_codes, is_in}
use Rattle.rx_bw.specs.Width.{divisor, is_named}
use Rattle.rx_bw.proofs.Names.{both, named_in}
use Rattle.width_rule.specs.Rule.{any_suffices, is_at_least, is_at_most, is_right, is_served, none_narrower, right_for, right_in, suffices, width_of}
use Rattle.width_rule.proofs.Listed.{listed-apart}

-- a code's width, 40,000,000 Hz over its divisor, is at least the need; and is at most that of another code
abbrev pub Enough : ℕ → ℕ → Type 0
Enough need c = need * divisor c ≤ 40000000

abbrev pub NoWider : ℕ → ℕ → Type 0
NoWider c d = 40000000 * divisor d ≤ 40000000 * divisor c

-- what it means to be right for a need
pub record Right (need c : ℕ) : Type 0 where
  pub listed : is_named c ≡ true
  pub enough : Enough need c
  pub least : (d : ℕ) → is_named d ≡ true → Enough need d → NoWider c d

joined : (x y : Bool) → x ≡ true → y ≡ true → x && y ≡ true
joined x y e f = rw (e, f)

module _ (need : ℕ) where
  pub suffices-says : (c : ℕ) → suffices need c ≡ true → (is_named c ≡ true) × Enough need c
  unfolding suffices
  suffices-says c h = let p = both (is_named c) (is_at_least (width_of c) need) h in (p.0, leb-true (need * divisor c) 40000000 p.1)

  pub suffices-is : (c : ℕ) → is_named c ≡ true → Enough need c → suffices need c ≡ true
  unfolding suffices
  suffices-is c h k = joined (is_named c) (is_at_least (width_of c) need) h (le-leb (need * divisor c) 40000000 k)

  -- ---- one of a list suffices, or none does

  pub any-yes : (c : ℕ) (xs : List ℕ) → suffices need c ≡ true → is_in c xs ≡ true → any_suffices need xs ≡ true
  unfolding any_suffices is_in
  any-yes c [] h i = absurd (false≢true i)
  any-yes c (x ∷ xs) h i = by (eqb c x) refl i (suffices need x) refl (any-yes c xs h)
    where
      by : (b : Bool) → eqb c x ≡ b → cond b true (is_in c xs) ≡ true → (s : Bool) → suffices need x ≡ s
          → (is_in c xs ≡ true → any_suffices need xs ≡ true) → cond s true (any_suffices need xs) ≡ true
      by b e j true f r = refl
      by true e j false f r = absurd (false≢true (sym f ∙ ap (suffices need) (sym (eqb-true c x e)) ∙ h))
      by false e j false f r = r j

  pub any-no : (xs : List ℕ) → ((c : ℕ) → suffices need c ≡ true → ⊥) → any_suffices need xs ≡ false
  unfolding any_suffices
  any-no [] h = refl
  any-no (x ∷ xs) h = by (suffices need x) refl (any-no xs h)
    where
      by : (s : Bool) → suffices need x ≡ s → any_suffices need xs ≡ false → cond s true (any_suffices need xs) ≡ false
      by true f r = absurd (h x f)
      by false f r = r

  -- ---- none of a list is narrower

  none_is : (c : ℕ) (xs : List ℕ) → ((d : ℕ) → suffices need d ≡ true → is_at_most (width_of c) (width_of d) ≡ true) → none_narrower need c xs ≡ true
  unfolding none_narrower
  none_is c [] h = refl
  none_is c (x ∷ xs) h = joined (cond (suffices need x) (is_at_most (width_of c) (width_of x)) true) (none_narrower need c xs) (by (suffices need x) refl) (none_is c xs h)
    where
      by : (s : Bool) → suffices need x ≡ s → cond s (is_at_most (width_of c) (width_of x)) true ≡ true
      by true f = h x f
      by false f = refl

  none-says : (c d : ℕ) (xs : List ℕ) → none_narrower need c xs ≡ true → is_in d xs ≡ true → suffices need d ≡ true → is_at_most (width_of c) (width_of d) ≡ true
  unfolding none_narrower is_in
  none-says c d [] h i s = absurd (false≢true i)
  none-says c d (x ∷ xs) h i s =
      let p = both (cond (suffices need x) (is_at_most (width_of c) (width_of x)) true) (none_narrower need c xs) h in
      by (eqb d x) refl i p.0 (none-says c d xs p.1)
    where
      by : (b : Bool) → eqb d x ≡ b → cond b true (is_in d xs) ≡ true → cond (suffices need x) (is_at_most (width_of c) (width_of x)) true ≡ true
          → (is_in d xs ≡ true → suffices need d ≡ true → is_at_most (width_of c) (width_of d) ≡ true) → is_at_most (width_of c) (width_of d) ≡ true
      by true e j p r =
          let f : d ≡ x = eqb-true d x e in
          ap (λ (y : ℕ). is_at_most (width_of c) (width_of y)) f ∙ rw (sym (ap (suffices need) f) ∙ s) at p
      by false e j p r = r j s

  -- ---- the rule

  pub right-means : (c : ℕ) → is_right need c ≡ true → Right need c
  unfolding is_right
  right-means c h =
      let p = both (suffices need c) (none_narrower need c rx_bw_codes) h in
      let s = suffices-says c p.0 in
      record {
        listed = s.0;
        enough = s.1;
        least = λ d k e. leb-true (40000000 * divisor d) (40000000 * divisor c) (none-says c d rx_bw_codes p.1 (named_in d k) (suffices-is d k e));
      }

  pub means-right : (c : ℕ) → Right need c → is_right need c ≡ true
  unfolding is_right
  means-right c r =
      joined (suffices need c) (none_narrower need c rx_bw_codes) (suffices-is c r.listed r.enough)
      (none_is c rx_bw_codes
      (λ d s. let p = suffices-says d s in le-leb (40000000 * divisor d) (40000000 * divisor c) (r.least d p.0 p.1)))

  -- widths at most each other have one divisor, and so one code
  pub right-once : (c d : ℕ) → Right need c → Right need d → c ≡ d
  right-once c d r s =
      listed-apart c d r.listed s.listed (omega (arith, r.least d s.listed s.enough, s.least c r.listed r.enough))

  found_in : (c : ℕ) (xs : List ℕ) → is_right need c ≡ true → is_in c xs ≡ true → right_in need xs ≡ c
  unfolding right_in is_in
  found_in c [] h i = absurd (false≢true i)
  found_in c (x ∷ xs) h i = by (is_right need x) refl (eqb c x) refl i (found_in c xs h)
    where
      by : (s : Bool) → is_right need x ≡ s → (b : Bool) → eqb c x ≡ b → cond b true (is_in c xs) ≡ true → (is_in c xs ≡ true → right_in need xs ≡ c)
          → cond s x (right_in need xs) ≡ c
      by true f b e j r = right-once x c (right-means x f) (right-means c h)
      by false f true e j r = absurd (false≢true (sym f ∙ ap (is_right need) (sym (eqb-true c x e)) ∙ h))
      by false f false e j r = r j

  pub right-found : (c : ℕ) → Right need c → right_for need ≡ c
  unfolding right_for
  right-found c r = found_in c rx_bw_codes (means-right c r) (named_in c r.listed)

  -- a need with a right code can be served
  pub right-served : (c : ℕ) → Right need c → is_served need ≡ true
  unfolding is_served
  right-served c r = any-yes c rx_bw_codes (suffices-is c r.listed r.enough) (named_in c r.listed)
