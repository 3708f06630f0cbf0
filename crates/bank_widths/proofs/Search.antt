-- The greatest key up to the limit of a need is that of its right code: what the source goes by keeps to the rule.
--     search-none      no key up to the limit: no listed width is at least the need
--     search-some      else the key's code is the right one
--     served-right     so a need that can be served has a right code
-- Assumes nothing.
use mathlib.Core.Path.{◌≡◌, refl, sym, ap, subst, ◌∙◌}
use mathlib.Core.Bool.{Bool, true, false, cond, false≢true}
use mathlib.Core.List.{List, [], ◌∷◌, ◌++◌}
use mathlib.Core.Logic.{◌⊎◌, inl, inr}
use Prim.Native.Nat.{ℕ, zero, suc, ◌+◌, ◌*◌, ◌/◌, ◌%◌, ◌≤◌, ◌<◌}
use native.Mathlib.Nat.{le-div_iff_mul-le, mul_comm}
use native.Mathlib.Omega.{arith}
use borrow.Author.Tests.{eqb-false, eqb-true, ltb-false, ltb-true}
use lib.Dec.{eqb, ltb}
use Rattle.table.specs.Codes.{rx_bw_codes}
use Rattle.rx_bw.specs.Width.{divisor, is_named}
use Rattle.width_rule.specs.Rule.{is_served, right_for}
use Rattle.bank_widths.specs.Keys.{better, choice_for, greatest, key_of, keys_below, limit_of, listed_keys}
use Rattle.std.specs.Prelude.{Some, None}
use Rattle.width_rule.proofs.Listed.{listed-bounds}
use Rattle.width_rule.proofs.Rules.{Enough, NoWider, Right, any-no, right-found, right-served, suffices-says}

-- ---- keys

-- a listed code lies in its key behind its divisor
module _ (c : ℕ) (h : is_named c ≡ true) where
  pub key-positive : 0 < key_of c
  unfolding key_of
  key-positive = omega (arith, (listed-bounds c h).least)

  pub key-code : key_of c % 256 ≡ c
  unfolding key_of
  key-code = omega (arith, (listed-bounds c h).byte)

  -- a key up to the limit is one whose width is at least the need
  module _ (need : ℕ) where
    pub limit-enough : key_of c ≤ limit_of need → Enough need c
    unfolding key_of limit_of
    limit-enough k = by (eqb need 0) refl k
      where
        by : (z : Bool) → eqb need 0 ≡ z → divisor c * 256 + c ≤ cond z 18446744073709551615 (40000000 / need * 256 + 255) → Enough need c
        by true e j =
            let z : need * divisor c ≡ 0 * divisor c = ap (λ (k : ℕ). k * divisor c) (eqb-true need 0 e) in
            omega (arith, z)
        by false e j =
            let p : 0 < need = omega (arith, eqb-false need 0 e) in
            let q : divisor c ≤ 40000000 / need = omega (arith, j) in
            omega (arith, (le-div_iff_mul-le {k = need} {x = divisor c} {y = 40000000} p).0 q, mul_comm need (divisor c))

    pub enough-limit : Enough need c → key_of c ≤ limit_of need
    unfolding key_of limit_of
    enough-limit k = by (eqb need 0) refl
      where
        by : (z : Bool) → eqb need 0 ≡ z → divisor c * 256 + c ≤ cond z 18446744073709551615 (40000000 / need * 256 + 255)
        by true e = omega (arith, (listed-bounds c h).most, (listed-bounds c h).byte)
        by false e =
            let p : 0 < need = omega (arith, eqb-false need 0 e) in
            let m : divisor c * need ≤ 40000000 = omega (arith, k, mul_comm need (divisor c)) in
            let q : divisor c ≤ 40000000 / need = (le-div_iff_mul-le {k = need} {x = divisor c} {y = 40000000} p).1 m in
            omega (arith, q, (listed-bounds c h).byte)

-- the smaller key has the wider width
narrower : (c d : ℕ) → is_named c ≡ true → is_named d ≡ true → key_of d ≤ key_of c → NoWider c d
unfolding key_of
narrower c d h k l = omega (arith, l, (listed-bounds c h).byte, (listed-bounds d k).byte)

-- ---- the greatest key

-- a key that the search holds
pub record Held (limit best : ℕ) : Type 0 where
  pub code : ℕ
  pub listed : is_named code ≡ true
  pub key : best ≡ key_of code
  pub within : key_of code ≤ limit

-- what the search through the codes below n came to
pub record Best (limit n best : ℕ) : Type 0 where
  pub held : (best ≡ 0) ⊎ Held limit best
  pub most : (d : ℕ) → d < n → is_named d ≡ true → key_of d ≤ limit → key_of d ≤ best

greatest-then : (limit best : ℕ) (xs ys : List ℕ) → greatest limit best (xs ++ ys) ≡ greatest limit (greatest limit best xs) ys
unfolding greatest
greatest-then limit best [] ys = refl
greatest-then limit best (x ∷ xs) ys = greatest-then limit (better limit best x) xs ys

module _ (limit n b : ℕ) (s : Best limit n b) where
  -- a code that is not listed
  best-pass : is_named n ≡ false → Best limit (suc n) b
  best-pass e = record { held = s.held; most = λ d h l w. by d h l w (eqb d n) refl }
    where
      by : (d : ℕ) → d < suc n → is_named d ≡ true → key_of d ≤ limit → (z : Bool) → eqb d n ≡ z → key_of d ≤ b
      by d h l w true q = absurd (false≢true (sym e ∙ ap is_named (sym (eqb-true d n q)) ∙ l))
      by d h l w false q = s.most d (omega (arith, eqb-false d n q)) l w

  best-take : is_named n ≡ true → Best limit (suc n) (better limit b (key_of n))
  unfolding better
  best-take e = by (ltb limit (key_of n)) refl (ltb b (key_of n)) refl
    where
      most : (m : ℕ) → b ≤ m → (key_of n ≤ limit → key_of n ≤ m) → (d : ℕ) → d < suc n → is_named d ≡ true → key_of d ≤ limit → key_of d ≤ m
      most m h k d l g w = pick (eqb d n) refl
        where
          pick : (z : Bool) → eqb d n ≡ z → key_of d ≤ m
          pick true q =
              let same : key_of d ≡ key_of n = ap key_of (eqb-true d n q) in
              omega (arith, same, k (omega (arith, same, w)))
          pick false q = omega (arith, h, s.most d (omega (arith, eqb-false d n q, l)) g w)

      by : (x : Bool) → ltb limit (key_of n) ≡ x → (y : Bool) → ltb b (key_of n) ≡ y → Best limit (suc n) (cond x b (cond y (key_of n) b))
      by true p y q = record { held = s.held; most = most b (omega arith) (λ w. omega (arith, w, ltb-true limit (key_of n) p)) }
      by false p true q =
          record {
            held = inr (record { code = n; listed = e; key = refl; within = ltb-false limit (key_of n) p });
            most = most (key_of n) (omega (arith, ltb-true b (key_of n) q)) (λ w. omega arith);
          }
      by false p false q = record { held = s.held; most = most b (omega arith) (λ w. ltb-false b (key_of n) q) }

best-below : (limit n : ℕ) → Best limit n (greatest limit 0 (keys_below n))
unfolding keys_below greatest
best-below limit zero = record { held = inl refl; most = λ d h. absurd (omega (arith, h)) }
best-below limit (suc n) = subst (Best limit (suc n)) (sym (greatest-then limit 0 (keys_below n) (cond (is_named n) (key_of n ∷ []) []))) (by (is_named n) refl (best-below limit n))
  where
    b : ℕ
    b = greatest limit 0 (keys_below n)

    by : (z : Bool) → is_named n ≡ z → Best limit n b → Best limit (suc n) (greatest limit b (cond z (key_of n ∷ []) []))
    by true e s = best-take limit n b s e
    by false e s = best-pass limit n b s e

-- ---- what is found

module _ (need : ℕ) where
  abbrev best : ℕ
  best = greatest (limit_of need) 0 listed_keys

  searched : Best (limit_of need) 256 best
  unfolding listed_keys
  searched = best-below (limit_of need) 256

  -- no listed width that is at least the need has a greater key
  bound : (d : ℕ) → is_named d ≡ true → Enough need d → key_of d ≤ best
  bound d h k = searched.most d (omega (arith, (listed-bounds d h).byte)) h (enough-limit d h need k)

  pub search-none : greatest (limit_of need) 0 listed_keys ≡ 0 → is_served need ≡ false
  unfolding is_served
  search-none e =
      any-no need rx_bw_codes
      (λ d s.
      let p = suffices-says need d s in
      omega (arith, key-positive d p.0, bound d p.0 p.1, e))

  pub search-some : (greatest (limit_of need) 0 listed_keys ≡ 0 → ⊥) → Right need (greatest (limit_of need) 0 listed_keys % 256)
  search-some n = by searched.held
    where
      by : (best ≡ 0) ⊎ Held (limit_of need) best → Right need (best % 256)
      by (inl e) = absurd (n e)
      by (inr k) = subst (Right need) (sym (ap (λ (x : ℕ). x % 256) k.key ∙ key-code k.code k.listed)) right
        where
          right : Right need k.code
          right =
              record {
                listed = k.listed;
                enough = limit-enough k.code k.listed need k.within;
                least = λ d h e. narrower k.code d k.listed h (omega (arith, k.key, bound d h e));
              }

  -- so a need that can be served has a right code, the one that the list has for it
  pub served-right : is_served need ≡ true → Right need (right_for need)
  served-right e = by (eqb best 0) refl
    where
      by : (z : Bool) → eqb best 0 ≡ z → Right need (right_for need)
      by true q = absurd (false≢true (sym (search-none (eqb-true best 0 q)) ∙ e))
      by false q =
          let r : Right need (best % 256) = search-some (eqb-false best 0 q) in
          subst (Right need) (sym (right-found need (best % 256) r)) r

  -- ---- as the source tells it

  pub chosen_none : greatest (limit_of need) 0 listed_keys ≡ 0 → None ≡ choice_for need
  unfolding choice_for
  chosen_none e = rw (search-none e)

  pub chosen-some : (greatest (limit_of need) 0 listed_keys ≡ 0 → ⊥) → Some (greatest (limit_of need) 0 listed_keys % 256) ≡ choice_for need
  unfolding choice_for
  chosen-some n =
      let r : Right need (best % 256) = search-some n in
      rw (right-served need (best % 256) r, right-found need (best % 256) r)
