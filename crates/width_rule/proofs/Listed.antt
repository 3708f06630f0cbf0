-- What computing shows of the listed codes: each is a byte, and its divisor lies between 13 and 11,520 (`listed-bounds`); code 0 has the divisor
-- 13 (`widest`); no two have one divisor (`listed-apart`); and no width is a whole number of Hz (`never-whole`).
-- Assumes nothing.
use mathlib.Core.Path.{◌≡◌, refl, sym, ap, ◌∙◌}
use mathlib.Core.Bool.{Bool, true, cond, ◌&&◌}
use Prim.Native.Nat.{ℕ, ◌*◌, ◌%◌, ◌≤◌, ◌<◌}
use native.Mathlib.Nat.{mul-mod_left}
use native.Mathlib.Omega.{arith}
use borrow.Author.Tests.{eq-eqb, eqb-true, leb-true, ltb-true}
use lib.Dec.{eqb, leb, ltb}
use Rattle.table.specs.Codes.{rx_bw_codes, is_in}
use Rattle.rx_bw.specs.Width.{divisor, is_named}
use Rattle.rx_bw.proofs.Names.{all_in, all_of, both, named_in}
use Rattle.width_rule.specs.Rule.{width_of}

pub record Bounds (c : ℕ) : Type 0 where
  pub byte : c < 255
  pub least : 13 ≤ divisor c
  pub most : divisor c ≤ 11520

-- `BwAuto` has no part in it
abbrev bounded : ℕ → Bool
bounded c = cond (ltb c 255) (leb 13 (divisor c) && leb (divisor c) 11520) true

all-bounded : all_of bounded rx_bw_codes ≡ true
unfolding rx_bw_codes
all-bounded = refl

pub listed-bounds : (c : ℕ) → is_named c ≡ true → Bounds c
unfolding is_named
listed-bounds c h =
    let e = (both (ltb c 255) (is_in c rx_bw_codes) h).0 in
    let b : leb 13 (divisor c) && leb (divisor c) 11520 ≡ true = rw e at (all_in bounded rx_bw_codes all-bounded c (named_in c h)) in
    let t = both (leb 13 (divisor c)) (leb (divisor c) 11520) b in
    record { byte = ltb-true c 255 e; least = leb-true 13 (divisor c) t.0; most = leb-true (divisor c) 11520 t.1 }

pub widest : (is_named 0 ≡ true) × (divisor 0 ≡ 13)
unfolding is_named is_in rx_bw_codes
widest = (refl, refl)

abbrev apart : ℕ → ℕ → Bool
apart c d = cond (eqb (divisor c) (divisor d)) (eqb c d) true

all_apart : all_of (λ c. all_of (apart c) rx_bw_codes) rx_bw_codes ≡ true
unfolding rx_bw_codes
all_apart = refl

pub listed-apart : (c d : ℕ) → is_named c ≡ true → is_named d ≡ true → divisor c ≡ divisor d → c ≡ d
listed-apart c d h k e =
    let row : all_of (apart c) rx_bw_codes ≡ true = all_in (λ (x : ℕ). all_of (apart x) rx_bw_codes) rx_bw_codes all_apart c (named_in c h) in
    let one : apart c d ≡ true = all_in (apart c) rx_bw_codes row d (named_in d k) in
    eqb-true c d (rw (eq-eqb (divisor c) (divisor d) e) at one)

-- so whether "at least" or "more than" is said of a width decides nothing
abbrev broken : ℕ → Bool
broken c = cond (ltb c 255) (ltb 0 ((width_of c).hz % (width_of c).over)) true

all-broken : all_of broken rx_bw_codes ≡ true
unfolding rx_bw_codes
all-broken = refl

pub never-whole : (need c : ℕ) → is_named c ≡ true → need * (width_of c).over ≡ (width_of c).hz → ⊥
unfolding is_named
never-whole need c h e =
    let b : ltb 0 (40000000 % divisor c) ≡ true = rw (both (ltb c 255) (is_in c rx_bw_codes) h).0 at (all_in broken rx_bw_codes all-broken c (named_in c h)) in
    omega (arith, ltb-true 0 (40000000 % divisor c) b, sym (ap (λ (n : ℕ). n % divisor c) e) ∙ mul-mod_left need (divisor c))
