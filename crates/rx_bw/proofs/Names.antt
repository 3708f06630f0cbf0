-- A code is listed and not `BwAuto` exactly if its name is not 0 (`named-name`). What one computed test shows of all listed codes holds of each
-- (`all_in`). The list of all names has each at its code (`names_at`).
-- Assumes nothing.
use mathlib.Core.Path.{◌≡◌, refl, sym, ap, ◌∙◌}
use mathlib.Core.Bool.{Bool, true, false, cond, not, ◌&&◌, false≢true}
use mathlib.Core.List.{List, [], ◌∷◌}
use Prim.Native.Nat.{ℕ, ◌<◌}
use borrow.Author.Tests.{eqb-true}
use lib.Dec.{eqb, ltb}
use lib.ListN.{get_or}
use Rattle.table.specs.Codes.{rx_bw_codes, is_in}
use Rattle.rx_bw.specs.Width.{divisor, is_named, name_of, names, tenths}
use Rattle.rx_bw.proofs.Entries.{entry}

pub both : (x y : Bool) → x && y ≡ true → (x ≡ true) × (y ≡ true)
both true true e = (refl, refl)
both true false e = absurd (false≢true e)
both false y e = absurd (false≢true e)

abbrev pub all_of : (ℕ → Bool) → List ℕ → Bool
all_of p [] = true
all_of p (x ∷ xs) = p x && all_of p xs

pub all_in : (p : ℕ → Bool) (xs : List ℕ) → all_of p xs ≡ true → (c : ℕ) → is_in c xs ≡ true → p c ≡ true
unfolding is_in
all_in p [] h c i = absurd (false≢true i)
all_in p (x ∷ xs) h c i = by (eqb c x) refl i (all_in p xs (both (p x) (all_of p xs) h).1 c)
  where
    by : (b : Bool) → eqb c x ≡ b → cond b true (is_in c xs) ≡ true → (is_in c xs ≡ true → p c ≡ true) → p c ≡ true
    by true e j r = ap p (eqb-true c x e) ∙ (both (p x) (all_of p xs) h).0
    by false e j r = r j

-- ---- names

pub names_at : (c : ℕ) → c < 256 → get_or names c 0 ≡ name_of c
unfolding names
names_at c h = entry name_of 256 c h

pub named_in : (c : ℕ) → is_named c ≡ true → is_in c rx_bw_codes ≡ true
unfolding is_named
named_in c h = (both (ltb c 255) (is_in c rx_bw_codes) h).1

none-nameless : all_of (λ c. not (eqb (tenths (divisor c)) 0)) rx_bw_codes ≡ true
unfolding rx_bw_codes
none-nameless = refl

pub named-name : (c : ℕ) → is_named c ≡ not (eqb (name_of c) 0)
unfolding name_of
named-name c = by (is_named c) refl
  where
    by : (b : Bool) → is_named c ≡ b → b ≡ not (eqb (cond b (tenths (divisor c)) 0) 0)
    by true e = sym (all_in (λ (d : ℕ). not (eqb (tenths (divisor d)) 0)) rx_bw_codes none-nameless c (named_in c e))
    by false e = refl
