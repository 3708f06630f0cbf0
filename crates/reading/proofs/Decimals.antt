-- The laws of a number's digits. First the two steps by which they are printed: `decimal-one`, `decimal-more`.
-- Then that they are the right ones: they stand for the number (`decimal-value`), and are no more than it needs (`decimal-length`).
-- Assumes nothing.
use Rattle.std.proofs.Common.{◌≡◌, ℕ, zero, suc, ◌+◌, ◌-◌, ◌*◌, ◌/◌, ◌^◌, ◌<◌, ◌≤◌, Bool, true, false, cond}
use Rattle.std.proofs.Common.{ltb, List, [], ◌∷◌, ◌++◌, length, sym, refl, ap, ◌∙◌, pow-suc, arith, length-append, ltb-true, le-ltb, lt-ltb}
use Rattle.reading.specs.Decimal.{digit, digits, decimal}

-- room for one digit more than a number has changes nothing
spare : (k n : ℕ) → n < 10 ^ suc k → digits (suc (suc k)) n ≡ digits (suc k) n
unfolding digits
spare zero n h = simp (lt-ltb n 10 h)
spare (suc k) n h =
    ap (λ (l : List ℕ). cond (ltb n 10) [] l ++ (digit n ∷ []))
    (spare k (n / 10) (omega (arith, pow-suc 10 (suc k))))

pub decimal-one : (n : ℕ) → n < 10 → decimal n ≡ digit n ∷ []
unfolding decimal digits
decimal-one n h = simp (lt-ltb n 10 h)

pub decimal-more : (n : ℕ) → 10 ≤ n → n < 10 ^ 20 → decimal n ≡ decimal (n / 10) ++ (digit n ∷ [])
unfolding decimal digits
decimal-more n h b =
    simp (le-ltb n 10 h)
    (ap (λ (l : List ℕ). l ++ (digit n ∷ [])) (sym (spare 18 (n / 10) (omega arith))))

-- the number that digits stand for, behind those that stand for a
abbrev pub value_from : ℕ → List ℕ → ℕ
value_from a [] = a
value_from a (d ∷ l) = value_from (10 * a + (d - 48)) l

value-last : (a : ℕ) (l : List ℕ) (d : ℕ) → value_from a (l ++ (d ∷ [])) ≡ 10 * value_from a l + (d - 48)
value-last a [] d = refl
value-last a (x ∷ l) d = value-last (10 * a + (x - 48)) l d

digits_value : (k n : ℕ) → n < 10 ^ k → value_from 0 (digits k n) ≡ n
unfolding digits
digits_value zero n h = omega arith
digits_value (suc k) n h =
    by (ltb n 10) refl (digits_value k (n / 10) (omega (arith, pow-suc 10 k)))
  where
    by : (b : Bool) → ltb n 10 ≡ b → value_from 0 (digits k (n / 10)) ≡ n / 10 → value_from 0 (cond b [] (digits k (n / 10)) ++ (digit n ∷ [])) ≡ n
    by true e ih = omega (arith, ltb-true)
    by false e ih = value-last 0 (digits k (n / 10)) (digit n) ∙ omega arith

pub decimal-value : (n : ℕ) → n < 10 ^ 20 → value_from 0 (decimal n) ≡ n
unfolding decimal
decimal-value n h = digits_value 20 n h

digits-length : (m k n : ℕ) → n < 10 ^ suc k → length (digits m n) ≤ suc k
unfolding digits
digits-length zero k n h = omega arith
digits-length (suc m) zero n h = simp (lt-ltb n 10 h) (omega arith)
digits-length (suc m) (suc k) n h =
    by (ltb n 10) (digits-length m k (n / 10) (omega (arith, pow-suc 10 (suc k))))
  where
    by : (b : Bool) → length (digits m (n / 10)) ≤ suc k → length (cond b [] (digits m (n / 10)) ++ (digit n ∷ [])) ≤ suc (suc k)
    by true ih = omega arith
    by false ih = simp length-append (omega arith)

pub decimal-length : (k n : ℕ) → n < 10 ^ suc k → length (decimal n) ≤ suc k
unfolding decimal
decimal-length k n h = digits-length 20 k n h
