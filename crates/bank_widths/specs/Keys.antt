-- How the source goes by the rule (REFERENCE, "Widths for banks"): a listed code and its divisor as one number, its key, and the greatest key up to a
-- limit. proofs/Search.antt shows that it is the right code's.
-- Assumes nothing.
use Rattle.std.specs.Prelude.{ℕ, zero, suc, ◌+◌, ◌*◌, ◌/◌, ◌-◌, ◌^◌, cond, List, [], ◌∷◌, ◌++◌, eqb, ltb, Option, Some, None}
use Rattle.rx_bw.specs.Width.{divisor, is_named}
use Rattle.width_rule.specs.Rule.{is_served, right_for}

-- a code behind its divisor
unfoldable pub key_of : ℕ → ℕ
key_of c = divisor c * 256 + c

-- the keys of the listed codes below c, but for `BwAuto`, in ascending order of codes
unfoldable pub keys_below : ℕ → List ℕ
keys_below zero = []
keys_below (suc c) = keys_below c ++ cond (is_named c) (key_of c ∷ []) []

-- those of all listed codes
unfoldable pub listed_keys : List ℕ
listed_keys = keys_below 256

-- a key instead of the best so far, where it is greater and not past the limit
unfoldable pub better : ℕ → ℕ → ℕ → ℕ
better limit best key = cond (ltb limit key) best (cond (ltb best key) key best)

-- the best of these keys and of the one so far
unfoldable pub greatest : ℕ → ℕ → List ℕ → ℕ
greatest limit best [] = best
greatest limit best (k ∷ ks) = greatest limit (better limit best k) ks

-- the greatest key whose divisor is at most 40 MHz over the need
unfoldable pub limit_of : ℕ → ℕ
limit_of need = cond (eqb need 0) (2 ^ 64 - 1) (40000000 / need * 256 + 255)

-- the right code for a need, or that there is none
unfoldable pub choice_for : ℕ → Option ℕ
choice_for need = cond (is_served need) (Some (right_for need)) None
