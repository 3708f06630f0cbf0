-- A number in decimal, as the bytes of its digits.
-- Assumes nothing.
use Rattle.std.specs.Prelude.{ℕ, zero, suc, ◌+◌, ◌/◌, ◌%◌, cond, List, [], ◌∷◌, ◌++◌, nat_lt}

-- the byte of the last digit of n; 48 is '0'
abbrev pub digit : ℕ → ℕ
digit n = 48 + n % 10

-- the digits of n, first digit first, `most` of them at the most: those of n / 10 if n has more than one, and the last one
unfoldable pub digits : ℕ → ℕ → List ℕ
digits zero n = []
digits (suc most) n = cond (nat_lt n 10) [] (digits most (n / 10)) ++ (digit n ∷ [])

-- the digits of n, without leading zeros: all of them for n below 10 ^ 20, so for every number of 64 bits
unfoldable pub decimal : ℕ → List ℕ
decimal n = digits 20 n
