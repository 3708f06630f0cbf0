-- Which arguments a field takes, from the checked builder and from the plain one. Assumes nothing.
use Rattle.std.specs.Prelude.{ℕ, ◌^◌, Bool, true, cond, ◌&&◌, ltb}
use Rattle.table.specs.Number.{narrow_of, plain_of, is_code, codes_of}
use Rattle.table.specs.Codes.{takes}

-- v has at most w bits, and the field c takes it
abbrev pub fits : ℕ → ℕ → ℕ → Bool
fits w c v = ltb v (2 ^ w) && takes (codes_of c) v

-- the checked builder takes for the field c what fits it and what its enum has, or its limit allows (REFERENCE, "Checked builder")
abbrev pub allows : ℕ → ℕ → Bool
allows c v = fits (narrow_of c).w c v

-- the plain builder takes any number, whatever its limit, or a code that the field's enum has (REFERENCE, "Plain builder")
abbrev pub accepts : ℕ → ℕ → Bool
accepts c v = cond (is_code c) (fits (plain_of c).w c v) true
