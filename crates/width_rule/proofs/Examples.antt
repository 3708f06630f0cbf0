-- Worked needs and codes, each with whether the code is right. Names would mislead in several: code 231 is named 3.5 kHz and is narrower than 3,473 Hz,
-- code 165 is named 16 kHz and is wider than 16,030 Hz, and code 2, which is not listed, would have the width of code 24.
-- Assumes nothing.
use mathlib.Core.Path.{◌≡◌, refl}
use mathlib.Core.Bool.{Bool, true, false}
use mathlib.Core.List.{List, [], ◌∷◌}
use Prim.Native.Nat.{ℕ}
use Rattle.table.specs.Codes.{is_in, rx_bw_codes}
use Rattle.rx_bw.specs.Width.{is_named}
use Rattle.width_rule.specs.Rule.{is_right, none_narrower, right_for, right_in, suffices}

record Case : Type 0 where
  need : ℕ
  code : ℕ
  right : Bool

abbrev given : ℕ → ℕ → Bool → Case
given n c r = record { need = n; code = c; right = r }

abbrev answers : List Case → List Bool
answers [] = []
answers (c ∷ cs) = is_right c.need c.code ∷ answers cs

abbrev expected : List Case → List Bool
expected [] = []
expected (c ∷ cs) = c.right ∷ expected cs

abbrev cases : List Case
cases =
    -- the narrowest
    given 0 231 true
    ∷ given 3472 231 true
    -- a name that promises too much
    ∷ given 3473 231 false
    ∷ given 3473 167 true
    -- one that promises too little, and the next wider width
    ∷ given 16030 165 true
    ∷ given 16030 101 false
    -- a code of the right width that is not listed
    ∷ given 769230 24 true
    ∷ given 769230 2 false
    -- `BwAuto`
    ∷ given 0 255 false
    -- the widest, and one Hz more
    ∷ given 3076923 0 true
    ∷ given 3076924 0 false
    ∷ []

pub examples : answers cases ≡ expected cases
unfolding is_in is_named is_right none_narrower rx_bw_codes suffices
examples = refl

pub found : right_for 3473 ≡ 167
unfolding is_in is_named is_right none_narrower right_for right_in rx_bw_codes suffices
found = refl
