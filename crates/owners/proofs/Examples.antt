-- Owner tables computed (REFERENCE, "Two sides"): beside 29 slots with room for 11 bytes of frames, what is right and what is not by one entry, one
-- owner, one form or one byte; and which numbers are sides.
-- Assumes nothing.
use mathlib.Core.Path.{refl, ◌≡◌}
use mathlib.Core.Bool.{Bool, false, true}
use mathlib.Core.List.{List}
use Prim.Native.Nat.{ℕ}
use lib.ListN.{replicate, set}
use Rattle.settings.specs.Settings.{slot_for}
use Rattle.owners.specs.Owners.{all_first, each_side, is_side, joined, joined_in, owner_table, spare_first, table_right}

-- a table with these owners and quotas
abbrev pub right : List ℕ → ℕ → ℕ → Bool
right ws a b = table_right 29 11 (owner_table ws a b)

-- n entries of side 1
abbrev pub first : ℕ → List ℕ
first n = replicate n 1

-- the same with the owner w for the kind k
abbrev pub given : ℕ → ℕ → List ℕ → List ℕ
given k w ws = set ws (slot_for k) w

pub right-count : (right (first 28) 7 4 ≡ false) × (right (first 29) 7 4 ≡ true) × (right (first 30) 7 4 ≡ false)
unfolding table_right each_side is_side spare_first all_first joined joined_in slot_for
right-count = (refl, refl, refl)

pub right-owner :
    (right (given 4 0 (first 29)) 7 4 ≡ false) × (right (given 4 1 (first 29)) 7 4 ≡ true) × (right (given 4 2 (first 29)) 7 4 ≡ true)
    × (right (given 4 3 (first 29)) 7 4 ≡ false)
unfolding table_right each_side is_side spare_first all_first joined joined_in slot_for
right-owner = (refl, refl, refl, refl)

-- the two forms of a setting, split and with one owner
pub right-forms :
    (right (given 5 2 (first 29)) 7 4 ≡ false) × (right (given 6 2 (given 5 2 (first 29))) 7 4 ≡ true)
    × (right (given 25 2 (first 29)) 7 4 ≡ false) × (right (given 26 2 (given 25 2 (first 29))) 7 4 ≡ true)
    × (right (given 27 2 (first 29)) 7 4 ≡ false) × (right (given 28 2 (given 27 2 (first 29))) 7 4 ≡ true)
unfolding table_right each_side is_side spare_first all_first joined joined_in slot_for
right-forms = (refl, refl, refl, refl, refl, refl)

-- kinds 14 and 15 are two settings
pub right-apart : (right (given 14 2 (first 29)) 7 4 ≡ true) × (right (given 15 2 (first 29)) 7 4 ≡ true)
unfolding table_right each_side is_side spare_first all_first joined joined_in slot_for
right-apart = (refl, refl)

-- the sum of the quotas, and not each for itself; nor what 64 bits keep of it
pub right-quotas :
    (right (first 29) 7 4 ≡ true) × (right (first 29) 7 5 ≡ false) × (right (first 29) 8 4 ≡ false) × (right (first 29) 0 11 ≡ true)
    × (right (first 29) 11 0 ≡ true) × (right (first 29) 12 0 ≡ false) × (right (first 29) 0xFFFFFFFFFFFFFFFF 12 ≡ false)
unfolding table_right each_side is_side spare_first all_first joined joined_in slot_for
right-quotas = (refl, refl, refl, refl, refl, refl, refl)

-- a thirtieth slot, which no setting has, is side 1's
pub right-thirtieth : (table_right 30 11 (owner_table (first 30) 7 4) ≡ true) × (table_right 30 11 (owner_table (set (first 30) 29 2) 7 4) ≡ false)
unfolding table_right each_side is_side spare_first all_first joined joined_in slot_for
right-thirtieth = (refl, refl)

pub side-numbers : (is_side 0 ≡ false) × (is_side 1 ≡ true) × (is_side 2 ≡ true) × (is_side 3 ≡ false)
unfolding is_side
side-numbers = (refl, refl, refl, refl)
