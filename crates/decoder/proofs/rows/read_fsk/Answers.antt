-- Made from docs/commands.json by docs/make_reference.py: the arms of cmd_fsk's rows. What an arm asks and gives is one law each
-- (proofs/Arms.antt); its place, length and fields are its row's by `refl`. Assumes nothing.
use mathlib.Core.Path.{◌≡◌, refl}
use mathlib.Core.List.{List}
use Prim.Native.Nat.{ℕ, ◌<◌, ◌≤◌}
use native.Mathlib.Omega.{arith}
use lib.ListN.{get_or, length}
use Rattle.frame.specs.Field.{sound}
use Rattle.table.specs.Number.{narrow_of}
use Rattle.table.specs.Table.{row_at, len_of}
use Rattle.table.proofs.Past.{Past, past}
use Rattle.decoder.specs.Words.{first_word}
use Rattle.decoder.proofs.Arms.{Arm, fits, asks, gives, got, nothing, only_wide}
use Rattle.decoder.proofs.rows.read_fsk.Goals as goal

-- the arm of the row at k, which has n bytes
row : {i : ℕ} {s : List ℕ} (k n : ℕ) → (15 ≤ i) × (i < 23) × (len_of (row_at i) ≡ length s) → i ≡ k → len_of (row_at k) ≡ n → Arm i k n s
row k n r e en = record { this = e; of-table = omega (arith, r.1); long = r.2; length-is = en }

-- what is matched last is the last place
end : {i : ℕ} → 15 ≤ i → i < 23 → Past 15 7 i → i ≡ 22
end low high p = omega (arith, past 15 7 _ low p, high)

pub first_of-requires : goal.first_of-requires
unfolding row_at first_word only_wide narrow_of sound
first_of-requires c = fits (row 15 11 c.requires c.in-15.is refl)

pub last_of-requires : goal.last_of-requires
unfolding row_at first_word only_wide narrow_of sound
last_of-requires c = fits (row 15 11 c.requires c.in-15.is refl)

pub read_fields-requires : goal.read_fields-requires
unfolding row_at first_word only_wide narrow_of sound
read_fields-requires c = asks (row 15 11 c.requires c.in-15.is refl) _ refl _ _ c.first_of.ensures c.last_of.ensures 0 0 (nothing _) tt

pub first_of-requires-in-16 : goal.first_of-requires-in-16
unfolding row_at first_word only_wide narrow_of sound
first_of-requires-in-16 c = fits (row 16 9 c.requires c.in-16.is refl)

pub last_of-requires-in-16 : goal.last_of-requires-in-16
unfolding row_at first_word only_wide narrow_of sound
last_of-requires-in-16 c = fits (row 16 9 c.requires c.in-16.is refl)

pub read_fields-requires-in-16 : goal.read_fields-requires-in-16
unfolding row_at first_word only_wide narrow_of sound
read_fields-requires-in-16 c = asks (row 16 9 c.requires c.in-16.is refl) _ refl _ _ c.first_of-in-16.ensures c.last_of-in-16.ensures 0 0 (nothing _) tt

pub last_of-requires-in-17 : goal.last_of-requires-in-17
unfolding row_at first_word only_wide narrow_of sound
last_of-requires-in-17 c = fits (row 17 4 c.requires c.in-17.is refl)

pub read_fields-requires-in-17 : goal.read_fields-requires-in-17
unfolding row_at first_word only_wide narrow_of sound
read_fields-requires-in-17 c = asks (row 17 4 c.requires c.in-17.is refl) _ refl _ _ refl c.last_of-in-17.ensures 0 0 (nothing _) tt

pub first_of-requires-in-18 : goal.first_of-requires-in-18
unfolding row_at first_word only_wide narrow_of sound
first_of-requires-in-18 c = fits (row 18 10 c.requires c.in-18.is refl)

pub last_of-requires-in-18 : goal.last_of-requires-in-18
unfolding row_at first_word only_wide narrow_of sound
last_of-requires-in-18 c = fits (row 18 10 c.requires c.in-18.is refl)

pub read_fields-requires-in-18 : goal.read_fields-requires-in-18
unfolding row_at first_word only_wide narrow_of sound
read_fields-requires-in-18 c = asks (row 18 10 c.requires c.in-18.is refl) _ refl _ _ c.first_of-in-18.ensures c.last_of-in-18.ensures 0 0 (nothing _) tt

pub first_of-requires-in-19 : goal.first_of-requires-in-19
unfolding row_at first_word only_wide narrow_of sound
first_of-requires-in-19 c = fits (row 19 11 c.requires c.in-19.is refl)

pub last_of-requires-in-19 : goal.last_of-requires-in-19
unfolding row_at first_word only_wide narrow_of sound
last_of-requires-in-19 c = fits (row 19 11 c.requires c.in-19.is refl)

pub read_fields-requires-in-19 : goal.read_fields-requires-in-19
unfolding row_at first_word only_wide narrow_of sound
read_fields-requires-in-19 c =
    asks (row 19 11 c.requires c.in-19.is refl) _ refl _ _ c.first_of-in-19.ensures c.last_of-in-19.ensures _ (get_or (row_at 19) 4 0) (got (get_or (row_at 19)
    4 0) _ _ c.narrow_field.ensures tt _ c.get.ensures) tt

pub last_of-requires-in-20 : goal.last_of-requires-in-20
unfolding row_at first_word only_wide narrow_of sound
last_of-requires-in-20 c = fits (row 20 4 c.requires c.in-20.is refl)

pub read_fields-requires-in-20 : goal.read_fields-requires-in-20
unfolding row_at first_word only_wide narrow_of sound
read_fields-requires-in-20 c = asks (row 20 4 c.requires c.in-20.is refl) _ refl _ _ refl c.last_of-in-20.ensures 0 0 (nothing _) tt

pub last_of-requires-in-21 : goal.last_of-requires-in-21
unfolding row_at first_word only_wide narrow_of sound
last_of-requires-in-21 c = fits (row 21 2 c.requires c.in-21.is refl)

pub read_fields-requires-in-21 : goal.read_fields-requires-in-21
unfolding row_at first_word only_wide narrow_of sound
read_fields-requires-in-21 c = asks (row 21 2 c.requires c.in-21.is refl) _ refl _ _ refl c.last_of-in-21.ensures 0 0 (nothing _) tt

pub last_of-requires-in_default : goal.last_of-requires-in_default
unfolding row_at first_word only_wide narrow_of sound
last_of-requires-in_default c = fits (row 22 2 c.requires (end c.requires.0 c.requires.1 c.in_default.in_default-own.rest) refl)

pub read_fields-requires-in_default : goal.read_fields-requires-in_default
unfolding row_at first_word only_wide narrow_of sound
read_fields-requires-in_default c =
    asks (row 22 2 c.requires (end c.requires.0 c.requires.1 c.in_default.in_default-own.rest) refl) _ refl _ _ refl c.last_of-in_default.ensures 0 0 (nothing
    _) tt

pub returns-in-15 : goal.returns-in-15
unfolding row_at first_word only_wide narrow_of sound
returns-in-15 c =
    gives (row 15 11 c.requires c.in-15.is refl) _ refl _ _ c.first_of.ensures c.last_of.ensures _ _ c.read_fields.ensures.0 c.read_fields.ensures.1

pub returns-in-16 : goal.returns-in-16
unfolding row_at first_word only_wide narrow_of sound
returns-in-16 c =
    gives (row 16 9 c.requires c.in-16.is refl) _ refl _ _ c.first_of-in-16.ensures c.last_of-in-16.ensures _ _ c.read_fields-in-16.ensures.0
    c.read_fields-in-16.ensures.1

pub returns-in-17 : goal.returns-in-17
unfolding row_at first_word only_wide narrow_of sound
returns-in-17 c =
    gives (row 17 4 c.requires c.in-17.is refl) _ refl _ _ refl c.last_of-in-17.ensures _ _ c.read_fields-in-17.ensures.0 c.read_fields-in-17.ensures.1

pub returns-in-18 : goal.returns-in-18
unfolding row_at first_word only_wide narrow_of sound
returns-in-18 c =
    gives (row 18 10 c.requires c.in-18.is refl) _ refl _ _ c.first_of-in-18.ensures c.last_of-in-18.ensures _ _ c.read_fields-in-18.ensures.0
    c.read_fields-in-18.ensures.1

pub returns-in-19 : goal.returns-in-19
unfolding row_at first_word only_wide narrow_of sound
returns-in-19 c =
    gives (row 19 11 c.requires c.in-19.is refl) _ refl _ _ c.first_of-in-19.ensures c.last_of-in-19.ensures _ _ c.read_fields-in-19.ensures.0
    c.read_fields-in-19.ensures.1

pub returns-in-20 : goal.returns-in-20
unfolding row_at first_word only_wide narrow_of sound
returns-in-20 c =
    gives (row 20 4 c.requires c.in-20.is refl) _ refl _ _ refl c.last_of-in-20.ensures _ _ c.read_fields-in-20.ensures.0 c.read_fields-in-20.ensures.1

pub returns-in-21 : goal.returns-in-21
unfolding row_at first_word only_wide narrow_of sound
returns-in-21 c =
    gives (row 21 2 c.requires c.in-21.is refl) _ refl _ _ refl c.last_of-in-21.ensures _ _ c.read_fields-in-21.ensures.0 c.read_fields-in-21.ensures.1

pub returns-in_default : goal.returns-in_default
unfolding row_at first_word only_wide narrow_of sound
returns-in_default c =
    gives (row 22 2 c.requires (end c.requires.0 c.requires.1 c.in_default.in_default-own.rest) refl) _ refl _ _ refl c.last_of-in_default.ensures _ _
    c.read_fields-in_default.ensures.0 c.read_fields-in_default.ensures.1
