-- Made from docs/commands.json by docs/make_reference.py: the arms of cmd_common's rows. What an arm asks and gives is one law each
-- (proofs/Arms.antt); its place, length and fields are its row's by `refl`. Assumes nothing.
use mathlib.Core.Path.{◌≡◌, refl}
use mathlib.Core.List.{List}
use Prim.Native.Nat.{ℕ, ◌<◌, ◌≤◌}
use native.Mathlib.Omega.{arith}
use lib.ListN.{length}
use Rattle.frame.specs.Field.{sound}
use Rattle.table.specs.Number.{narrow_of}
use Rattle.table.specs.Table.{row_at, len_of}
use Rattle.table.proofs.Past.{Past, past}
use Rattle.decoder.specs.Words.{first_word}
use Rattle.decoder.proofs.Arms.{Arm, fits, asks, gives, nothing, only_wide}
use Rattle.decoder.proofs.rows.read_common.Goals as goal

-- the arm of the row at k, which has n bytes
row : {i : ℕ} {s : List ℕ} (k n : ℕ) → (23 ≤ i) × (i < 39) × (len_of (row_at i) ≡ length s) → i ≡ k → len_of (row_at k) ≡ n → Arm i k n s
row k n r e en = record { this = e; of-table = omega (arith, r.1); long = r.2; length-is = en }

-- what is matched last is the last place
end : {i : ℕ} → 23 ≤ i → i < 39 → Past 23 15 i → i ≡ 38
end low high p = omega (arith, past 23 15 _ low p, high)

pub last_of-requires : goal.last_of-requires
unfolding row_at first_word only_wide narrow_of sound
last_of-requires c = fits (row 23 6 c.requires c.in-23.is refl)

pub read_fields-requires : goal.read_fields-requires
unfolding row_at first_word only_wide narrow_of sound
read_fields-requires c = asks (row 23 6 c.requires c.in-23.is refl) _ refl _ _ refl c.last_of.ensures 0 0 (nothing _) tt

pub last_of-requires-in-24 : goal.last_of-requires-in-24
unfolding row_at first_word only_wide narrow_of sound
last_of-requires-in-24 c = fits (row 24 3 c.requires c.in-24.is refl)

pub read_fields-requires-in-24 : goal.read_fields-requires-in-24
unfolding row_at first_word only_wide narrow_of sound
read_fields-requires-in-24 c = asks (row 24 3 c.requires c.in-24.is refl) _ refl _ _ refl c.last_of-in-24.ensures 0 0 (nothing _) tt

pub last_of-requires-in-25 : goal.last_of-requires-in-25
unfolding row_at first_word only_wide narrow_of sound
last_of-requires-in-25 c = fits (row 25 4 c.requires c.in-25.is refl)

pub read_fields-requires-in-25 : goal.read_fields-requires-in-25
unfolding row_at first_word only_wide narrow_of sound
read_fields-requires-in-25 c = asks (row 25 4 c.requires c.in-25.is refl) _ refl _ _ refl c.last_of-in-25.ensures 0 0 (nothing _) tt

pub last_of-requires-in-26 : goal.last_of-requires-in-26
unfolding row_at first_word only_wide narrow_of sound
last_of-requires-in-26 c = fits (row 26 4 c.requires c.in-26.is refl)

pub read_fields-requires-in-26 : goal.read_fields-requires-in-26
unfolding row_at first_word only_wide narrow_of sound
read_fields-requires-in-26 c = asks (row 26 4 c.requires c.in-26.is refl) _ refl _ _ refl c.last_of-in-26.ensures 0 0 (nothing _) tt

pub last_of-requires-in-27 : goal.last_of-requires-in-27
unfolding row_at first_word only_wide narrow_of sound
last_of-requires-in-27 c = fits (row 27 5 c.requires c.in-27.is refl)

pub read_fields-requires-in-27 : goal.read_fields-requires-in-27
unfolding row_at first_word only_wide narrow_of sound
read_fields-requires-in-27 c = asks (row 27 5 c.requires c.in-27.is refl) _ refl _ _ refl c.last_of-in-27.ensures 0 0 (nothing _) tt

pub last_of-requires-in-28 : goal.last_of-requires-in-28
unfolding row_at first_word only_wide narrow_of sound
last_of-requires-in-28 c = fits (row 28 5 c.requires c.in-28.is refl)

pub read_fields-requires-in-28 : goal.read_fields-requires-in-28
unfolding row_at first_word only_wide narrow_of sound
read_fields-requires-in-28 c = asks (row 28 5 c.requires c.in-28.is refl) _ refl _ _ refl c.last_of-in-28.ensures 0 0 (nothing _) tt

pub last_of-requires-in-29 : goal.last_of-requires-in-29
unfolding row_at first_word only_wide narrow_of sound
last_of-requires-in-29 c = fits (row 29 5 c.requires c.in-29.is refl)

pub read_fields-requires-in-29 : goal.read_fields-requires-in-29
unfolding row_at first_word only_wide narrow_of sound
read_fields-requires-in-29 c = asks (row 29 5 c.requires c.in-29.is refl) _ refl _ _ refl c.last_of-in-29.ensures 0 0 (nothing _) tt

pub last_of-requires-in-30 : goal.last_of-requires-in-30
unfolding row_at first_word only_wide narrow_of sound
last_of-requires-in-30 c = fits (row 30 3 c.requires c.in-30.is refl)

pub read_fields-requires-in-30 : goal.read_fields-requires-in-30
unfolding row_at first_word only_wide narrow_of sound
read_fields-requires-in-30 c = asks (row 30 3 c.requires c.in-30.is refl) _ refl _ _ refl c.last_of-in-30.ensures 0 0 (nothing _) tt

pub first_of-requires : goal.first_of-requires
unfolding row_at first_word only_wide narrow_of sound
first_of-requires c = fits (row 31 9 c.requires c.in-31.is refl)

pub last_of-requires-in-31 : goal.last_of-requires-in-31
unfolding row_at first_word only_wide narrow_of sound
last_of-requires-in-31 c = fits (row 31 9 c.requires c.in-31.is refl)

pub read_fields-requires-in-31 : goal.read_fields-requires-in-31
unfolding row_at first_word only_wide narrow_of sound
read_fields-requires-in-31 c = asks (row 31 9 c.requires c.in-31.is refl) _ refl _ _ c.first_of.ensures c.last_of-in-31.ensures 0 0 (nothing _) tt

pub first_of-requires-in-32 : goal.first_of-requires-in-32
unfolding row_at first_word only_wide narrow_of sound
first_of-requires-in-32 c = fits (row 32 10 c.requires c.in-32.is refl)

pub last_of-requires-in-32 : goal.last_of-requires-in-32
unfolding row_at first_word only_wide narrow_of sound
last_of-requires-in-32 c = fits (row 32 10 c.requires c.in-32.is refl)

pub read_fields-requires-in-32 : goal.read_fields-requires-in-32
unfolding row_at first_word only_wide narrow_of sound
read_fields-requires-in-32 c = asks (row 32 10 c.requires c.in-32.is refl) _ refl _ _ c.first_of-in-32.ensures c.last_of-in-32.ensures 0 0 (nothing _) tt

pub last_of-requires-in-33 : goal.last_of-requires-in-33
unfolding row_at first_word only_wide narrow_of sound
last_of-requires-in-33 c = fits (row 33 8 c.requires c.in-33.is refl)

pub read_fields-requires-in-33 : goal.read_fields-requires-in-33
unfolding row_at first_word only_wide narrow_of sound
read_fields-requires-in-33 c = asks (row 33 8 c.requires c.in-33.is refl) _ refl _ _ refl c.last_of-in-33.ensures 0 0 (nothing _) tt

pub last_of-requires-in-34 : goal.last_of-requires-in-34
unfolding row_at first_word only_wide narrow_of sound
last_of-requires-in-34 c = fits (row 34 3 c.requires c.in-34.is refl)

pub read_fields-requires-in-34 : goal.read_fields-requires-in-34
unfolding row_at first_word only_wide narrow_of sound
read_fields-requires-in-34 c = asks (row 34 3 c.requires c.in-34.is refl) _ refl _ _ refl c.last_of-in-34.ensures 0 0 (nothing _) tt

pub last_of-requires-in-35 : goal.last_of-requires-in-35
unfolding row_at first_word only_wide narrow_of sound
last_of-requires-in-35 c = fits (row 35 5 c.requires c.in-35.is refl)

pub read_fields-requires-in-35 : goal.read_fields-requires-in-35
unfolding row_at first_word only_wide narrow_of sound
read_fields-requires-in-35 c = asks (row 35 5 c.requires c.in-35.is refl) _ refl _ _ refl c.last_of-in-35.ensures 0 0 (nothing _) tt

pub last_of-requires-in-36 : goal.last_of-requires-in-36
unfolding row_at first_word only_wide narrow_of sound
last_of-requires-in-36 c = fits (row 36 6 c.requires c.in-36.is refl)

pub read_fields-requires-in-36 : goal.read_fields-requires-in-36
unfolding row_at first_word only_wide narrow_of sound
read_fields-requires-in-36 c = asks (row 36 6 c.requires c.in-36.is refl) _ refl _ _ refl c.last_of-in-36.ensures 0 0 (nothing _) tt

pub last_of-requires-in-37 : goal.last_of-requires-in-37
unfolding row_at first_word only_wide narrow_of sound
last_of-requires-in-37 c = fits (row 37 3 c.requires c.in-37.is refl)

pub read_fields-requires-in-37 : goal.read_fields-requires-in-37
unfolding row_at first_word only_wide narrow_of sound
read_fields-requires-in-37 c = asks (row 37 3 c.requires c.in-37.is refl) _ refl _ _ refl c.last_of-in-37.ensures 0 0 (nothing _) tt

pub first_of-requires-in_default : goal.first_of-requires-in_default
unfolding row_at first_word only_wide narrow_of sound
first_of-requires-in_default c = fits (row 38 10 c.requires (end c.requires.0 c.requires.1 c.in_default.in_default-own.rest) refl)

pub last_of-requires-in_default : goal.last_of-requires-in_default
unfolding row_at first_word only_wide narrow_of sound
last_of-requires-in_default c = fits (row 38 10 c.requires (end c.requires.0 c.requires.1 c.in_default.in_default-own.rest) refl)

pub read_fields-requires-in_default : goal.read_fields-requires-in_default
unfolding row_at first_word only_wide narrow_of sound
read_fields-requires-in_default c =
    asks (row 38 10 c.requires (end c.requires.0 c.requires.1 c.in_default.in_default-own.rest) refl) _ refl _ _ c.first_of-in_default.ensures
    c.last_of-in_default.ensures 0 0 (nothing _) tt

pub returns-in-23 : goal.returns-in-23
unfolding row_at first_word only_wide narrow_of sound
returns-in-23 c = gives (row 23 6 c.requires c.in-23.is refl) _ refl _ _ refl c.last_of.ensures _ _ c.read_fields.ensures.0 c.read_fields.ensures.1

pub returns-in-24 : goal.returns-in-24
unfolding row_at first_word only_wide narrow_of sound
returns-in-24 c =
    gives (row 24 3 c.requires c.in-24.is refl) _ refl _ _ refl c.last_of-in-24.ensures _ _ c.read_fields-in-24.ensures.0 c.read_fields-in-24.ensures.1

pub returns-in-25 : goal.returns-in-25
unfolding row_at first_word only_wide narrow_of sound
returns-in-25 c =
    gives (row 25 4 c.requires c.in-25.is refl) _ refl _ _ refl c.last_of-in-25.ensures _ _ c.read_fields-in-25.ensures.0 c.read_fields-in-25.ensures.1

pub returns-in-26 : goal.returns-in-26
unfolding row_at first_word only_wide narrow_of sound
returns-in-26 c =
    gives (row 26 4 c.requires c.in-26.is refl) _ refl _ _ refl c.last_of-in-26.ensures _ _ c.read_fields-in-26.ensures.0 c.read_fields-in-26.ensures.1

pub returns-in-27 : goal.returns-in-27
unfolding row_at first_word only_wide narrow_of sound
returns-in-27 c =
    gives (row 27 5 c.requires c.in-27.is refl) _ refl _ _ refl c.last_of-in-27.ensures _ _ c.read_fields-in-27.ensures.0 c.read_fields-in-27.ensures.1

pub returns-in-28 : goal.returns-in-28
unfolding row_at first_word only_wide narrow_of sound
returns-in-28 c =
    gives (row 28 5 c.requires c.in-28.is refl) _ refl _ _ refl c.last_of-in-28.ensures _ _ c.read_fields-in-28.ensures.0 c.read_fields-in-28.ensures.1

pub returns-in-29 : goal.returns-in-29
unfolding row_at first_word only_wide narrow_of sound
returns-in-29 c =
    gives (row 29 5 c.requires c.in-29.is refl) _ refl _ _ refl c.last_of-in-29.ensures _ _ c.read_fields-in-29.ensures.0 c.read_fields-in-29.ensures.1

pub returns-in-30 : goal.returns-in-30
unfolding row_at first_word only_wide narrow_of sound
returns-in-30 c =
    gives (row 30 3 c.requires c.in-30.is refl) _ refl _ _ refl c.last_of-in-30.ensures _ _ c.read_fields-in-30.ensures.0 c.read_fields-in-30.ensures.1

pub returns-in-31 : goal.returns-in-31
unfolding row_at first_word only_wide narrow_of sound
returns-in-31 c =
    gives (row 31 9 c.requires c.in-31.is refl) _ refl _ _ c.first_of.ensures c.last_of-in-31.ensures _ _ c.read_fields-in-31.ensures.0
    c.read_fields-in-31.ensures.1

pub returns-in-32 : goal.returns-in-32
unfolding row_at first_word only_wide narrow_of sound
returns-in-32 c =
    gives (row 32 10 c.requires c.in-32.is refl) _ refl _ _ c.first_of-in-32.ensures c.last_of-in-32.ensures _ _ c.read_fields-in-32.ensures.0
    c.read_fields-in-32.ensures.1

pub returns-in-33 : goal.returns-in-33
unfolding row_at first_word only_wide narrow_of sound
returns-in-33 c =
    gives (row 33 8 c.requires c.in-33.is refl) _ refl _ _ refl c.last_of-in-33.ensures _ _ c.read_fields-in-33.ensures.0 c.read_fields-in-33.ensures.1

pub returns-in-34 : goal.returns-in-34
unfolding row_at first_word only_wide narrow_of sound
returns-in-34 c =
    gives (row 34 3 c.requires c.in-34.is refl) _ refl _ _ refl c.last_of-in-34.ensures _ _ c.read_fields-in-34.ensures.0 c.read_fields-in-34.ensures.1

pub returns-in-35 : goal.returns-in-35
unfolding row_at first_word only_wide narrow_of sound
returns-in-35 c =
    gives (row 35 5 c.requires c.in-35.is refl) _ refl _ _ refl c.last_of-in-35.ensures _ _ c.read_fields-in-35.ensures.0 c.read_fields-in-35.ensures.1

pub returns-in-36 : goal.returns-in-36
unfolding row_at first_word only_wide narrow_of sound
returns-in-36 c =
    gives (row 36 6 c.requires c.in-36.is refl) _ refl _ _ refl c.last_of-in-36.ensures _ _ c.read_fields-in-36.ensures.0 c.read_fields-in-36.ensures.1

pub returns-in-37 : goal.returns-in-37
unfolding row_at first_word only_wide narrow_of sound
returns-in-37 c =
    gives (row 37 3 c.requires c.in-37.is refl) _ refl _ _ refl c.last_of-in-37.ensures _ _ c.read_fields-in-37.ensures.0 c.read_fields-in-37.ensures.1

pub returns-in_default : goal.returns-in_default
unfolding row_at first_word only_wide narrow_of sound
returns-in_default c =
    gives (row 38 10 c.requires (end c.requires.0 c.requires.1 c.in_default.in_default-own.rest) refl) _ refl _ _ c.first_of-in_default.ensures
    c.last_of-in_default.ensures _ _ c.read_fields-in_default.ensures.0 c.read_fields-in_default.ensures.1
