-- Made from docs/commands.json by docs/make_reference.py: the arms of cmd_lora's rows. What an arm asks and gives is one law each
-- (proofs/Arms.antt); its place, length and fields are its row's by `refl`. Assumes nothing.
use mathlib.Core.Path.{◌≡◌, refl}
use mathlib.Core.List.{List}
use Prim.Native.Nat.{ℕ, ◌<◌, ◌≤◌}
use native.Mathlib.Omega.{arith}
use lib.ListN.{get_or, length}
use Rattle.frame.specs.Field.{sound}
use Rattle.table.specs.Number.{narrow_of}
use Rattle.table.specs.Table.{row_at, len_of}
use Rattle.table.proofs.Past.{Past, past}
use Rattle.decoder.specs.Words.{first_word}
use Rattle.decoder.proofs.Arms.{Arm, fits, asks, gives, got, nothing, only_wide}
use Rattle.decoder.proofs.rows.read_lora.Goals as goal

-- the arm of the row at k, which has n bytes
row : {i : ℕ} {s : List ℕ} (k n : ℕ) → (0 ≤ i) × (i < 15) × (len_of (row_at i) ≡ length s) → i ≡ k → len_of (row_at k) ≡ n → Arm i k n s
row k n r e en = record { this = e; of-table = omega (arith, r.1); long = r.2; length-is = en }

-- what is matched last is the last place
end : {i : ℕ} → 0 ≤ i → i < 15 → Past 0 14 i → i ≡ 14
end low high p = omega (arith, past 0 14 _ low p, high)

pub last_of-requires : goal.last_of-requires
unfolding row_at first_word only_wide narrow_of sound
last_of-requires c = fits (row 0 4 c.requires c.in-0.is refl)

pub read_fields-requires : goal.read_fields-requires
unfolding row_at first_word only_wide narrow_of sound
read_fields-requires c = asks (row 0 4 c.requires c.in-0.is refl) _ refl _ _ refl c.last_of.ensures 0 0 (nothing _) tt

pub last_of-requires-in-1 : goal.last_of-requires-in-1
unfolding row_at first_word only_wide narrow_of sound
last_of-requires-in-1 c = fits (row 1 6 c.requires c.in-1.is refl)

pub read_fields-requires-in-1 : goal.read_fields-requires-in-1
unfolding row_at first_word only_wide narrow_of sound
read_fields-requires-in-1 c = asks (row 1 6 c.requires c.in-1.is refl) _ refl _ _ refl c.last_of-in-1.ensures 0 0 (nothing _) tt

pub last_of-requires-in-2 : goal.last_of-requires-in-2
unfolding row_at first_word only_wide narrow_of sound
last_of-requires-in-2 c = fits (row 2 4 c.requires c.in-2.is refl)

pub read_fields-requires-in-2 : goal.read_fields-requires-in-2
unfolding row_at first_word only_wide narrow_of sound
read_fields-requires-in-2 c = asks (row 2 4 c.requires c.in-2.is refl) _ refl _ _ refl c.last_of-in-2.ensures 0 0 (nothing _) tt

pub last_of-requires-in-3 : goal.last_of-requires-in-3
unfolding row_at first_word only_wide narrow_of sound
last_of-requires-in-3 c = fits (row 3 3 c.requires c.in-3.is refl)

pub read_fields-requires-in-3 : goal.read_fields-requires-in-3
unfolding row_at first_word only_wide narrow_of sound
read_fields-requires-in-3 c = asks (row 3 3 c.requires c.in-3.is refl) _ refl _ _ refl c.last_of-in-3.ensures 0 0 (nothing _) tt

pub last_of-requires-in-4 : goal.last_of-requires-in-4
unfolding row_at first_word only_wide narrow_of sound
last_of-requires-in-4 c = fits (row 4 8 c.requires c.in-4.is refl)

pub read_fields-requires-in-4 : goal.read_fields-requires-in-4
unfolding row_at first_word only_wide narrow_of sound
read_fields-requires-in-4 c = asks (row 4 8 c.requires c.in-4.is refl) _ refl _ _ refl c.last_of-in-4.ensures 0 0 (nothing _) tt

pub first_of-requires : goal.first_of-requires
unfolding row_at first_word only_wide narrow_of sound
first_of-requires c = fits (row 5 12 c.requires c.in-5.is refl)

pub last_of-requires-in-5 : goal.last_of-requires-in-5
unfolding row_at first_word only_wide narrow_of sound
last_of-requires-in-5 c = fits (row 5 12 c.requires c.in-5.is refl)

pub read_fields-requires-in-5 : goal.read_fields-requires-in-5
unfolding row_at first_word only_wide narrow_of sound
read_fields-requires-in-5 c = asks (row 5 12 c.requires c.in-5.is refl) _ refl _ _ c.first_of.ensures c.last_of-in-5.ensures 0 0 (nothing _) tt

pub first_of-requires-in-6 : goal.first_of-requires-in-6
unfolding row_at first_word only_wide narrow_of sound
first_of-requires-in-6 c = fits (row 6 9 c.requires c.in-6.is refl)

pub last_of-requires-in-6 : goal.last_of-requires-in-6
unfolding row_at first_word only_wide narrow_of sound
last_of-requires-in-6 c = fits (row 6 9 c.requires c.in-6.is refl)

pub read_fields-requires-in-6 : goal.read_fields-requires-in-6
unfolding row_at first_word only_wide narrow_of sound
read_fields-requires-in-6 c = asks (row 6 9 c.requires c.in-6.is refl) _ refl _ _ c.first_of-in-6.ensures c.last_of-in-6.ensures 0 0 (nothing _) tt

pub last_of-requires-in-7 : goal.last_of-requires-in-7
unfolding row_at first_word only_wide narrow_of sound
last_of-requires-in-7 c = fits (row 7 2 c.requires c.in-7.is refl)

pub read_fields-requires-in-7 : goal.read_fields-requires-in-7
unfolding row_at first_word only_wide narrow_of sound
read_fields-requires-in-7 c = asks (row 7 2 c.requires c.in-7.is refl) _ refl _ _ refl c.last_of-in-7.ensures 0 0 (nothing _) tt

pub last_of-requires-in-8 : goal.last_of-requires-in-8
unfolding row_at first_word only_wide narrow_of sound
last_of-requires-in-8 c = fits (row 8 2 c.requires c.in-8.is refl)

pub read_fields-requires-in-8 : goal.read_fields-requires-in-8
unfolding row_at first_word only_wide narrow_of sound
read_fields-requires-in-8 c = asks (row 8 2 c.requires c.in-8.is refl) _ refl _ _ refl c.last_of-in-8.ensures 0 0 (nothing _) tt

pub last_of-requires-in-9 : goal.last_of-requires-in-9
unfolding row_at first_word only_wide narrow_of sound
last_of-requires-in-9 c = fits (row 9 2 c.requires c.in-9.is refl)

pub read_fields-requires-in-9 : goal.read_fields-requires-in-9
unfolding row_at first_word only_wide narrow_of sound
read_fields-requires-in-9 c = asks (row 9 2 c.requires c.in-9.is refl) _ refl _ _ refl c.last_of-in-9.ensures 0 0 (nothing _) tt

pub first_of-requires-in-10 : goal.first_of-requires-in-10
unfolding row_at first_word only_wide narrow_of sound
first_of-requires-in-10 c = fits (row 10 11 c.requires c.in-10.is refl)

pub last_of-requires-in-10 : goal.last_of-requires-in-10
unfolding row_at first_word only_wide narrow_of sound
last_of-requires-in-10 c = fits (row 10 11 c.requires c.in-10.is refl)

pub read_fields-requires-in-10 : goal.read_fields-requires-in-10
unfolding row_at first_word only_wide narrow_of sound
read_fields-requires-in-10 c =
    asks (row 10 11 c.requires c.in-10.is refl) _ refl _ _ c.first_of-in-10.ensures c.last_of-in-10.ensures _ (get_or (row_at 10) 6 0) (got (get_or (row_at 10)
    6 0) _ _ c.narrow_field.ensures tt _ c.get.ensures) tt

pub last_of-requires-in-11 : goal.last_of-requires-in-11
unfolding row_at first_word only_wide narrow_of sound
last_of-requires-in-11 c = fits (row 11 4 c.requires c.in-11.is refl)

pub read_fields-requires-in-11 : goal.read_fields-requires-in-11
unfolding row_at first_word only_wide narrow_of sound
read_fields-requires-in-11 c = asks (row 11 4 c.requires c.in-11.is refl) _ refl _ _ refl c.last_of-in-11.ensures 0 0 (nothing _) tt

pub last_of-requires-in-12 : goal.last_of-requires-in-12
unfolding row_at first_word only_wide narrow_of sound
last_of-requires-in-12 c = fits (row 12 8 c.requires c.in-12.is refl)

pub read_fields-requires-in-12 : goal.read_fields-requires-in-12
unfolding row_at first_word only_wide narrow_of sound
read_fields-requires-in-12 c = asks (row 12 8 c.requires c.in-12.is refl) _ refl _ _ refl c.last_of-in-12.ensures 0 0 (nothing _) tt

pub last_of-requires-in-13 : goal.last_of-requires-in-13
unfolding row_at first_word only_wide narrow_of sound
last_of-requires-in-13 c = fits (row 13 3 c.requires c.in-13.is refl)

pub read_fields-requires-in-13 : goal.read_fields-requires-in-13
unfolding row_at first_word only_wide narrow_of sound
read_fields-requires-in-13 c = asks (row 13 3 c.requires c.in-13.is refl) _ refl _ _ refl c.last_of-in-13.ensures 0 0 (nothing _) tt

pub last_of-requires-in_default : goal.last_of-requires-in_default
unfolding row_at first_word only_wide narrow_of sound
last_of-requires-in_default c = fits (row 14 4 c.requires (end c.requires.0 c.requires.1 c.in_default.in_default-own.rest) refl)

pub read_fields-requires-in_default : goal.read_fields-requires-in_default
unfolding row_at first_word only_wide narrow_of sound
read_fields-requires-in_default c =
    asks (row 14 4 c.requires (end c.requires.0 c.requires.1 c.in_default.in_default-own.rest) refl) _ refl _ _ refl c.last_of-in_default.ensures 0 0 (nothing
    _) tt

pub returns-in-0 : goal.returns-in-0
unfolding row_at first_word only_wide narrow_of sound
returns-in-0 c = gives (row 0 4 c.requires c.in-0.is refl) _ refl _ _ refl c.last_of.ensures _ _ c.read_fields.ensures.0 c.read_fields.ensures.1

pub returns-in-1 : goal.returns-in-1
unfolding row_at first_word only_wide narrow_of sound
returns-in-1 c = gives (row 1 6 c.requires c.in-1.is refl) _ refl _ _ refl c.last_of-in-1.ensures _ _ c.read_fields-in-1.ensures.0 c.read_fields-in-1.ensures.1

pub returns-in-2 : goal.returns-in-2
unfolding row_at first_word only_wide narrow_of sound
returns-in-2 c = gives (row 2 4 c.requires c.in-2.is refl) _ refl _ _ refl c.last_of-in-2.ensures _ _ c.read_fields-in-2.ensures.0 c.read_fields-in-2.ensures.1

pub returns-in-3 : goal.returns-in-3
unfolding row_at first_word only_wide narrow_of sound
returns-in-3 c = gives (row 3 3 c.requires c.in-3.is refl) _ refl _ _ refl c.last_of-in-3.ensures _ _ c.read_fields-in-3.ensures.0 c.read_fields-in-3.ensures.1

pub returns-in-4 : goal.returns-in-4
unfolding row_at first_word only_wide narrow_of sound
returns-in-4 c = gives (row 4 8 c.requires c.in-4.is refl) _ refl _ _ refl c.last_of-in-4.ensures _ _ c.read_fields-in-4.ensures.0 c.read_fields-in-4.ensures.1

pub returns-in-5 : goal.returns-in-5
unfolding row_at first_word only_wide narrow_of sound
returns-in-5 c =
    gives (row 5 12 c.requires c.in-5.is refl) _ refl _ _ c.first_of.ensures c.last_of-in-5.ensures _ _ c.read_fields-in-5.ensures.0
    c.read_fields-in-5.ensures.1

pub returns-in-6 : goal.returns-in-6
unfolding row_at first_word only_wide narrow_of sound
returns-in-6 c =
    gives (row 6 9 c.requires c.in-6.is refl) _ refl _ _ c.first_of-in-6.ensures c.last_of-in-6.ensures _ _ c.read_fields-in-6.ensures.0
    c.read_fields-in-6.ensures.1

pub returns-in-7 : goal.returns-in-7
unfolding row_at first_word only_wide narrow_of sound
returns-in-7 c = gives (row 7 2 c.requires c.in-7.is refl) _ refl _ _ refl c.last_of-in-7.ensures _ _ c.read_fields-in-7.ensures.0 c.read_fields-in-7.ensures.1

pub returns-in-8 : goal.returns-in-8
unfolding row_at first_word only_wide narrow_of sound
returns-in-8 c = gives (row 8 2 c.requires c.in-8.is refl) _ refl _ _ refl c.last_of-in-8.ensures _ _ c.read_fields-in-8.ensures.0 c.read_fields-in-8.ensures.1

pub returns-in-9 : goal.returns-in-9
unfolding row_at first_word only_wide narrow_of sound
returns-in-9 c = gives (row 9 2 c.requires c.in-9.is refl) _ refl _ _ refl c.last_of-in-9.ensures _ _ c.read_fields-in-9.ensures.0 c.read_fields-in-9.ensures.1

pub returns-in-10 : goal.returns-in-10
unfolding row_at first_word only_wide narrow_of sound
returns-in-10 c =
    gives (row 10 11 c.requires c.in-10.is refl) _ refl _ _ c.first_of-in-10.ensures c.last_of-in-10.ensures _ _ c.read_fields-in-10.ensures.0
    c.read_fields-in-10.ensures.1

pub returns-in-11 : goal.returns-in-11
unfolding row_at first_word only_wide narrow_of sound
returns-in-11 c =
    gives (row 11 4 c.requires c.in-11.is refl) _ refl _ _ refl c.last_of-in-11.ensures _ _ c.read_fields-in-11.ensures.0 c.read_fields-in-11.ensures.1

pub returns-in-12 : goal.returns-in-12
unfolding row_at first_word only_wide narrow_of sound
returns-in-12 c =
    gives (row 12 8 c.requires c.in-12.is refl) _ refl _ _ refl c.last_of-in-12.ensures _ _ c.read_fields-in-12.ensures.0 c.read_fields-in-12.ensures.1

pub returns-in-13 : goal.returns-in-13
unfolding row_at first_word only_wide narrow_of sound
returns-in-13 c =
    gives (row 13 3 c.requires c.in-13.is refl) _ refl _ _ refl c.last_of-in-13.ensures _ _ c.read_fields-in-13.ensures.0 c.read_fields-in-13.ensures.1

pub returns-in_default : goal.returns-in_default
unfolding row_at first_word only_wide narrow_of sound
returns-in_default c =
    gives (row 14 4 c.requires (end c.requires.0 c.requires.1 c.in_default.in_default-own.rest) refl) _ refl _ _ refl c.last_of-in_default.ensures _ _
    c.read_fields-in_default.ensures.0 c.read_fields-in_default.ensures.1
