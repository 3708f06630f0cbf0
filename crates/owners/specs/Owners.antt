-- The owner table beside a book that two sides share: whose each slot is, and how many bytes of frames each side may hold (REFERENCE, "Two
-- sides").
-- Assumes nothing.
use Rattle.std.specs.Prelude.{ℕ, ◌+◌, Bool, true, cond, ◌&&◌, List, [], ◌∷◌, eqb, leb, drop, length, get_or}
use Rattle.table.specs.Table.{forms, settings}
use Rattle.forms.specs.Forms.{long_of, short_of}

-- an owner for each slot, and a quota for each side, in bytes of frames
pub record OwnerTable : Type 0 where
  pub owners : List ℕ
  pub quota1 : ℕ
  pub quota2 : ℕ

abbrev pub owner_table : List ℕ → ℕ → ℕ → OwnerTable
owner_table ws a b = record { owners = ws; quota1 = a; quota2 = b }

-- There are two sides, 1 and 2.
unfoldable pub is_side : ℕ → Bool
is_side w = cond (eqb w 1) true (eqb w 2)

-- a side's quota
abbrev pub quota_of : OwnerTable → ℕ → ℕ
quota_of t w = cond (eqb w 1) t.quota1 t.quota2

-- whose a slot is; 0, nobody's, where the table has no entry for it
abbrev pub owner_of : List ℕ → ℕ → ℕ
owner_of ws s = get_or ws s 0

-- whether a slot is a side's
unfoldable pub owns : List ℕ → ℕ → ℕ → Bool
owns ws w s = eqb (owner_of ws s) w

-- ---- a right table

-- every slot is a side's
unfoldable pub each_side : List ℕ → Bool
each_side [] = true
each_side (w ∷ ws) = is_side w && each_side ws

-- every entry is side 1's
unfoldable pub all_first : List ℕ → Bool
all_first [] = true
all_first (w ∷ ws) = eqb w 1 && all_first ws

-- The slots that no setting has are side 1's.
unfoldable pub spare_first : List ℕ → Bool
spare_first ws = all_first (drop settings ws)

-- the two forms of each pair have one owner
unfoldable pub joined_in : List (List ℕ) → List ℕ → Bool
joined_in [] ws = true
joined_in (p ∷ ps) ws = eqb (owner_of ws (short_of p)) (owner_of ws (long_of p)) && joined_in ps ws

-- No setting's two forms are split between the sides.
unfoldable pub joined : List ℕ → Bool
joined ws = joined_in forms ws

-- What a table must be beside a book of m slots with room for so many bytes of frames: an entry for each slot and no more, each of them a side, and
-- side 1 where no setting has the slot, no setting split, and quotas that fit the room together.
unfoldable pub table_right : ℕ → ℕ → OwnerTable → Bool
table_right m room t =
    eqb (length t.owners) m
    && (each_side t.owners && (spare_first t.owners && (joined t.owners && leb (t.quota1 + t.quota2) room)))
