-- A right table in numbers, both ways (`table-right`, `right-table`): an entry for each slot and no more, each of them 1 or 2, 1 where no setting has
-- the slot, one owner for the two forms of a setting, and quotas that fit the room together. What each of its tests asks, both ways: `side-means`,
-- `means-side`, `each-means`, `means-each`, `spare-means`, `means-spare`, `joined-means`, `means-joined`. And what follows of owning a slot (`owns-..`,
-- `second-owner`).
-- Assumes nothing.
use mathlib.Core.Path.{ap, refl, sym, ◌∙◌, ◌≡◌}
use mathlib.Core.Bool.{Bool, cond, false, not, true, ◌&&◌}
use mathlib.Core.List.{List, [], ◌∷◌}
use mathlib.Core.Logic.{◌⊎◌, inl, inr}
use Prim.Native.Nat.{suc, zero, ℕ, ◌+◌, ◌-◌, ◌<◌, ◌≤◌}
use native.Mathlib.Omega.{arith}
use borrow.Author.Tests.{eq-eqb, eqb-true, le-leb, leb-true, ne_eqb}
use lib.Dec.{eqb, leb}
use lib.ListN.{drop, length, length-drop}
use lib.Seq.{get_or-drop}
use Rattle.table.specs.Table.{forms, settings}
use Rattle.settings.specs.Settings.{slot_for}
use Rattle.settings.proofs.Settings.{both}
use Rattle.forms.specs.Forms.{long_of, other, other_in, short_of}
use Rattle.owners.specs.Owners.{OwnerTable, all_first, each_side, is_side, joined, joined_in, owner_of, owns, spare_first, table_right}

-- ---- a side

pub side-means : (w : ℕ) → is_side w ≡ true → (w ≡ 1) ⊎ (w ≡ 2)
unfolding is_side
side-means w e = go (eqb w 1) refl e
  where
    go : (x : Bool) → eqb w 1 ≡ x → cond x true (eqb w 2) ≡ true → (w ≡ 1) ⊎ (w ≡ 2)
    go true q h = inl (eqb-true w 1 q)
    go false q h = inr (eqb-true w 2 h)

pub means-side : (w : ℕ) → (w ≡ 1) ⊎ (w ≡ 2) → is_side w ≡ true
unfolding is_side
means-side w (inl e) = rw (eq-eqb w 1 e)
means-side w (inr e) = rw (ne_eqb w 1 (λ q. absurd (omega arith)), eq-eqb w 2 e)

-- every entry is a side
pub each-means : (ws : List ℕ) → each_side ws ≡ true → (s : ℕ) → s < length ws → (owner_of ws s ≡ 1) ⊎ (owner_of ws s ≡ 2)
unfolding each_side
each-means [] e s a = absurd (omega arith)
each-means (w ∷ ws) e zero a = side-means w (both (is_side w) (each_side ws) e).0
each-means (w ∷ ws) e (suc s) a = each-means ws (both (is_side w) (each_side ws) e).1 s (omega arith)

pub means-each : (ws : List ℕ) → ((s : ℕ) → s < length ws → (owner_of ws s ≡ 1) ⊎ (owner_of ws s ≡ 2)) → each_side ws ≡ true
unfolding each_side
means-each [] h = refl
means-each (w ∷ ws) h = rw (means-side w (h zero (omega arith))) (means-each ws (λ s a. h (suc s) (omega arith)))

-- ---- the slots that no setting has

all_first_lem : (ws : List ℕ) → all_first ws ≡ true → (s : ℕ) → s < length ws → owner_of ws s ≡ 1
unfolding all_first
all_first_lem [] e s a = absurd (omega arith)
all_first_lem (w ∷ ws) e zero a = eqb-true w 1 (both (eqb w 1) (all_first ws) e).0
all_first_lem (w ∷ ws) e (suc s) a = all_first_lem ws (both (eqb w 1) (all_first ws) e).1 s (omega arith)

first-all : (ws : List ℕ) → ((s : ℕ) → s < length ws → owner_of ws s ≡ 1) → all_first ws ≡ true
unfolding all_first
first-all [] h = refl
first-all (w ∷ ws) h = rw (eq-eqb w 1 (h zero (omega arith))) (first-all ws (λ s a. h (suc s) (omega arith)))

-- Such a slot is side 1's: just that is asked, and nothing of the others.
module _ (ws : List ℕ) where
  pub spare-means : spare_first ws ≡ true → (s : ℕ) → settings ≤ s → s < length ws → owner_of ws s ≡ 1
  unfolding spare_first
  spare-means e s a b =
      let on : settings + (s - settings) ≡ s = omega arith in
      ap (owner_of ws) (sym on)
      ∙ sym (get_or-drop settings ws (s - settings) 0)
      ∙ all_first_lem (drop settings ws) e (s - settings) (omega (arith, length-drop settings ws))

  pub means-spare : ((s : ℕ) → settings ≤ s → s < length ws → owner_of ws s ≡ 1) → spare_first ws ≡ true
  unfolding spare_first
  means-spare h = first-all (drop settings ws) (λ s a. get_or-drop settings ws s 0 ∙ h (settings + s) (omega arith) (omega (arith, length-drop settings ws)))

  -- a table with no more entries than there are settings has none
  pub spare-none : length ws ≤ settings → spare_first ws ≡ true
  spare-none h = means-spare (λ s a b. absurd (omega arith))

-- ---- two forms, one owner

-- The two forms of each setting have one owner; a setting of one form is its own other.
abbrev pub OneOwner : List ℕ → Type 0
OneOwner ws = (s : ℕ) → owner_of ws (other s) ≡ owner_of ws s

other-owner : (ws : List ℕ) (ps : List (List ℕ)) → joined_in ps ws ≡ true → (s : ℕ) → owner_of ws (other_in ps s) ≡ owner_of ws s
unfolding joined_in other_in
other-owner ws [] e s = refl
other-owner ws (p ∷ ps) e s =
    go (other-owner ws ps) (both (eqb (owner_of ws (short_of p)) (owner_of ws (long_of p))) (joined_in ps ws) e) (eqb s (short_of p)) refl (eqb s (long_of p)) refl
  where
    go : (joined_in ps ws ≡ true → (s : ℕ) → owner_of ws (other_in ps s) ≡ owner_of ws s)
        → (eqb (owner_of ws (short_of p)) (owner_of ws (long_of p)) ≡ true) × (joined_in ps ws ≡ true)
        → (x : Bool) → eqb s (short_of p) ≡ x → (y : Bool) → eqb s (long_of p) ≡ y
        → owner_of ws (cond x (long_of p) (cond y (short_of p) (other_in ps s))) ≡ owner_of ws s
    go ih h true q y r = sym (eqb-true _ _ h.0) ∙ ap (owner_of ws) (sym (eqb-true s (short_of p) q))
    go ih h false q true r = eqb-true _ _ h.0 ∙ ap (owner_of ws) (sym (eqb-true s (long_of p) r))
    go ih h false q false r = ih h.1 s

-- the two slots of each pair are one another's other form
abbrev Paired : List (List ℕ) → Type 0
Paired [] = Unit
Paired (p ∷ ps) = (other (short_of p) ≡ long_of p) × Paired ps

all-paired : Paired forms
unfolding other other_in slot_for
all-paired = (refl, (refl, (refl, tt)))

owner-pairs : (ws : List ℕ) → OneOwner ws → (ps : List (List ℕ)) → Paired ps → joined_in ps ws ≡ true
unfolding joined_in
owner-pairs ws h [] k = refl
owner-pairs ws h (p ∷ ps) k =
    rw (eq-eqb (owner_of ws (short_of p)) (owner_of ws (long_of p)) (sym (h (short_of p)) ∙ ap (owner_of ws) k.0)) (owner-pairs ws h ps k.1)

module _ (ws : List ℕ) where
  pub joined-means : joined ws ≡ true → OneOwner ws
  unfolding joined other
  joined-means e s = other-owner ws forms e s

  pub means-joined : OneOwner ws → joined ws ≡ true
  unfolding joined
  means-joined h = owner-pairs ws h forms all-paired

-- ---- a right table

pub record Right (m room : ℕ) (t : OwnerTable) : Type 0 where
  pub entries : length t.owners ≡ m
  pub sides : (s : ℕ) → s < length t.owners → (owner_of t.owners s ≡ 1) ⊎ (owner_of t.owners s ≡ 2)
  pub spare : (s : ℕ) → settings ≤ s → s < length t.owners → owner_of t.owners s ≡ 1
  pub whole : OneOwner t.owners
  pub sum : t.quota1 + t.quota2 ≤ room

module _ (m room : ℕ) (t : OwnerTable) where
  -- A TABLE IS RIGHT EXACTLY IF all that is so
  pub table-right : table_right m room t ≡ true → Right m room t
  unfolding table_right
  table-right e =
      let a = both (eqb (length t.owners) m) (each_side t.owners && (spare_first t.owners && (joined t.owners && fits))) e in
      let b = both (each_side t.owners) (spare_first t.owners && (joined t.owners && fits)) a.1 in
      let c = both (spare_first t.owners) (joined t.owners && fits) b.1 in
      let d = both (joined t.owners) fits c.1 in
      record {
        entries = eqb-true _ _ a.0;
        sides = each-means t.owners b.0;
        spare = spare-means t.owners c.0;
        whole = joined-means t.owners d.0;
        sum = leb-true _ _ d.1;
      }
    where
      fits : Bool
      fits = leb (t.quota1 + t.quota2) room

  pub right-table : Right m room t → table_right m room t ≡ true
  unfolding table_right
  right-table R =
      rw (
        eq-eqb (length t.owners) m R.entries,
        means-each t.owners R.sides,
        means-spare t.owners R.spare,
        means-joined t.owners R.whole,
        le-leb (t.quota1 + t.quota2) room R.sum,
      )

-- ---- owning a slot

module _ (ws : List ℕ) where
  pub owns-other : OneOwner ws → (w s : ℕ) → owns ws w (other s) ≡ owns ws w s
  unfolding owns
  owns-other whole w s = ap (λ (x : ℕ). eqb x w) (whole s)

  -- a slot of one side is not another's
  pub owns-once : (v w : ℕ) → (v ≡ w → ⊥) → (s : ℕ) → owns ws v s ≡ true → owns ws w s ≡ false
  unfolding owns
  owns-once v w apart s e = ne_eqb (owner_of ws s) w (λ x. apart (sym (eqb-true (owner_of ws s) v e) ∙ x))

  -- a slot that is not side 1's is side 2's
  pub second-owner : (s : ℕ) → (owner_of ws s ≡ 1) ⊎ (owner_of ws s ≡ 2) → not (owns ws 1 s) ≡ owns ws 2 s
  unfolding owns
  second-owner s (inl e) = rw (eq-eqb (owner_of ws s) 1 e, ne_eqb (owner_of ws s) 2 (λ q. absurd (omega arith)))
  second-owner s (inr e) = rw (ne_eqb (owner_of ws s) 1 (λ q. absurd (omega arith)), eq-eqb (owner_of ws s) 2 e)
