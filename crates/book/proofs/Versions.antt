-- A buffer as it is lent: what a use finds there is what its own layout says (`Serves`, `opened_for-..`), and what is edited is of our layout
-- (`edit-..`). Where a book serves a use a call is that on its layout (`for-layout`), and else it is turned away (`turned-off`). What is proved of
-- calls elsewhere, the functions that read the version and the computed examples apart, knows of `layout_in` and `opened_for` no more than stands here.
-- Assumes nothing.
use mathlib.Core.Path.{ap, refl, sym, ◌∙◌, ◌≡◌}
use mathlib.Core.List.{List}
use Prim.Native.Nat.{ℕ, ◌+◌, ◌<◌, ◌≤◌}
use native.Mathlib.Omega.{arith}
use lib.ListN.{length}
use Rattle.refusal.specs.declared.Refusal.{Refusal}
use Rattle.table.specs.Table.{settings}
use Rattle.settings.specs.Settings.{slot_for}
use Rattle.contents.specs.Frames.{flat}
use Rattle.contents.specs.Contents.{Contents, Layout, holds, image, longest, refused, start}
use Rattle.std.specs.Prelude.{Err, IsErrAnd, Ok}
use Rattle.book.specs.Plain.{Turn, Answer}
use Rattle.book.specs.Book.{Edit, Permits, Tells, Use, call, call_for, layout_in, on_contents, opened, opened_for, ours, verdict}
use Rattle.book.proofs.Calls.{Gives, done_refused, handed, permits, permits-same, tells, tells-same}

-- ---- the layout

-- what is made is of our layout
pub layout-image : (n : ℕ) (fs : List (List ℕ)) → layout_in (image ours n fs) ≡ ours
unfolding layout_in
layout-image n fs = refl

-- every layout has a slot for the sync word
pub sync-slot : (b : List ℕ) → slot_for 20 < (layout_in b).slots
unfolding layout_in slot_for
sync-slot b = omega arith

-- a book of a layout that serves a use: what the use finds is what the layout says
pub record Serves (u : Use) (l : Layout) (b : List ℕ) : Type 0 where
  pub layout : layout_in b ≡ l
  pub opens : opened_for u b ≡ opened l b

-- what is made, in a buffer of a book's size, serves every use
pub image-serves : (u : Use) (n : ℕ) (fs : List (List ℕ)) → start ours.slots + length (flat fs) ≤ n → n ≤ longest → Serves u ours (image ours n fs)
unfolding opened_for
image-serves u n fs room high = record { layout = layout-image n fs; opens = ap (λ (l : Layout). opened l (image ours n fs)) (layout-image n fs) }

module _ (b : List ℕ) (n : ℕ) where
  -- what a use finds good is of a layout that serves it
  pub opened_for-serves : (u : Use) → Ok n ≡ verdict (opened_for u b) → Serves u (layout_in b) b
  unfolding opened_for
  opened_for-serves u e = record { layout = refl; opens = refl }

  -- what is edited is of our layout
  pub edit-serves : Ok n ≡ verdict (opened_for Edit b) → Serves Edit ours b
  unfolding opened_for layout_in
  edit-serves e = record { layout = refl; opens = refl }

-- the frames that a use finds are those of the bytes' own layout
pub opened_for-opened : (u : Use) (b : List ℕ) (fs : List (List ℕ)) → opened_for u b ≡ holds fs → opened (layout_in b) b ≡ holds fs
opened_for-opened u b fs e = sym (opened_for-serves b 0 u (sym (ap verdict e))).opens ∙ e

-- and what is edited is of our layout
pub edit-opened : (b : List ℕ) (fs : List (List ℕ)) → opened_for Edit b ≡ holds fs → opened ours b ≡ holds fs
edit-opened b fs e = sym (edit-serves b 0 (sym (ap verdict e))).opens ∙ e

-- which has a slot for each setting
pub edit-slots : (b : List ℕ) (fs : List (List ℕ)) → opened_for Edit b ≡ holds fs → settings ≤ (layout_in b).slots
edit-slots b fs e = let o : ours.slots ≡ (layout_in b).slots = ap (λ (l : Layout). l.slots) (sym (edit-serves b 0 (sym (ap verdict e))).layout) in omega arith

-- a use is refused as the layout refuses the bytes
module _ (u : Use) (b : List ℕ) (x : Refusal) where
  pub opened_for-refuses : opened (layout_in b) b ≡ refused x → opened_for u b ≡ refused x
  unfolding opened_for
  opened_for-refuses e = e

  pub refuses-opened : opened_for u b ≡ refused x → opened (layout_in b) b ≡ refused x
  unfolding opened_for
  refuses-opened e = e

-- ---- calls

module _ (s : List ℕ → ℕ → List (List ℕ) → Turn) (o b : List ℕ) where
  pub for-layout : (u : Use) (l : Layout) → Serves u l b → call_for u s o b ≡ call l s o b
  unfolding call_for call
  for-layout u l w = rw (w.layout, w.opens)

  -- so what is given on the layout the call permits, and tells
  module _ (u : Use) (l : Layout) (w : Serves u l b) (a : Answer) (x y : List ℕ) (g : Gives (call l s o b) a x y) where
    pub permits-for : Permits (call_for u s o b) a y
    permits-for = permits-same (call l s o b) (call_for u s o b) a y (sym (for-layout u l w)) (permits (call l s o b) a x y g)

    pub tells-for : Tells (call_for u s o b) a x
    tells-for = tells-same (call l s o b) (call_for u s o b) a x (sym (for-layout u l w)) (tells (call l s o b) a x y g)

  -- what a use refuses leaves output and bytes
  pub turned-off : (u : Use) (a : Answer) (r : Refusal) → a ≡ verdict (opened_for u b) → a ≡ Err r → Gives (call_for u s o b) a o b
  unfolding call_for
  turned-off u a r e z = go (opened_for u b) refl
    where
      go : (q : Contents) → opened_for u b ≡ q → Gives (on_contents (layout_in b) s o b (opened_for u b)) a o b
      go (refused n) w = let k : a ≡ Err n = e ∙ ap verdict w in record { answer = rw w k; output = rw w; bytes = rw w }
      go (holds fs) w = absurd (done_refused 0 r (sym (e ∙ ap verdict w) ∙ z))

  -- so does what a `?` hands on of the refusal that it met
  pub handed-on : (u : Use) (a r : Answer) (x : Refusal) → a ≡ verdict (opened_for u b) → a ≡ Err x → IsErrAnd r (λ y. y ≡ x) → Gives (call_for u s o b) r o b
  handed-on u a r x e z h = turned-off u r x (handed r x h ∙ sym z ∙ e) (handed r x h)
