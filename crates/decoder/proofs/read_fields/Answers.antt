-- The nine fields one after the other, from the last: what each reads, and whether its code is taken. Assumes nothing.
use mathlib.Core.Path.{◌≡◌, ap, ap₂, ◌∙◌}
use mathlib.Core.Bool.{◌&&◌}
use mathlib.Core.List.{List, [], ◌∷◌}
use Prim.Native.Nat.{ℕ, ◌<◌}
use native.Mathlib.Omega.{arith}
use lib.Dec.{T}
use lib.ListN.{length, get_or}
use Rattle.frame.specs.Layout.{bytes}
use Rattle.decoder.specs.Words.{clean_words, InWords, reached, all_reached, Whole, AllWhole, nine}
use Rattle.decoder.proofs.Arms.{reached-at, whole-at, taken_next, reads-next, taken_last, none_read}
use Rattle.decoder.proofs.read_fields.Goals as goal

module _ (n first last whole : ℕ) (f cs : List ℕ) where
  -- what a field of these asks of its caller
  asked : (n ≡ length f) × InWords first last f × T (all_reached n cs) × AllWhole whole (bytes f) cs → (j : ℕ) → j < length cs
      → (n ≡ length f) × InWords first last f × T (reached n (get_or cs j 0)) × Whole whole (bytes f) (get_or cs j 0)
  asked r j h = (r.0, r.1, reached-at n cs j r.2 h, whole-at whole (bytes f) cs j r.3 h)

pub field_of-v0-requires : goal.field_of-v0-requires
field_of-v0-requires c =
    let a = c.args in
    asked _ _ _ _ _ (nine a.c0 a.c1 a.c2 a.c3 a.c4 a.c5 a.c6 a.c7 a.c8) c.requires 0 (omega arith)

pub field_of-v1-requires : goal.field_of-v1-requires
field_of-v1-requires c =
    let a = c.args in
    asked _ _ _ _ _ (nine a.c0 a.c1 a.c2 a.c3 a.c4 a.c5 a.c6 a.c7 a.c8) c.requires 1 (omega arith)

pub field_of-v2-requires : goal.field_of-v2-requires
field_of-v2-requires c =
    let a = c.args in
    asked _ _ _ _ _ (nine a.c0 a.c1 a.c2 a.c3 a.c4 a.c5 a.c6 a.c7 a.c8) c.requires 2 (omega arith)

pub field_of-v3-requires : goal.field_of-v3-requires
field_of-v3-requires c =
    let a = c.args in
    asked _ _ _ _ _ (nine a.c0 a.c1 a.c2 a.c3 a.c4 a.c5 a.c6 a.c7 a.c8) c.requires 3 (omega arith)

pub field_of-v4-requires : goal.field_of-v4-requires
field_of-v4-requires c =
    let a = c.args in
    asked _ _ _ _ _ (nine a.c0 a.c1 a.c2 a.c3 a.c4 a.c5 a.c6 a.c7 a.c8) c.requires 4 (omega arith)

pub field_of-v5-requires : goal.field_of-v5-requires
field_of-v5-requires c =
    let a = c.args in
    asked _ _ _ _ _ (nine a.c0 a.c1 a.c2 a.c3 a.c4 a.c5 a.c6 a.c7 a.c8) c.requires 5 (omega arith)

pub field_of-v6-requires : goal.field_of-v6-requires
field_of-v6-requires c =
    let a = c.args in
    asked _ _ _ _ _ (nine a.c0 a.c1 a.c2 a.c3 a.c4 a.c5 a.c6 a.c7 a.c8) c.requires 6 (omega arith)

pub field_of-v7-requires : goal.field_of-v7-requires
field_of-v7-requires c =
    let a = c.args in
    asked _ _ _ _ _ (nine a.c0 a.c1 a.c2 a.c3 a.c4 a.c5 a.c6 a.c7 a.c8) c.requires 7 (omega arith)

pub field_of-v8-requires : goal.field_of-v8-requires
field_of-v8-requires c =
    let a = c.args in
    asked _ _ _ _ _ (nine a.c0 a.c1 a.c2 a.c3 a.c4 a.c5 a.c6 a.c7 a.c8) c.requires 8 (omega arith)

pub returns : goal.returns
returns c =
    let a = c.args in
    let b = bytes a.frame.now in
    let t8 = taken_last b a.c8 _ c.field_of-v8.ensures _ c.is_taken-t8.ensures in
    let t7 = taken_next b a.c7 (a.c8 ∷ []) _ c.field_of-v7.ensures _ _ c.is_taken.ensures t8 in
    let t6 = taken_next b a.c6 (a.c7 ∷ a.c8 ∷ []) _ c.field_of-v6.ensures _ _ c.is_taken-2.ensures t7 in
    let t5 = taken_next b a.c5 (a.c6 ∷ a.c7 ∷ a.c8 ∷ []) _ c.field_of-v5.ensures _ _ c.is_taken-3.ensures t6 in
    let t4 = taken_next b a.c4 (a.c5 ∷ a.c6 ∷ a.c7 ∷ a.c8 ∷ []) _ c.field_of-v4.ensures _ _ c.is_taken-4.ensures t5 in
    let t3 = taken_next b a.c3 (a.c4 ∷ a.c5 ∷ a.c6 ∷ a.c7 ∷ a.c8 ∷ []) _ c.field_of-v3.ensures _ _ c.is_taken-5.ensures t4 in
    let t2 = taken_next b a.c2 (a.c3 ∷ a.c4 ∷ a.c5 ∷ a.c6 ∷ a.c7 ∷ a.c8 ∷ []) _ c.field_of-v2.ensures _ _ c.is_taken-6.ensures t3 in
    let t1 = taken_next b a.c1 (a.c2 ∷ a.c3 ∷ a.c4 ∷ a.c5 ∷ a.c6 ∷ a.c7 ∷ a.c8 ∷ []) _ c.field_of-v1.ensures _ _ c.is_taken-7.ensures t2 in
    let t0 = taken_next b a.c0 (a.c1 ∷ a.c2 ∷ a.c3 ∷ a.c4 ∷ a.c5 ∷ a.c6 ∷ a.c7 ∷ a.c8 ∷ []) _ c.field_of-v0.ensures _ _ c.is_taken-8.ensures t1 in
    let r8 = reads-next b a.c8 ([]) _ c.field_of-v8.ensures _ (none_read b) in
    let r7 = reads-next b a.c7 (a.c8 ∷ []) _ c.field_of-v7.ensures _ (r8) in
    let r6 = reads-next b a.c6 (a.c7 ∷ a.c8 ∷ []) _ c.field_of-v6.ensures _ (r7) in
    let r5 = reads-next b a.c5 (a.c6 ∷ a.c7 ∷ a.c8 ∷ []) _ c.field_of-v5.ensures _ (r6) in
    let r4 = reads-next b a.c4 (a.c5 ∷ a.c6 ∷ a.c7 ∷ a.c8 ∷ []) _ c.field_of-v4.ensures _ (r5) in
    let r3 = reads-next b a.c3 (a.c4 ∷ a.c5 ∷ a.c6 ∷ a.c7 ∷ a.c8 ∷ []) _ c.field_of-v3.ensures _ (r4) in
    let r2 = reads-next b a.c2 (a.c3 ∷ a.c4 ∷ a.c5 ∷ a.c6 ∷ a.c7 ∷ a.c8 ∷ []) _ c.field_of-v2.ensures _ (r3) in
    let r1 = reads-next b a.c1 (a.c2 ∷ a.c3 ∷ a.c4 ∷ a.c5 ∷ a.c6 ∷ a.c7 ∷ a.c8 ∷ []) _ c.field_of-v1.ensures _ (r2) in
    let r0 = reads-next b a.c0 (a.c1 ∷ a.c2 ∷ a.c3 ∷ a.c4 ∷ a.c5 ∷ a.c6 ∷ a.c7 ∷ a.c8 ∷ []) _ c.field_of-v0.ensures _ (r1) in
    let clean = c.is_clean.ensures ∙ ap (λ (h : List ℕ). clean_words h a.first a.last) c.held_at.ensures in
    (ap₂ ◌&&◌ clean t0, r0)
