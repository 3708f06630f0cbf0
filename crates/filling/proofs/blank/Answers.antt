use mathlib.Core.Path.{ap, sym, ◌∙◌, ◌≡◌}
use mathlib.Core.Bool.{true}
use mathlib.Core.List.{List}
use Prim.Native.Nat.{ℕ}
use native.Mathlib.Omega.{arith}
use lib.ListN.{length, length-set, set}
use Rattle.contents.specs.Contents.{layout, start}
use Rattle.spans.specs.Spans.{set_word}
use Rattle.spans.proofs.Spans.{stored-fits, zeroed-fits}
use Rattle.filling.specs.Filling.{sized_for}
use Rattle.filling.proofs.Filling.{blanked-fits, blanked-left, sized-means}
use Rattle.filling.proofs.Images.{blank-image}
use Rattle.filling.proofs.blank.Goals as goal

pub bounds-b-0 : goal.bounds-b-0
bounds-b-0 c =
    let sized : let a = c.args in sized_for a.slots (length a.b.now) ≡ true = sym c.is_sized.ensures ∙ c.if-is_sized.true in
    omega (arith, sized-means _ _ sized, c.zero.auto.b)

pub overflow_mul-slots : goal.overflow_mul-slots
overflow_mul-slots c =
    let sized : let a = c.args in sized_for a.slots (length a.b.now) ≡ true = sym c.is_sized.ensures ∙ c.if-is_sized.true in
    omega (arith, sized-means _ _ sized)

pub overflow_add-slots : goal.overflow_add-slots
overflow_add-slots c =
    let sized : let a = c.args in sized_for a.slots (length a.b.now) ≡ true = sym c.is_sized.ensures ∙ c.if-is_sized.true in
    omega (arith, sized-means _ _ sized)

pub returns-then-is_sized : goal.returns-then-is_sized
returns-then-is_sized c =
    let sized : let a = c.args in sized_for a.slots (length a.b.now) ≡ true = sym c.is_sized.ensures ∙ c.if-is_sized.true in
    let a = c.args in
    let b = a.b.now in
    let size = sized-means _ _ sized in
    c.put_word.ensures
    ∙ stored-fits _ _ _ (omega (arith, size)) (simp length-set (omega (arith, size, c.zero.auto.b)))
    ∙ ap (λ (x : List ℕ). set_word (set x 0 a.version) 2 (start a.slots)) (c.zero.ensures ∙ zeroed-fits b 0 (length b) (omega arith))
    ∙ blank-image (layout a.version a.slots) b size.0
    ∙ sym (blanked-fits (layout a.version a.slots) b sized)

pub returns-else-is_sized : goal.returns-else-is_sized
returns-else-is_sized c =
    let a = c.args in
    sym (blanked-left (layout a.version a.slots) a.b.now (sym c.is_sized.ensures ∙ c.if-is_sized.false))
