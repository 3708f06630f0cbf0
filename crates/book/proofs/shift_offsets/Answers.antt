use mathlib.Core.Path.{ap, sym, ◌∙◌, ◌≡◌}
use mathlib.Core.List.{List}
use Prim.Native.Nat.{ℕ, ◌*◌, ◌+◌, ◌-◌}
use native.Mathlib.Omega.{arith}
use Rattle.spans.specs.Spans.{set_word}
use Rattle.spans.proofs.Spans.{stored-fits}
use Rattle.contents.specs.Contents.{offset_at}
use Rattle.book.proofs.Parts.{offset-others, remap-end, remap-step}
use Rattle.book.specs.Edits.{remap, shifted_at}
use Rattle.book.proofs.shift_offsets.Goals as goal

pub loop-s-preserved : goal.loop-s-preserved
loop-s-preserved c =
    let a = c.args in
    let φ = shifted_at a.at a.old a.new in
    let word : c.put_word.new.b ≡ set_word c.loop-s.b (4 + 2 * c.loop-s.s) (φ (offset_at c.loop-s.b c.loop-s.s)) =
    c.put_word.ensures
    ∙ stored-fits _ _ _ c.shifted.ensures.1 (omega (arith, c.loop-s.invariant.0))
    ∙ ap (set_word c.loop-s.b (4 + 2 * c.loop-s.s)) (c.shifted.ensures.0 ∙ ap φ c.offset-o.ensures.0) in (
      c.put_word.auto.b ∙ c.loop-s.invariant.0,
      c.loop-s.invariant.1
          ∙ remap-step a.slots φ c.loop-s.b c.loop-s.s c.loop-s-test.true
          ∙ ap (λ (l : List ℕ). remap φ (a.slots - (c.loop-s.s + 1)) l (c.loop-s.s + 1)) (sym word),
      λ j x y.
          let e : offset_at c.put_word.new.b j ≡ offset_at c.loop-s.b j = ap (λ (l : List ℕ). offset_at l j) word
          ∙ offset-others _ _ _ _ (omega arith) in
          omega (arith, e, c.loop-s.invariant.2 j (omega arith) y),
    )

pub returns : goal.returns
returns c = sym (c.loop-s.invariant.1 ∙ remap-end _ _ _ _ c.loop-s-test.false)
