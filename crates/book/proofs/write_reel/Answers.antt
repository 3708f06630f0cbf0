use mathlib.Core.Path.{ap, sym, ◌∙◌}
use mathlib.Core.List.{List}
use Prim.Native.Nat.{ℕ, ◌+◌, ◌-◌}
use native.Mathlib.Omega.{arith}
use Rattle.settings.specs.Settings.{size_of}
use Rattle.book.specs.Edits.{reel_from}
use Rattle.book.proofs.Telling.{reel_from-end, reel_from-step, tiles-step}
use Rattle.book.proofs.write_reel.Goals as goal

pub write_frame-requires : goal.write_frame-requires
write_frame-requires c =
    let l = c.loop-i in
    let a = c.args in
    let z = c.size_of-n in
    let o = tiles-step a.slots a.c l._i a.b.now l.p a.e z.result c.loop-i-test.true (omega arith)
    (z.ensures.0 ∙ ap size_of c.slot_at.ensures.0) l.invariant.4 in
    (omega (arith, o.ends), omega (arith, o.ends), omega arith)

pub loop-i-preserved : goal.loop-i-preserved
loop-i-preserved c =
    let a = c.args in
    let n = c.size_of-n.result in
    let o = tiles-step a.slots a.c c.loop-i._i a.b.now c.loop-i.p a.e n c.loop-i-test.true (omega arith)
    (c.size_of-n.ensures.0 ∙ ap size_of c.slot_at.ensures.0) c.loop-i.invariant.4 in (
      o.ends,
      c.write_frame.auto.out ∙ c.loop-i.invariant.1,
      omega (arith, o.ends),
      c.loop-i.invariant.3
          ∙ reel_from-step a.slots a.c a.b.now c.loop-i.p a.e c.loop-i.w c.loop-i._i n c.loop-i.out c.loop-i-test.true o.same
          ∙ ap (λ (x : List ℕ). reel_from a.slots (a.c - (c.loop-i._i + 1)) a.b.now (c.loop-i.p + n) a.e (c.loop-i.w + 1 + n) x)
          (sym c.write_frame.ensures),
      o.rest,
    )

pub returns : goal.returns
returns c = sym (c.loop-i.invariant.3 ∙ reel_from-end _ _ _ _ _ _ _ _ c.loop-i-test.false)
