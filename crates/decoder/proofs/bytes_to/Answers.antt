-- The loop's invariant: the sum is the number of the bytes so far. Assumes nothing.
use Prim.Native.Nat.{ℕ, ◌+◌, ◌*◌, ◌<◌, ◌≤◌}
use mathlib.Core.Path.{refl, sym, ap, ap₂, ◌∙◌}
use native.Mathlib.Nat.{lt_of_lt_of_le}
use native.Mathlib.Numerals.{add-one}
use native.Mathlib.Omega.{arith}
use Rattle.std.proofs.lemmas.List.{get_or-take, length-take-le}
use lib.Pow.{pow_mono}
use Rattle.frame.specs.Layout.{bytes}
use Rattle.decoder.specs.Words.{big_end}
use Rattle.decoder.proofs.Words.{big_end-lt}
use Rattle.decoder.proofs.bytes_to.Goals as goal

pub loop-b-init : goal.loop-b-init
unfolding big_end
loop-b-init c = (c.requires.0, refl)

pub overflow_mul-sum : goal.overflow_mul-sum
overflow_mul-sum c =
    let i = c.loop-b.b-index in
    let l : 8 * i ≤ 56 = omega (arith, length-take-le c.args.n c.args.s.now c.requires.1) in
    omega (arith, lt_of_lt_of_le (big_end-lt (bytes c.args.s.now) (λ j. omega (arith, c.type_inv.s j)) i) (pow_mono l))

pub overflow_add-sum : goal.overflow_add-sum
overflow_add-sum c =
    let i = c.loop-b.b-index in
    let l : 8 * i ≤ 56 = omega (arith, length-take-le c.args.n c.args.s.now c.requires.1) in
    omega (arith, lt_of_lt_of_le (big_end-lt (bytes c.args.s.now) (λ j. omega (arith, c.type_inv.s j)) i) (pow_mono l))

pub loop-b-preserved : goal.loop-b-preserved
unfolding big_end
loop-b-preserved c =
    let l = c.loop-b in
    let s = c.args.s.now in
    let n = c.args.n in
    let h : l.b-index < n = omega (arith, length-take-le n s c.requires.1) in (
      c.requires.0,
      ap₂ (λ (x y : ℕ). x * 256 + y) l.invariant.1 (c.from.ensures ∙ get_or-take n s l.b-index 0 h)
          ∙ sym (ap (big_end (bytes s)) (add-one l.b-index)),
    )
