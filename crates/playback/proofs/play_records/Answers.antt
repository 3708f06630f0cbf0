use mathlib.Core.Path.{ap, refl, sym, ◌∙◌}
use native.Mathlib.Omega.{arith}
use Prim.Native.Nat.{ℕ, ◌+◌}
use Rattle.playback.proofs.Sizes.{size_fits, size_none}
use Rattle.playback.proofs.Running.{along-start, along-next, along-end, along-stop, along-wait}
use Rattle.playback.proofs.play_records.Goals as goal

pub loop-left-init : goal.loop-left-init
loop-left-init c =
    (refl, along-start _ _ _ _ _ _ _ (λ i. (c.slice_known-1.given i).fits) c.requires.0 c.requires.1)

pub returns-then-is_hopeless : goal.returns-then-is_hopeless
returns-then-is_hopeless c =
    along-stop _ _ _ _ _ _ _ _ _ _ c.loop-left.invariant.1 (omega arith)
    (size_none c.args.part.now c.loop-left.i (sym c.in_default.is ∙ c.size_at.ensures))
    (sym c.is_hopeless.ensures ∙ c.if-is_hopeless.true) _ c.halt.ensures

pub returns-in_default : goal.returns-in_default
returns-in_default c =
    along-wait _ _ _ _ _ _ _ _ _ _ c.loop-left.invariant.1 (omega arith)
    (size_none c.args.part.now c.loop-left.i (sym c.in_default.is ∙ c.size_at.ensures))
    (sym c.is_hopeless.ensures ∙ c.if-is_hopeless.false) _ c.halt-in_default.ensures

pub overflow_add-i : goal.overflow_add-i
overflow_add-i c =
    record { fits = omega (arith, (size_fits c.args.part.now c.loop-left.i c.in-Some.n (sym c.in-Some.is ∙ c.size_at.ensures)).2) }

pub turn-next-requires : goal.turn-next-requires
turn-next-requires c =
    let f = size_fits c.args.part.now c.loop-left.i c.in-Some.n (sym c.in-Some.is ∙ c.size_at.ensures) in
    (f.0, ap (λ (n : ℕ). c.loop-left.i + n) f.1, f.2)

pub overflow_add-i-in-loop-left : goal.overflow_add-i-in-loop-left
overflow_add-i-in-loop-left c =
    record { fits = omega (arith, (size_fits c.args.part.now c.loop-left.i c.in-Some.n (sym c.in-Some.is ∙ c.size_at.ensures)).2) }

pub loop-left-preserved : goal.loop-left-preserved
loop-left-preserved c = (
  c.turn-next.auto.book ∙ c.loop-left.invariant.0,
  rw c.onward-at.ensures
      (along-next _ _ _ _ _ _ _ _ _ _ c.loop-left.invariant.1 _ _ _ _ (omega arith)
      (size_fits c.args.part.now c.loop-left.i _ (sym c.in-Some.is ∙ c.size_at.ensures)) (c.turn-next.ensures.value, c.turn-next.ensures.book_after)),
)

pub returns : goal.returns
returns c = along-end _ _ _ _ _ _ _ _ _ _ c.loop-left.invariant.1 (omega arith) _ c.halt-2.ensures
