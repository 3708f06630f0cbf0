use Prim.Native.Nat.{ℕ, ◌/◌, ◌%◌, ◌^◌}
use mathlib.Core.Path.{◌∙◌, ap}
use native.Mathlib.Omega.{arith}
use Rattle.frame.specs.Field.{bits}
use Rattle.frame.specs.Layout.{bytes}
use Rattle.frame.proofs.Bytewise.{get-is, get-lt}
use Rattle.frame.proofs.Placed.get.Goals as goal

pub overflow_add-acc : goal.overflow_add-acc
overflow_add-acc c =
    let p = c.args.self in
    let f = p.field in
    let k = c.loop-k.k in
    let x = c.bits-x.ensures ∙ ap (λ (y : ℕ). y / 2 ^ f.lo % 2 ^ bits f k) (c.from.ensures ∙ c.byte_at-b.ensures) in
    record { fits = get-lt f p.lies (bytes c.args.s.now) _ k _ _ (omega arith) c.loop-k.invariant c.place.ensures x }

pub loop-k-preserved : goal.loop-k-preserved
loop-k-preserved c =
    let p = c.args.self in
    let f = p.field in
    let k = c.loop-k.k in
    let x = c.bits-x.ensures ∙ ap (λ (y : ℕ). y / 2 ^ f.lo % 2 ^ bits f k) (c.from.ensures ∙ c.byte_at-b.ensures) in
    get-is f p.lies (bytes c.args.s.now) _ k _ _ (omega arith) c.loop-k.invariant c.place.ensures x
