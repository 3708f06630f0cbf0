use mathlib.Core.Path.{sym, ap, ◌≡◌, ◌∙◌}
use Prim.Native.Nat.{ℕ, ◌-◌, ◌/◌, ◌%◌, ◌<◌, ◌≤◌}
use native.Mathlib.Omega.{arith}
use Rattle.table.specs.Table.{kinds}
use Rattle.table.proofs.Heads.{head-at-slot}
use Rattle.settings.specs.Settings.{slot_for}
use Rattle.settings.proofs.Settings.{slot-zero, slot-past, slot_row}
use Rattle.settings.proofs.slot_for.Goals as goal

pub returns-then-kind-le-KINDS : goal.returns-then-kind-le-KINDS
returns-then-kind-le-KINDS c =
    let k : ℕ = c.args.kind in
    let low : 0 < k = c.if-kind-gt0.true in
    let high : k ≤ kinds = c.if-kind-le-KINDS.true in
    let h : k - 1 < kinds = omega arith in
    ap (λ (x : ℕ). x / 4096 % 256) c.head_at.ensures ∙ head-at-slot (k - 1) h ∙ sym (slot_row k low high)

pub returns-else-kind-le-KINDS : goal.returns-else-kind-le-KINDS
returns-else-kind-le-KINDS c = slot-past _ c.if-kind-le-KINDS.false

pub returns-else-kind-gt0 : goal.returns-else-kind-gt0
returns-else-kind-gt0 c = let none : 0 ≡ c.args.kind = omega (arith, c.if-kind-gt0.false) in slot-zero ∙ ap slot_for none
