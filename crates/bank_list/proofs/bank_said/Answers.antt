-- `bank_said` meets its contract: each return stands under the tests that led there.
-- Assumes nothing.
use mathlib.Core.Path.{◌≡◌, ap, ap₂, sym, ◌∙◌}
use mathlib.Core.Bool.{Bool, ◌&&◌}
use mathlib.Core.List.{List}
use Prim.Native.Nat.{ℕ, ◌≤◌}
use native.Mathlib.Omega.{arith}
use lib.ListN.{length}
use lib.Seq.{length-take-le}
use Rattle.std.specs.List.{prefix_len}
use Rattle.bank_list.specs.Lines.{is_digit, is_number, leading_of, proposal_said}
use Rattle.bank_list.proofs.Said.{bank-apart, bank-code, bank-need, bank-none, tail}
use Rattle.bank_list.proofs.Scans.{leading_count, leading_le}
use Rattle.bank_list.proofs.bank_said.Goals as goal
use Rattle.bank_list.proofs.bank_said.Goals.{else-is_separator-via-then-is_separator+else-is_number, else-is_separator-via-else-is_separator}

-- the digits in the line's own terms
module _ (l : List ℕ) (d : ℕ) (e : d ≡ prefix_len is_digit l) where
  leads : d ≡ leading_of is_digit l
  leads = e ∙ leading_count is_digit l

  within : d ≤ length l
  within = omega (arith, leads, leading_le is_digit l)

pub returns-then-d-eq0 : goal.returns-then-d-eq0
returns-then-d-eq0 c = sym (bank-none _ _ (leads _ _ c.digits-d.ensures) c.if-d-eq0.true)

pub slice_bounds-number_of-end : goal.slice_bounds-number_of-end
slice_bounds-number_of-end c =
    let h = within c.args.body.now c.digits-d.result c.digits-d.ensures in
    omega (arith, h, length-take-le c.digits-d.result c.args.body.now h)

pub slice_bounds-split_first-count : goal.slice_bounds-split_first-count
slice_bounds-split_first-count c = omega (arith, within c.args.body.now c.digits-d.result c.digits-d.ensures)

pub slice_bounds-split_first-start : goal.slice_bounds-split_first-start
slice_bounds-split_first-start c = omega (arith, within c.args.body.now c.digits-d.result c.digits-d.ensures)

pub returns-in_default : goal.returns-in_default
returns-in_default c =
    let l = c.args.body.now in
    let d = c.digits-d.result in
    let none = sym (ap length (tail d l)) ∙ c.in_default.ensures.cases in
    c.need_said.ensures ∙ sym (bank-need l d (leads l d c.digits-d.ensures) c.if-d-eq0.false _ c.number_of-need.ensures none)

pub returns-then-is_number : goal.returns-then-is_number
returns-then-is_number c =
    let l = c.args.body.now in
    let d = c.digits-d.result in
    let rest = sym (tail d l) ∙ c.in-Some.ensures.cases.0 in
    let passes = ap₂ ◌&&◌ (sym c.is_separator.ensures ∙ c.if-is_separator.true) (sym c.is_number.ensures ∙ c.if-is_number.true) in
    c.proposal_said.ensures
    ∙ ap (proposal_said c.number_of-need.result) c.number_of.ensures
    ∙ sym (bank-code l d (leads l d c.digits-d.ensures) c.if-d-eq0.false _ c.number_of-need.ensures _ _ rest passes)

pub returns : goal.returns
returns c =
    let l = c.args.body.now in
    let d = c.digits-d.result in
    let rest = sym (tail d l) ∙ c.in-Some.ensures.cases.0 in
    let apart = bank-apart l d (leads l d c.digits-d.ensures) c.if-d-eq0.false _ c.number_of-need.ensures _ _ rest in
    elim c.else-is_separator.branch [
      | else-is_separator-via-then-is_separator+else-is_number w ↦ sym
          (apart (ap₂ ◌&&◌ (sym c.is_separator.ensures ∙ w.if-is_separator.true) (sym w.is_number.ensures ∙ w.if-is_number.false)))
      | else-is_separator-via-else-is_separator w ↦ sym
          (apart (ap (λ (b : Bool). b && is_number c.in-Some.code.now) (sym c.is_separator.ensures ∙ w.if-is_separator.false)))
    ]
