-- `said` meets its contract: each return stands under the tests that led there.
-- Assumes nothing.
use mathlib.Core.Path.{sym, ◌∙◌}
use native.Mathlib.Omega.{arith}
use Rattle.status_list.proofs.Digits.{digits-at}
use Rattle.status_list.proofs.said.Goals as goal

pub pair-requires : goal.pair-requires
pair-requires c =
    let digits = sym c.all_digits.ensures ∙ c.if-all_digits.true in
    (digits-at _ _ digits (omega arith), digits-at _ _ digits (omega arith))

pub pair-requires-then-all_digits : goal.pair-requires-then-all_digits
pair-requires-then-all_digits c =
    let digits = sym c.all_digits.ensures ∙ c.if-all_digits.true in
    (digits-at _ _ digits (omega arith), digits-at _ _ digits (omega arith))
