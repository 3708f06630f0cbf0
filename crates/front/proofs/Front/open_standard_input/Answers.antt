use Rattle.std.proofs.Common.{Some, ap, arith, refl, sym, ◌∙◌}
use borrow.Author.Tests.{eqb-false, eqb-true}
use Rattle.front.specs.Buffers.{called}
use Rattle.front.proofs.Readers.{called-none, standard-none, standard-some}
use Rattle.front.proofs.Front.open_standard_input.Goals as goal

pub returns-then-is_empty : goal.returns-then-is_empty
returns-then-is_empty c =
    let none = eqb-true _ _ (sym c.is_empty.ensures ∙ c.if-is_empty.true) in
    (standard-none _ none, called-none _ none)

pub returns : goal.returns
unfolding called
returns c =
    let some = eqb-false _ _ (sym c.is_empty.ensures ∙ c.if-is_empty.false) in
    (ap Some c.standard_input.ensures ∙ standard-some _ (omega (arith, some)), refl)
