use Rattle.std.proofs.Common.{Some, ap, refl, sym, ◌∙◌}
use Rattle.front.proofs.Readers.{opens-argument, opens-none, opens-standard, standard-opening}
use Rattle.front.proofs.Front.open.Goals as goal

pub returns-in_err-k-clause-opens : goal.returns-in_err-k-clause-opens
returns-in_err-k-clause-opens g c = opens-none _ _ _ _ (sym c.place.ensures ∙ c.in_err-k.was) c.from_residual.ensures refl

pub returns-in-Argument-clause-opens : goal.returns-in-Argument-clause-opens
returns-in-Argument-clause-opens g c = opens-argument _ _ _ _ _ (sym c.place.ensures ∙ c.in_ok-k.was ∙ ap Some c.in-Argument.is)

pub returns-in-StandardInput-clause-opening : goal.returns-in-StandardInput-clause-opening
returns-in-StandardInput-clause-opening g c = standard-opening _ _ _ c.open_standard_input.ensures.0 c.open_standard_input.ensures.1

pub returns-in-StandardInput-clause-opens : goal.returns-in-StandardInput-clause-opens
returns-in-StandardInput-clause-opens g c =
    opens-standard _ _ _ _ (sym c.place.ensures ∙ c.in_ok-k.was ∙ ap Some c.in-StandardInput.is) c.open_standard_input.ensures
