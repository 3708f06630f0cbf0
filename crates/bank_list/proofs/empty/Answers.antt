-- `empty` meets its contract.
-- Assumes nothing.
use mathlib.Core.Path.{refl}
use Rattle.bank_list.specs.Banks.{kept, listed}
use Rattle.bank_list.proofs.empty.Goals as goal

pub returns : goal.returns
unfolding kept listed
returns c = refl
