use Rattle.bank_widths.specs.Keys.{key_of}
use Rattle.bank_widths.proofs.key_of.Goals as goal

pub returns : goal.returns
unfolding key_of
returns c = cc
