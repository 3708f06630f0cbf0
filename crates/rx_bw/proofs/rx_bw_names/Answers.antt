-- The 256 entries are those of the rule, by computing. Assumes nothing.
use mathlib.Core.Path.{refl}
use Rattle.table.specs.Codes.{rx_bw_codes, is_in}
use Rattle.rx_bw.specs.Width.{is_named, name_of, names}
use Rattle.rx_bw.proofs.rx_bw_names.Goals as goal

pub returns : goal.returns
unfolding rx_bw_codes is_in is_named name_of names
returns c = refl
