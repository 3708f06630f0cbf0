-- The 256 entries are those of the rule, by computing. Assumes nothing.
use borrow.Author.Rules.{rules}
use Rattle.table.specs.Codes.{rx_bw_codes, is_in}
use Rattle.rx_bw.specs.Width.{is_named, name_of}
use Rattle.rx_bw.proofs.Entries.{entry}
use Rattle.rx_bw.proofs.rx_bw_tenths.Goals as goal

pub returns : goal.returns
unfolding rx_bw_codes is_in is_named name_of
returns c = entry name_of 256 c.args.code (search rules)
