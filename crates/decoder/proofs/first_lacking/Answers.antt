-- The loop's invariant: `low` is the answer for the fields from j on. Assumes nothing.
use mathlib.Core.Path.{◌≡◌, sym, ap, ◌∙◌}
use native.Mathlib.Omega.{arith}
use borrow.Author.Rules.{rules}
use lib.ListN.{length, drop, take}
use Rattle.table.specs.Table.{count_of}
use Rattle.decoder.specs.Decoding.{lower}
use Rattle.decoder.proofs.Fields.{lacking-none, lacking-more}
use Rattle.decoder.proofs.first_lacking.Goals as goal

pub loop-j-init : goal.loop-j-init
loop-j-init c =
    let a = c.args in
    let n1 : length a.row ≡ 13 = search rules in (
      omega arith,
      c.requires,
      sym (lacking-none a.row n1 c.requires a.n (drop (count_of a.row) (take (count_of a.row) a.args))),
    )

pub loop-j-preserved : goal.loop-j-preserved
loop-j-preserved c =
    let l = c.loop-j in
    let n1 : length c.args.row ≡ 13 = search rules in
    let n2 : length c.args.args ≡ 9 = search rules in (
      omega arith,
      c.requires,
      c.lowered-low.ensures ∙ ap (lower _ _) l.invariant.2 ∙ lacking-more c.args.row n1 c.requires c.args.n c.args.args l.j n2
          c.loop-j-test.true l.invariant.0,
    )
