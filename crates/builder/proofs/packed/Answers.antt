-- The loop's invariant: what the whole list gives is what the fields from j on put into the bytes so far. Assumes nothing.
use Prim.Native.Nat.{ℕ}
use mathlib.Core.Path.{◌≡◌, sym, ap, ◌∙◌}
use mathlib.Core.List.{List}
use native.Mathlib.Omega.{arith}
use borrow.Author.Rules.{rules}
use lib.ListN.{length, replicate}
use Rattle.frame.specs.declared.Field.{Field}
use Rattle.frame.specs.Layout.{put, puts}
use Rattle.table.specs.Table.{numbers_of}
use Rattle.builder.specs.Ways.{fields_by}
use Rattle.builder.proofs.Arguments.{length-put, packs-more, packs-end}
use Rattle.builder.proofs.packed.Goals as goal

pub loop-j-init : goal.loop-j-init
unfolding fields_by
loop-j-init g c = (
  search rules,
  c.requires.0,
  c.requires.1,
  ap length c.put.ensures ∙ length-put _ _ _,
  ap (λ (o : List ℕ). puts o (fields_by g.W.Way.field (numbers_of c.args.row)) c.args.args.now)
      (sym (c.put.ensures ∙ ap (λ (f : Field). put (replicate 12 0) f c.args.op) c.field_of.ensures)),
)

pub loop-j-preserved : goal.loop-j-preserved
loop-j-preserved g c =
    let l = c.loop-j in
    let n1 : length c.args.row ≡ 13 = search rules in (
      omega arith,
      c.requires.0,
      c.requires.1,
      ap length c.put-in-loop-j.ensures ∙ length-put _ _ _ ∙ l.invariant.3,
      l.invariant.4
          ∙ packs-more c.args.row n1 c.requires.0 g.W.Way.field c.args.args.now l.out _ _ l.j (omega arith) c.requires.1
          c.field_of-in-loop-j.ensures c.put-in-loop-j.ensures,
    )

pub returns : goal.returns
returns g c =
    let l = c.loop-j in
    let n1 : length c.args.row ≡ 13 = search rules in
    sym (l.invariant.4 ∙ packs-end c.args.row n1 c.requires.0 g.W.Way.field c.args.args.now l.out l.j (omega arith))
