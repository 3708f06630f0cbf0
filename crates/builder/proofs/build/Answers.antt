use mathlib.Core.Path.{◌≡◌, refl, ap}
use borrow.Author.Rules.{rules}
use lib.ListN.{length}
use Rattle.builder.specs.Building.{built}
use Rattle.builder.proofs.Returns.{few, built-misfit, arguments-many, built-frame}
use Rattle.builder.proofs.build.Goals as goal

pub first_misfit-requires : goal.first_misfit-requires
first_misfit-requires g c = few _ c.requires _ c.row_at-row.ensures

pub packed-bytes-requires : goal.packed-bytes-requires
packed-bytes-requires g c =
    let r = c.row_at-row in
    let m = c.first_misfit in
    let n1 : length r.result ≡ 13 = search rules in (
      few c.args.i c.requires r.result r.ensures,
      arguments-many g.W.Way.field g.W.Way.frame g.met.W.Way.makes g.W.Way.takes c.args.i c.requires r.result r.ensures n1 c.args.args.now m.result m.ensures
          c.in_default.is,
    )

pub returns-in-Some : goal.returns-in-Some
unfolding built
returns-in-Some g c =
    let r = c.row_at-row in
    let m = c.first_misfit in
    let n1 : length r.result ≡ 13 = search rules in
    ap built (built-misfit g.W.Way.field g.W.Way.frame g.met.W.Way.makes g.W.Way.takes c.args.i c.requires r.result r.ensures n1 c.args.args.now m.result m.ensures _
    c.in-Some.is)

pub returns : goal.returns
returns g c =
    let r = c.row_at-row in
    let m = c.first_misfit in
    let n1 : length r.result ≡ 13 = search rules in
    built-frame g.W.Way.field g.W.Way.frame g.met.W.Way.makes g.W.Way.takes c.args.i c.requires r.result r.ensures n1 c.args.args.now m.result m.ensures
    c.in_default.is
    c.from.result _ c.packed-bytes.result
    c.from.ensures refl c.packed-bytes.ensures
