use mathlib.Core.Path.{ap, ◌∙◌}
use Rattle.builder.specs.Building.{built}
use Rattle.builder.proofs.Returns.{builds-zero, builds-above, builds-kind}
use Rattle.builder.proofs.by_kind.Goals as goal
use Rattle.builder.proofs.by_kind.Goals.{then-kind-eq0-via-then-kind-eq0, then-kind-eq0-via-else-kind-eq0+then-kind-gt-KINDS}

pub returns-then-kind-eq0 : goal.returns-then-kind-eq0
unfolding built
returns-then-kind-eq0 g c =
    let a = c.args in
    ap built (elim c.then-kind-eq0.branch [
      | then-kind-eq0-via-then-kind-eq0 w ↦ builds-zero g.W.Way.takes g.W.Way.frame a.kind a.args.now w.if-kind-eq0.true
      | then-kind-eq0-via-else-kind-eq0+then-kind-gt-KINDS w ↦
          builds-above g.W.Way.takes g.W.Way.frame a.kind a.args.now w.if-kind-eq0.false w.if-kind-gt-KINDS.true
    ])

pub returns : goal.returns
returns g c =
    let a = c.args in
    c.build.ensures
    ∙ ap built (builds-kind g.W.Way.takes g.W.Way.frame a.kind a.args.now c.if-kind-eq0.false c.if-kind-gt-KINDS.false)
