use Rattle.frame.proofs.Bytewise.{part-is, part-fits}
use Rattle.frame.proofs.Placed.part.Goals as goal

pub overflow_cast-result : goal.overflow_cast-result
overflow_cast-result c =
    let p = c.args.self in
    record { fits = part-fits p.field p.lies c.args.i c.requires.0 c.requires.1 _ c.rank-d.ensures c.args.v _ c.bits-x.ensures }

pub returns : goal.returns
returns c =
    let p = c.args.self in
    part-is p.field p.lies c.args.i c.requires.0 c.requires.1 _ c.rank-d.ensures c.args.v _ c.bits-x.ensures
