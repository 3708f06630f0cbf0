use Rattle.std.specs.Cmp.Lexicographic.{bytes_decides}
use Rattle.std.proofs.Common.{◌∙◌, sym}
use Rattle.arguments.proofs.Same.{same-said}
use Rattle.arguments.proofs.same_bytes.Goals as goal

pub returns : goal.returns
returns c = c.eq.ensures ∙ sym (same-said c.args.a.now c.args.b.now _ (bytes_decides c.args.a.now c.args.b.now))
