use Prim.Native.Nat.{◌^◌, ◌<◌}
use mathlib.Core.Path.{sym, ◌∙◌}
use borrow.Author.Rules.{rules}
use borrow.Author.Tests.{le-leb, lt-ltb}
use Rattle.codes.proofs.Within.{within-is, all-within}
use Rattle.codes.proofs.is_within.Goals as goal

pub returns-then-w-ge64 : goal.returns-then-w-ge64
returns-then-w-ge64 c =
    let a = c.args in
    let h : a.v < 2 ^ 64 = search rules in
    le-leb 64 a.w c.if-w-ge64.true ∙ sym (lt-ltb a.v (2 ^ a.w) (all-within a.v a.w h c.if-w-ge64.true))

pub returns-else-w-ge64 : goal.returns-else-w-ge64
returns-else-w-ge64 c = within-is c.args.v c.args.w
