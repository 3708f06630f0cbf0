use mathlib.Core.Path.{sym, ◌∙◌}
use Rattle.locker_profile.specs.Rules.{due_for}
use Rattle.locker_profile.proofs.Paths.{spreads-most}
use Rattle.locker_profile.proofs.due.Goals as goal

pub is_long-requires : goal.is_long-requires
is_long-requires c = spreads-most c.args.lora c.requires.0

pub returns-then-is_long : goal.returns-then-is_long
unfolding due_for
returns-then-is_long c = rw (← c.hz_of.ensures, sym c.is_long.ensures ∙ c.if-is_long.true) c.code.ensures

pub returns : goal.returns
unfolding due_for
returns c = rw (← c.hz_of.ensures, sym c.is_long.ensures ∙ c.if-is_long.false) c.code-2.ensures
