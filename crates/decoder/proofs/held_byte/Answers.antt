use mathlib.Core.Path.{sym}
use borrow.Author.Tests.{lt-ltb, le-ltb}
use Rattle.decoder.specs.Words.{held_byte}
use Rattle.decoder.proofs.held_byte.Goals as goal

pub returns-then-i-n : goal.returns-then-i-n
unfolding held_byte
returns-then-i-n c = sym (simp (lt-ltb _ _ c.if-i-n.true))

pub returns-else-i-n : goal.returns-else-i-n
unfolding held_byte
returns-else-i-n c = sym (simp (le-ltb _ _ c.if-i-n.false))
