use mathlib.Core.Path.{sym, ◌∙◌}
use borrow.Author.Tests.{le-leb, lt-leb}
use Rattle.decoder.specs.Words.{last_word}
use Rattle.decoder.proofs.last_of.Goals as goal

pub returns-then-n-ge8 : goal.returns-then-n-ge8
unfolding last_word
returns-then-n-ge8 c = c.eight.ensures ∙ sym (simp (le-leb _ _ c.if-n-ge8.true))

pub returns-else-n-ge8 : goal.returns-else-n-ge8
unfolding last_word
returns-else-n-ge8 c = c.bytes_to.ensures ∙ sym (simp (lt-leb _ _ c.if-n-ge8.false))
