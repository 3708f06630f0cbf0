use mathlib.Core.Path.{sym, ◌∙◌}
use borrow.Author.Tests.{lt-ltb, le-ltb}
use Rattle.frame.specs.Layout.{bytes}
use Rattle.decoder.specs.Words.{first_word}
use Rattle.decoder.proofs.Words.{from_start}
use Rattle.decoder.proofs.first_of.Goals as goal

pub returns-then-n-gt8 : goal.returns-then-n-gt8
unfolding first_word
returns-then-n-gt8 c =
    c.eight.ensures ∙ from_start (bytes c.args.frame.now) 8 ∙ sym (simp (lt-ltb _ _ c.if-n-gt8.true))

pub returns-else-n-gt8 : goal.returns-else-n-gt8
unfolding first_word
returns-else-n-gt8 c = sym (simp (le-ltb _ _ c.if-n-gt8.false))
