use mathlib.Core.Path.{sym, ap, ◌∙◌}
use mathlib.Core.Bool.{Bool, ◌&&◌}
use borrow.Author.Tests.{eq-eqb, ne_eqb}
use lib.Bits.{bit_and}
use lib.Dec.{eqb}
use lib.ListN.{get_or}
use Rattle.decoder.specs.Words.{clean_words}
use Rattle.decoder.proofs.is_clean.Goals as goal

pub returns-then-first-held : goal.returns-then-first-held
unfolding clean_words
returns-then-first-held c =
    let a = c.args in
    sym (ap (λ (b : Bool). b && eqb (bit_and a.last (get_or a.held 1 0)) a.last) (eq-eqb _ _ c.if-first-held.true))

pub returns-else-first-held : goal.returns-else-first-held
unfolding clean_words
returns-else-first-held c =
    let a = c.args in
    let e = ne_eqb _ _ c.if-first-held.false in
    e ∙ sym (ap (λ (b : Bool). b && eqb (bit_and a.last (get_or a.held 1 0)) a.last) e)
