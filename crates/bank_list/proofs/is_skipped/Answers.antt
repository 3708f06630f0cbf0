-- `is_skipped` meets its contract: a line that is not blank has a first byte.
-- Assumes nothing.
use mathlib.Core.Path.{sym, ◌∙◌}
use Rattle.bank_list.proofs.Said.{blank-nil, skips-blank, skips-rest}
use Rattle.bank_list.proofs.is_skipped.Goals as goal

pub returns-then-all_blank : goal.returns-then-all_blank
returns-then-all_blank c = c.if-all_blank.true ∙ sym (skips-blank c.args.body.now (sym c.all_blank.ensures ∙ c.if-all_blank.true))

pub bounds-body-0 : goal.bounds-body-0
bounds-body-0 c = blank-nil c.args.body.now (sym c.all_blank.ensures ∙ c.if-all_blank.false)

pub returns-else-all_blank : goal.returns-else-all_blank
returns-else-all_blank c = sym (skips-rest c.args.body.now (sym c.all_blank.ensures ∙ c.if-all_blank.false))
