-- `next` meets its contract: each return stands under the tests that led there.
-- Assumes nothing.
use mathlib.Core.Path.{sym, ◌∙◌}
use native.Mathlib.Omega.{arith}
use Rattle.status_list.proofs.Walks.{found_none, found-past, found_word, skipped-inside, word-inside-text}
use Rattle.status_list.proofs.Scans.{word_count}
use Rattle.status_list.proofs.next.Goals as goal

pub returns-then-text-at : goal.returns-then-text-at
returns-then-text-at c = sym (found-past _ _ c.if-text-at.true)

pub overflow_add-start : goal.overflow_add-start
overflow_add-start c =
    let a = c.args in
    omega (arith, skipped-inside a.text.now a.at _ _ c.byte_before.ensures c.skipped.ensures (omega arith))

pub returns-then-text-start : goal.returns-then-text-start
returns-then-text-start c =
    let a = c.args in
    sym (found_none a.text.now a.at _ _ c.byte_before.ensures c.skipped.ensures c.if-text-start.true)

pub overflow_add-end : goal.overflow_add-end
overflow_add-end c =
    let a = c.args in
    omega (arith, word-inside-text a.text.now a.at _ _ c.byte_before.ensures c.skipped.ensures _ (c.word_length.ensures ∙ word_count _) (omega arith))

pub slice_bounds-said-end : goal.slice_bounds-said-end
slice_bounds-said-end c =
    let a = c.args in
    word-inside-text a.text.now a.at _ _ c.byte_before.ensures c.skipped.ensures _ (c.word_length.ensures ∙ word_count _) (omega arith)

pub returns : goal.returns
returns c =
    let a = c.args in
    c.said.ensures ∙ found_word a.text.now a.at _ _ c.byte_before.ensures c.skipped.ensures _ (c.word_length.ensures ∙ word_count _) (omega arith)
