use mathlib.Core.Bool.{◌&&◌}
use mathlib.Core.List.{List, []}
use mathlib.Core.Path.{ap, refl, sym, ◌∙◌, ◌≡◌}
use Prim.Native.Nat.{ℕ}
use lib.ListN.{get_or}
use Rattle.table.specs.Table.{forms}
use Rattle.settings.specs.Settings.{slot_for}
use Rattle.contents.specs.Contents.{present_for}
use Rattle.forms.specs.Forms.{in_both, long_of, short_of}
use Rattle.forms.proofs.Loops.{both_end, both_found, both-pass}
use Rattle.forms.proofs.both_forms.Goals as goal

pub loop-short-init : goal.loop-short-init
unfolding in_both
loop-short-init c = refl

pub returns-then-both_present : goal.returns-then-both_present
returns-then-both_present c =
    let said : let a = c.args in let p = get_or forms c.loop-short.short-index [] in c.both_present.result ≡ present_for a.slots a.book.now (short_of p) && present_for a.slots a.book.now (long_of p) = let a = c.args in
    let q = present_for a.slots a.book.now in
    c.both_present.ensures
    ∙ ap (λ (ps : List (List ℕ)). q (slot_for (get_or (get_or ps c.loop-short.short-index []) 0 0)) && q (slot_for (get_or (get_or ps c.loop-short.short-index []) 1 0)))
    c.forms-short-items.ensures in
    both_found forms _ c.loop-short-test.true _ (sym said ∙ c.if-both_present.true) ∙ sym c.loop-short.invariant

pub loop-short-preserved : goal.loop-short-preserved
loop-short-preserved c =
    let said : let a = c.args in let p = get_or forms c.loop-short.short-index [] in c.both_present.result ≡ present_for a.slots a.book.now (short_of p) && present_for a.slots a.book.now (long_of p) = let a = c.args in
    let q = present_for a.slots a.book.now in
    c.both_present.ensures
    ∙ ap (λ (ps : List (List ℕ)). q (slot_for (get_or (get_or ps c.loop-short.short-index []) 0 0)) && q (slot_for (get_or (get_or ps c.loop-short.short-index []) 1 0)))
    c.forms-short-items.ensures in
    c.loop-short.invariant ∙ both-pass forms _ c.loop-short-test.true _ (sym said ∙ c.if-both_present.false)

pub returns : goal.returns
returns c = sym (c.loop-short.invariant ∙ both_end forms _ c.loop-short-test.false _)
