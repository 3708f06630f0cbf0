use mathlib.Core.List.{List, []}
use mathlib.Core.Path.{ap, refl, sym, ◌∙◌, ◌≡◌}
use Prim.Native.Nat.{ℕ}
use lib.ListN.{get_or}
use Rattle.table.specs.Table.{forms}
use Rattle.settings.specs.Settings.{slot_for}
use Rattle.forms.specs.Forms.{long_of, other, short_of}
use Rattle.forms.proofs.Loops.{other-end, other-long, other-pass, other-short}
use Rattle.forms.proofs.other_form.Goals as goal

pub loop-short-init : goal.loop-short-init
unfolding other
loop-short-init c = refl

pub returns-then-slot-short : goal.returns-then-slot-short
returns-then-slot-short c =
    let long : c.slot_for-long.result ≡ long_of (get_or forms c.loop-short.short-index []) = c.slot_for-long.ensures ∙ ap (λ (ps : List (List ℕ)). slot_for (get_or (get_or ps c.loop-short.short-index []) 1 0)) c.forms-short-items.ensures in
    let short : c.slot_for-short.result ≡ short_of (get_or forms c.loop-short.short-index []) = c.slot_for-short.ensures ∙ ap (λ (ps : List (List ℕ)). slot_for (get_or (get_or ps c.loop-short.short-index []) 0 0)) c.forms-short-items.ensures in
    long ∙ other-short forms _ c.loop-short-test.true _ (c.if-slot-short.true ∙ short) ∙ sym c.loop-short.invariant

pub returns-then-slot-long : goal.returns-then-slot-long
returns-then-slot-long c =
    let short : c.slot_for-short.result ≡ short_of (get_or forms c.loop-short.short-index []) = c.slot_for-short.ensures ∙ ap (λ (ps : List (List ℕ)). slot_for (get_or (get_or ps c.loop-short.short-index []) 0 0)) c.forms-short-items.ensures in
    let long : c.slot_for-long.result ≡ long_of (get_or forms c.loop-short.short-index []) = c.slot_for-long.ensures ∙ ap (λ (ps : List (List ℕ)). slot_for (get_or (get_or ps c.loop-short.short-index []) 1 0)) c.forms-short-items.ensures in
    short
    ∙ other-long forms _ c.loop-short-test.true _ (λ e. c.if-slot-short.false (e ∙ sym short)) (c.if-slot-long.true ∙ long)
    ∙ sym c.loop-short.invariant

pub loop-short-preserved : goal.loop-short-preserved
loop-short-preserved c =
    let short : c.slot_for-short.result ≡ short_of (get_or forms c.loop-short.short-index []) = c.slot_for-short.ensures ∙ ap (λ (ps : List (List ℕ)). slot_for (get_or (get_or ps c.loop-short.short-index []) 0 0)) c.forms-short-items.ensures in
    let long : c.slot_for-long.result ≡ long_of (get_or forms c.loop-short.short-index []) = c.slot_for-long.ensures ∙ ap (λ (ps : List (List ℕ)). slot_for (get_or (get_or ps c.loop-short.short-index []) 1 0)) c.forms-short-items.ensures in
    c.loop-short.invariant
    ∙ other-pass forms _ c.loop-short-test.true _ (λ e. c.if-slot-short.false (e ∙ sym short)) (λ e. c.if-slot-long.false (e ∙ sym long))

pub returns : goal.returns
returns c = sym (c.loop-short.invariant ∙ other-end forms _ c.loop-short-test.false _)
