use mathlib.Core.Bool.{not}
use mathlib.Core.List.{List, []}
use mathlib.Core.Path.{ap, refl, sym, ◌∙◌, ◌≡◌}
use Prim.Native.Nat.{ℕ}
use lib.Dec.{eqb}
use lib.ListN.{get_or}
use Rattle.table.specs.Table.{forms}
use Rattle.settings.specs.Settings.{slot_for}
use Rattle.forms.specs.Forms.{long_of, short_of}
use Rattle.owners.specs.Owners.{joined, owner_of}
use Rattle.owners.proofs.Loops.{joined_end, joined-pass, joined-stop}
use Rattle.owners.proofs.is_joined.Goals as goal

pub loop-short-init : goal.loop-short-init
unfolding joined
loop-short-init c = refl

pub returns-then-is_split : goal.returns-then-is_split
returns-then-is_split c =
    let said : c.is_split.result ≡ not (eqb (owner_of c.args.owners.now (short_of (get_or forms c.loop-short.short-index []))) (owner_of c.args.owners.now (long_of (get_or forms c.loop-short.short-index [])))) = let ws = c.args.owners.now in
    c.is_split.ensures
    ∙ ap (λ (ps : List (List ℕ)). not (eqb (owner_of ws (slot_for (get_or (get_or ps c.loop-short.short-index []) 0 0)))
    (owner_of ws (slot_for (get_or (get_or ps c.loop-short.short-index []) 1 0)))))
    c.forms-forms.ensures in
    sym (c.loop-short.invariant ∙ joined-stop _ forms _ c.loop-short-test.true (sym said ∙ c.if-is_split.true))

pub loop-short-preserved : goal.loop-short-preserved
loop-short-preserved c =
    let said : c.is_split.result ≡ not (eqb (owner_of c.args.owners.now (short_of (get_or forms c.loop-short.short-index []))) (owner_of c.args.owners.now (long_of (get_or forms c.loop-short.short-index [])))) = let ws = c.args.owners.now in
    c.is_split.ensures
    ∙ ap (λ (ps : List (List ℕ)). not (eqb (owner_of ws (slot_for (get_or (get_or ps c.loop-short.short-index []) 0 0)))
    (owner_of ws (slot_for (get_or (get_or ps c.loop-short.short-index []) 1 0)))))
    c.forms-forms.ensures in
    c.loop-short.invariant ∙ joined-pass _ forms _ c.loop-short-test.true (sym said ∙ c.if-is_split.false)

pub returns : goal.returns
returns c = sym (c.loop-short.invariant ∙ joined_end _ forms _ c.loop-short-test.false)
