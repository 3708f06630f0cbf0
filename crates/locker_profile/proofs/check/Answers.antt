use mathlib.Core.Path.{ap, ◌∙◌}
use Prim.Native.Nat.{ℕ}
use borrow.Author.Rules.{rules}
use Rattle.std.specs.Prelude.{Ok, Option}
use Rattle.settings.specs.Settings.{slot_for}
use Rattle.book.specs.Book.{Read, opened_for}
use Rattle.book.proofs.Calls.{handed}
use Rattle.locker_profile.specs.Profile.{answered}
use Rattle.locker_profile.proofs.Asking.{all-judged, has, refused-first, refused-fourth, refused-second}
use Rattle.locker_profile.proofs.check.Goals as goal

pub asked-requires : goal.asked-requires
unfolding slot_for
asked-requires c = search rules

pub returns-in_err-modulation : goal.returns-in_err-modulation
returns-in_err-modulation c =
    handed _ _ c.from_residual.ensures.1
    ∙ refused-first (opened_for Read c.args.book.now) _ _ c.asked.ensures c.in_err-modulation.was

pub asked-requires-2 : goal.asked-requires-2
unfolding slot_for
asked-requires-2 c = search rules

pub returns-in_err-packet : goal.returns-in_err-packet
returns-in_err-packet c =
    handed _ _ c.from_residual-in_err-packet.ensures.1
    ∙ refused-second (opened_for Read c.args.book.now) _ _ c.asked.ensures _ c.in_ok-modulation.was _ c.asked-2.ensures
    c.in_err-packet.was

pub asked-requires-3 : goal.asked-requires-3
unfolding slot_for
asked-requires-3 c = search rules

pub returns-in_err-sync : goal.returns-in_err-sync
returns-in_err-sync c =
    handed _ _ c.from_residual-in_err-sync.ensures.1
    ∙ refused-fourth (opened_for Read c.args.book.now) _ _ c.asked.ensures _ c.in_ok-modulation.was _ c.asked-2.ensures _
    c.in_ok-packet.was _ c.asked-3.ensures c.in_err-sync.was

pub returns : goal.returns
returns c =
    let o = opened_for Read c.args.book.now in
    ap (λ (o : Option ℕ). Ok o) c.first_broken.ensures
    ∙ ap answered c.lora_of.ensures
    ∙ all-judged o _ _ _ (has 1 _ o _ c.asked.ensures c.in_ok-modulation.was)
    (has 2 _ o _ c.asked-2.ensures c.in_ok-packet.was) (has 4 _ o _ c.asked-3.ensures c.in_ok-sync.was)
