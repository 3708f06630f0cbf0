use mathlib.Core.Path.{◌≡◌, refl, sym, ◌∙◌}
use Rattle.std.specs.Prelude.{Ok}
use Rattle.book.specs.Book.{Edit, opened_for, verdict}
use Rattle.book.proofs.Calls.{done-nought}
use Rattle.playback.specs.Parts.{pass_from}
use Rattle.playback.proofs.Running.{after_none, comes-same, comes-still, pass-refused, pass-sound}
use Rattle.playback.proofs.pass.Goals as goal

pub returns-in_default : goal.returns-in_default
returns-in_default c =
    let whole = pass-refused _ _ _ _ _ _ c.ready_to_edit-found.ensures c.in_default.is in
    record { value = whole.0; book_after = whole.1 }

pub returns-in-Header : goal.returns-in-Header
unfolding pass_from
returns-in-Header c =
    let sound : Ok 0 ≡ verdict (opened_for Edit c.args.book.now) = done-nought (opened_for Edit _) _ (sym c.in-Ok.is ∙ c.ready_to_edit-found.ensures) in
    let whole = pass-sound _ _ _ _ sound _ c.in-Header.is _ _ c.play_header.ensures in
    record { value = whole.0; book_after = whole.1 }

pub returns-in-Records : goal.returns-in-Records
unfolding pass_from
returns-in-Records c =
    let sound : Ok 0 ≡ verdict (opened_for Edit c.args.book.now) = done-nought (opened_for Edit _) _ (sym c.in-Ok.is ∙ c.ready_to_edit-found.ensures) in
    let whole = pass-sound _ _ _ _ sound _ c.in-Records.is _ _ (comes-same _ _ _ _ _ _ (after_none _) c.play_gap.ensures) in
    record { value = whole.0; book_after = whole.1 }

pub returns-in-Stopped : goal.returns-in-Stopped
unfolding pass_from
returns-in-Stopped c =
    let sound : Ok 0 ≡ verdict (opened_for Edit c.args.book.now) = done-nought (opened_for Edit _) _ (sym c.in-Ok.is ∙ c.ready_to_edit-found.ensures) in
    let whole = pass-sound _ _ _ _ sound _ c.in-Stopped.is _ _ (comes-still _ _ _ _ _ _ (λ i. (c.slice_known-1.given i).fits) sound refl c.halt.ensures) in
    record { value = whole.0; book_after = whole.1 }
