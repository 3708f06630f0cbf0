use mathlib.Core.Path.{ap, sym, ◌∙◌}
use Rattle.filling.proofs.Filling.{blanked-image}
use Rattle.book.specs.Book.{Edit, ours, verdict}
use Rattle.book.proofs.Calls.{Holds, clear-done, holds-reads, opened-holds, permits}
use Rattle.book.proofs.Versions.{Serves, edit-serves, permits-for, handed-on}
use Rattle.book.proofs.clear.Goals as goal

pub returns-in_err-ready_to_edit : goal.returns-in_err-ready_to_edit
returns-in_err-ready_to_edit c = permits _ _ _ _ (handed-on _ _ _ Edit _ _ _ c.ready_to_edit.ensures c.in_err-ready_to_edit.was c.from_residual.ensures.1)

pub returns : goal.returns
returns c =
    let serving : Serves Edit ours c.args.book.now = edit-serves _ _ (sym c.in_ok-ready_to_edit.was ∙ c.ready_to_edit.ensures) in
    let known : Holds ours c.args.book.now = opened-holds ours _ _ (sym c.in_ok-ready_to_edit.was ∙ c.ready_to_edit.ensures ∙ ap verdict serving.opens) in
    let r = holds-reads ours _ known in
    permits-for _ _ _ Edit ours serving _ _ _
    (clear-done ours _ _ known (c.blank.ensures ∙ blanked-image ours _ r.small r.big))
