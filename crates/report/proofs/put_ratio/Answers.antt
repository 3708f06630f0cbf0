-- `put_ratio` meets its contract.
-- Assumes nothing.
use borrow.Author.Rules.{rules}
use Rattle.report.proofs.Levels.{text-held, field-text, snr-fits}
use Rattle.report.proofs.put_ratio.Goals as goal

pub slice_bounds-put_word-end : goal.slice_bounds-put_word-end
slice_bounds-put_word-end c = text-held _ c.text-text.ensures

pub returns : goal.returns
returns c =
    let fits = c.well_formed.1.1.1.0.1.1.0.1 in
    field-text _ c.text-text.ensures _ (snr-fits _ fits) c.put_word-to.ensures c.put_word.ensures
