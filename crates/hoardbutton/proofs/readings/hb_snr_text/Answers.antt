use mathlib.Core.Path.{ap, ◌∙◌}
use mathlib.Core.List.{List}
use Prim.Native.Nat.{ℕ, ◌≤◌}
use native.Mathlib.Omega.{arith}
use mir.Facts.{to_z-of_z}
use lib.IntN.{ℤ}
use lib.ListN.{length}
use Rattle.reading.specs.Level.{text_of, snr_text}
use Rattle.reading.proofs.Texts.{snr-length}
use Rattle.dump_text.specs.Whole.{filled}
use Rattle.hoardbutton.specs.Reels.{text_c}
use Rattle.hoardbutton.proofs.Whole.{abs-small, text-fits, text-shown}
use Rattle.hoardbutton.proofs.readings.hb_snr_text.Goals as goal

pub slice_bounds-written-end : goal.slice_bounds-written-end
slice_bounds-written-end c = text-fits _ _ c.text-t.ensures

pub returns : goal.returns
returns c =
    let a = c.args in
    let fits = c.ranges.quarter_db in
    let short : length (snr_text a.quarter_db) ≤ 8 = omega (arith, snr-length a.quarter_db (abs-small a.quarter_db fits.sfits)) in
    let e = text-shown c.text-t.result (snr_text a.quarter_db) (c.text-t.ensures ∙ ap (λ (z : ℤ). text_of (snr_text z)) (to_z-of_z fits)) short in
    let w = c.written.ensures in
    (w.0 ∙ ap (λ (l : List ℕ). text_c l a.out.now) e, w.1 ∙ ap (λ (l : List ℕ). filled l a.out.now) e)
