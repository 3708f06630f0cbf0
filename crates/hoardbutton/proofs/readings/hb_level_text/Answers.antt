use mathlib.Core.Path.{ap, ◌∙◌}
use mathlib.Core.List.{List}
use Prim.Native.Nat.{ℕ, ◌≤◌}
use native.Mathlib.Omega.{arith}
use lib.ListN.{length}
use Rattle.reading.specs.Level.{rssi_text}
use Rattle.reading.proofs.Texts.{rssi-length}
use Rattle.dump_text.specs.Whole.{filled}
use Rattle.hoardbutton.specs.Reels.{text_c}
use Rattle.hoardbutton.proofs.Whole.{text-fits, text-shown}
use Rattle.hoardbutton.proofs.readings.hb_level_text.Goals as goal

pub slice_bounds-written-end : goal.slice_bounds-written-end
slice_bounds-written-end c = text-fits _ _ c.text-t.ensures

pub returns : goal.returns
returns c =
    let a = c.args in
    let short : length (rssi_text a.half_dbm) ≤ 8 = rssi-length a.half_dbm (omega arith) in
    let e = text-shown c.text-t.result (rssi_text a.half_dbm) c.text-t.ensures short in
    let w = c.written.ensures in
    (w.0 ∙ ap (λ (l : List ℕ). text_c l a.out.now) e, w.1 ∙ ap (λ (l : List ℕ). filled l a.out.now) e)
