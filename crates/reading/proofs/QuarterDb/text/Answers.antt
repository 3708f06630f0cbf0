-- A signed field is read by its bits, and they stand for the field's number.
use Rattle.std.proofs.Common.{◌≡◌, FitsSigned, of_z, rules, to_z, to_z-of_z, w8}
use Rattle.reading.specs.Level.{snr_text}
use Rattle.reading.proofs.QuarterDb.text.Goals as goal

pub returns : goal.returns
unfolding snr_text
returns c =
    let z = c.args.self.0 in
    let fits : FitsSigned w8 z = search rules in
    let read : to_z w8 (of_z w8 z) ≡ z = to_z-of_z fits in
    simp (c.from.ensures, c.unsigned_abs.ensures.value, read) at (c.push_hundredths.ensures _ c.sign.ensures)
