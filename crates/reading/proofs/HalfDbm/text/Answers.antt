use Rattle.reading.specs.Level.{rssi_text}
use Rattle.reading.proofs.HalfDbm.text.Goals as goal

pub returns : goal.returns
unfolding rssi_text
returns c = simp c.from-count.ensures at (c.push_tenths.ensures _ c.sign.ensures)
