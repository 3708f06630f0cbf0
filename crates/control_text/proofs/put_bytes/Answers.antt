-- `put_bytes` meets its contract. The loop's invariant: the bytes that are passed stand there.
-- Assumes nothing.
use mathlib.Core.Path.{refl, ◌∙◌}
use native.Mathlib.Omega.{arith}
use Rattle.texts.specs.Words.{spaced}
use Rattle.texts.proofs.Writing.{puts-as, puts-length, puts_none, puts_then}
use Rattle.control_text.proofs.Forms.{bytes_next}
use Rattle.control_text.proofs.put_bytes.Goals as goal

pub loop-byte-init : goal.loop-byte-init
unfolding spaced
loop-byte-init c = (refl, puts_none _ _)

pub loop-byte-preserved : goal.loop-byte-preserved
loop-byte-preserved c =
    let next = bytes_next c.args.bytes.now c.loop-byte.byte-index _ _ (omega arith) c.hex_digit.ensures c.hex_digit-in-loop-byte.ensures in
    let three = puts_then c.put_byte-blank.ensures (puts_then c.put_byte-high.ensures c.put_byte-to.ensures) in
    (puts-length three ∙ c.loop-byte.invariant.0, puts-as _ next (puts_then c.loop-byte.invariant.1 three))
