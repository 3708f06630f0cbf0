-- `put_bytes` meets its contract. The loop's invariant: the bytes that are passed stand there.
-- Assumes nothing.
use mathlib.Core.Path.{◌≡◌}
use mathlib.Core.List.{[], map}
use lib.ListN.{length, take}
use Rattle.texts.specs.Words.{spaced}
use Rattle.texts.specs.Written.{Puts}
use Rattle.control_text.specs.Text.{hex_of}
use Rattle.control_text.proofs.put_bytes.Given as goal

abbrev pub invariant-loop-byte : goal.invariant-loop-byte
invariant-loop-byte l = (length l.out ≡ length l.initial.out) × Puts (spaced (map hex_of (take l.byte-index l.bytes)) []) l.at l.initial.out l.to l.out
