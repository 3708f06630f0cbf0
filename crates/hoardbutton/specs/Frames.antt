-- The frame and the decoded frame as C has them: the fields of the records of builders and decoder, as numbers of 32 bits. proofs/Whole.antt
-- says that none is cut.
-- Assumes nothing.
use Rattle.std.specs.Prelude.{Result, Ok, Err, replicate}
use Rattle.refusal.specs.declared.Refusal.{Refusal}
use Rattle.refusal.specs.Numbers.{number_of, place_of}
use Rattle.decoder.specs.declared.Decoded.{Decoded}
use Rattle.builder.specs.declared.Built.{Built}
use Rattle.hoardbutton.specs.declared.frames.HbFrame.{HbFrame}
use Rattle.hoardbutton.specs.declared.frames.HbDecoded.{HbDecoded}
use Rattle.hoardbutton.specs.Answers.{low}

-- a builder's answer: the frame with its length, or the refusal
abbrev pub frame_c : Result Built Refusal → HbFrame
frame_c (Ok b) = record { refusal = 0; place = 0; len = low b.len; bytes = b.bytes }
frame_c (Err x) = record { refusal = number_of x; place = low (place_of x); len = 0; bytes = replicate 12 0 }

-- the decoder's answer: the kind with its arguments, or the refusal
abbrev pub decoded_c : Result Decoded Refusal → HbDecoded
decoded_c (Ok d) = record { refusal = 0; place = 0; kind = low d.kind; count = low d.count; args = d.args }
decoded_c (Err x) = record { refusal = number_of x; place = low (place_of x); kind = 0; count = 0; args = replicate 9 0 }
