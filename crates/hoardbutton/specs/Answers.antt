-- What a call says, as C has it: a value, or a refusal's number with its place. proofs/Whole.antt says that no place is cut.
-- Assumes nothing.
use Rattle.std.specs.Prelude.{ℕ, ◌%◌, ◌^◌, Result, Ok, Err}
use Rattle.refusal.specs.Numbers.{number_of, place_of}
use Rattle.refusal.specs.declared.Refusal.{Refusal}
use Rattle.hoardbutton.specs.declared.answers.HbAnswer.{HbAnswer}

-- the low 32 bits
abbrev pub low : ℕ → ℕ
low n = n % 2 ^ 32

abbrev pub done_c : ℕ → HbAnswer
done_c n = record { refusal = 0; place = 0; value = n }

-- the refusal's number and place (REFERENCE, "Refusals")
abbrev pub refused_c : Refusal → HbAnswer
refused_c x = record { refusal = number_of x; place = low (place_of x); value = 0 }

-- the answer of a call that counts something: the bytes that it wrote, 0 where it writes none (REFERENCE, "Book", "Dump"); or the banks, where all
-- are right (REFERENCE, "Widths for banks")
abbrev pub answer_c : Result ℕ Refusal → HbAnswer
answer_c (Ok n) = done_c n
answer_c (Err x) = refused_c x
