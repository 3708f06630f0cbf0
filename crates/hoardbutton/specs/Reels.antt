-- A step of a reel, and the answer of a call that writes a text, as C has them.
-- Assumes nothing.
use Rattle.refusal.specs.Numbers.{number_of}
use Rattle.reel.specs.Reel.{Step}
use Rattle.std.specs.Prelude.{List, ℕ, None, Some, Ok, Err}
use Rattle.dump_text.specs.Whole.{dumped}
use Rattle.hoardbutton.specs.declared.answers.HbAnswer.{HbAnswer}
use Rattle.hoardbutton.specs.declared.reels.HbStep.{HbStep}
use Rattle.hoardbutton.specs.Answers.{answer_c}

abbrev pub step_c : Step → HbStep
step_c (Ok (Some f)) = record { refusal = 0; ended = 0; start = f.start; end = f.end; next = f.next.at }
step_c (Ok None) = record { refusal = 0; ended = 1; start = 0; end = 0; next = 0 }
step_c (Err x) = record { refusal = number_of x; ended = 0; start = 0; end = 0; next = 0 }

-- the bytes of a text, or refusal 12 where the output is shorter
abbrev pub text_c : List ℕ → List ℕ → HbAnswer
text_c text out = answer_c (dumped text out)
