-- The answer of the locker profile as C has it. That value 0 without a refusal is a yes, and nothing else is, proofs/Whole.antt says.
-- Assumes nothing.
use Rattle.locker_profile.specs.Profile.{Answer, Broken, Refused, Yes}
use Rattle.hoardbutton.specs.declared.answers.HbAnswer.{HbAnswer}
use Rattle.hoardbutton.specs.Answers.{done_c, refused_c}

-- the first broken rule, counted from 1, and 0 where none is broken (REFERENCE, "Locker profile")
abbrev pub profile_c : Answer → HbAnswer
profile_c Yes = done_c 0
profile_c (Broken n) = done_c n
profile_c (Refused x) = refused_c x
