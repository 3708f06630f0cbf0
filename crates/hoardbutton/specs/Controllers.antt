-- The controller's state, its answer and what it sends, as C has them (REFERENCE, "Controller"). proofs/States.antt says that nothing is cut.
-- Assumes nothing.
use Rattle.std.specs.Prelude.{cond, eqb, replicate, None, Some, Err, Ok}
use Rattle.controller.specs.declared.State.{State}
use Rattle.controller.specs.declared.State.TheVariants.{Done, Running, Stopped}
use Rattle.controller.specs.Controller.{Answer, Turn}
use Rattle.hoardbutton.specs.declared.controllers.HbController.{HbController}
use Rattle.hoardbutton.specs.declared.controllers.HbControl.{HbControl}
use Rattle.hoardbutton.specs.declared.controllers.HbSending.{HbSending}
use Rattle.hoardbutton.specs.Answers.{low, refused_c}

-- ---- the state

-- outcome 0 is running with so many frames sent, 1 done, 2 stopped at a frame
abbrev pub state_c : State → HbController
state_c (Running n) = record { outcome = 0; count = n }
state_c Done = record { outcome = 1; count = 0 }
state_c (Stopped p) = record { outcome = 2; count = p }

-- any outcome but 0 is an end
abbrev pub state_of : HbController → State
state_of c = cond (eqb c.outcome 0) (Running c.count) Done

-- an end comes back as it was given, whatever its numbers are
abbrev pub behind_c : HbController → State → HbController
behind_c c st = cond (eqb c.outcome 0) (state_c st) c

-- ---- an answer: a refusal keeps the state given, and a refused start gives an end

abbrev pub start_c : Answer → HbControl
start_c (Ok st) = record { refusal = 0; place = 0; state = state_c st }
start_c (Err x) = record { refusal = (refused_c x).refusal; place = (refused_c x).place; state = state_c Done }

abbrev pub hear_c : HbController → Answer → HbControl
hear_c c (Ok st) = record { refusal = 0; place = 0; state = behind_c c st }
hear_c c (Err x) = record { refusal = (refused_c x).refusal; place = (refused_c x).place; state = c }

-- ---- what is sent: over is 1 where nothing is left to do; no bytes, and not over, is the final read

abbrev pub sending_c : Turn → HbSending
sending_c (Ok (Some s)) = record { refusal = 0; place = 0; over = 0; len = low s.len; bytes = s.frame }
sending_c (Ok None) = record { refusal = 0; place = 0; over = 1; len = 0; bytes = replicate 12 0 }
sending_c (Err x) = record { refusal = (refused_c x).refusal; place = (refused_c x).place; over = 0; len = 0; bytes = replicate 12 0 }
