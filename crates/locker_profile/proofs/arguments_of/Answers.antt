use Rattle.locker_profile.proofs.Asking.{handed-reading, handed-refuses}
use Rattle.locker_profile.proofs.arguments_of.Goals as goal

pub returns-in-Ok : goal.returns-in-Ok
returns-in-Ok c = handed-reading _ _ _ c.decode-answer.ensures c.in-Ok.is

pub returns-in-Err : goal.returns-in-Err
returns-in-Err c = handed-refuses _ _ _ c.decode-answer.ensures c.in-Err.is
