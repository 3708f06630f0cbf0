use mathlib.Core.Path.{refl}
use native.Mathlib.Omega.{arith}
use Rattle.day.proofs.Days.{sent-setting, sent-refused, sent-action}
use Rattle.day.proofs.send.Goals as goal

pub returns-then-slot_for-lt-SETTINGS : goal.returns-then-slot_for-lt-SETTINGS
returns-then-slot_for-lt-SETTINGS c =
    let whole = sent-setting _ _ _ _ c.decode-found.ensures _ _ _ _ c.in-Ok.is (omega (arith, c.slot_for.ensures)) c.tally.ensures c.put.ensures in
    record { value = whole.0; book_after = whole.1 }

pub returns-else-slot_for-lt-SETTINGS : goal.returns-else-slot_for-lt-SETTINGS
returns-else-slot_for-lt-SETTINGS c =
    let whole = sent-action _ _ _ _ c.decode-found.ensures _ _ _ c.in-Ok.is (omega (arith, c.slot_for.ensures)) c.note.ensures refl in
    record { value = whole.0; book_after = whole.1 }

pub returns-in-Err : goal.returns-in-Err
returns-in-Err c =
    let whole = sent-refused _ _ _ _ c.decode-found.ensures _ _ _ _ c.in-Err.is c.tally-in-Err.ensures c.put-in-Err.ensures in
    record { value = whole.0; book_after = whole.1 }
