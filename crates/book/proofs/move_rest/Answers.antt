use mathlib.Core.Path.{refl}
use native.Mathlib.Omega.{arith}
use Rattle.book.proofs.Refitting.{moved_down, moved_up}
use Rattle.book.proofs.move_rest.Goals as goal

pub returns-then-new-old : goal.returns-then-new-old
returns-then-new-old c =
    moved_down _ _ _ _ _ _ _ _ (omega arith) (omega arith) (omega arith) refl c.slide.ensures
    c.zero.ensures

pub returns : goal.returns
returns c = moved_up _ _ _ _ _ _ _ (omega arith) (omega arith) (omega arith) refl c.slide_up.ensures
