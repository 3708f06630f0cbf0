use mathlib.Core.Path.{◌∙◌}
use native.Mathlib.Omega.{arith}
use Rattle.filling.proofs.Filling.{blanked-image}
use Rattle.book.specs.Book.{ours}
use Rattle.book.proofs.Calls.{make-fits, make-long, make-short}
use Rattle.book.proofs.make.Goals as goal

pub returns-then-book-lt-START : goal.returns-then-book-lt-START
returns-then-book-lt-START c = make-short ours _ c.if-book-lt-START.true

pub returns-then-book-gt-LONGEST : goal.returns-then-book-gt-LONGEST
returns-then-book-gt-LONGEST c = make-long ours _ c.if-book-lt-START.false c.if-book-gt-LONGEST.true

pub returns : goal.returns
returns c =
    make-fits ours _ _ (omega arith) (omega arith) (c.blank.ensures ∙ blanked-image ours _ (omega arith) (omega arith))
