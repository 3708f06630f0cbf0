use native.Mathlib.Omega.{arith}
use Rattle.contents.proofs.Judged.{Bytes}
use Rattle.book.specs.Book.{ours}
use Rattle.book.proofs.Putting.{put-over}
use Rattle.book.proofs.Calls.{Holds, opened-holds, permits}
use Rattle.book.proofs.put_setting.Goals as goal

pub returns-then-at-ne0 : goal.returns-then-at-ne0
returns-then-at-ne0 c =
    let bytes : Bytes c.args.book.now = λ i. (c.slice_known-1.given i).fits in
    let known : Holds ours c.args.book.now = opened-holds ours _ 0 c.requires.0 in
    let p = c.requires in
    permits _ _ _ _
    (put-over ours _ bytes known _ _ p.1 p.2 (omega arith) _ c.offset-at.ensures.0 _ c.if-at-ne0.true
    c.write.ensures)
