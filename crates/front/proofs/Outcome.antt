-- The contract of each public function that answers nothing permits one outcome: what it reads it leaves. Of the others, whose answer is the system's,
-- nothing can fix it.
-- Assumes nothing.
use Rattle.once.proofs.Once.{Once}
use Rattle.front.proofs as front
use Rattle.front.specs.contracts as contracts

cannot-read-once : Once contracts.Front.cannot_read.ended front.Front.cannot_read.Reads.Pre front.Front.cannot_read.Reads.Learnt
cannot-read-once κs a h o u p q i = o

wrong-input-once : Once contracts.Front.wrong_input.ended front.Front.wrong_input.Reads.Pre front.Front.wrong_input.Reads.Learnt
wrong-input-once κs a h o u p q i = o

wrong-line-once : Once contracts.Front.wrong_line.ended front.Front.wrong_line.Reads.Pre front.Front.wrong_line.Reads.Learnt
wrong-line-once κs a h o u p q i = o

wrong-call-once : Once contracts.Front.wrong_call.ended front.Front.wrong_call.Reads.Pre front.Front.wrong_call.Reads.Learnt
wrong-call-once κs a h o u p q i = o

close-once : Once contracts.close.ended front.close.Reads.Pre front.close.Reads.Learnt
close-once κs a h o u p q i = o
