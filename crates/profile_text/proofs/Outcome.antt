-- The contract of the public function permits one outcome. Assumes nothing.
use Rattle.once.proofs.Once.{Once, same}
use Rattle.profile_text.proofs as profile_text
use Rattle.profile_text.specs.contracts as contracts

answer-once : Once contracts.answer.ended profile_text.answer.Reads.Pre profile_text.answer.Reads.Learnt
answer-once κs a h o u p q i = (same p.0 q.0 i, (o.1.0, (same p.1.0 q.1.0 i, o.1.1.1)))
