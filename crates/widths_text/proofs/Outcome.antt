-- The contract of the public function permits one outcome. Assumes nothing.
use Rattle.once.proofs.Once.{Once, same}
use Rattle.widths_text.proofs as widths_text
use Rattle.widths_text.specs.contracts as contracts

answer-once : Once contracts.answer.ended widths_text.answer.Reads.Pre widths_text.answer.Reads.Learnt
answer-once κs a h o u p q i = (same p.0 q.0 i, (o.1.0, (same p.1.0 q.1.0 i, o.1.1.1)))
