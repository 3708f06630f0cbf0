-- The contract of the public function permits one outcome. Assumes nothing.
use Rattle.once.proofs.Once.{Once, same}
use Rattle.control_text.proofs as control_text
use Rattle.control_text.specs.contracts as contracts

play-once : Once contracts.play.ended control_text.play.Reads.Pre control_text.play.Reads.Learnt
play-once κs a h o u p q i = (same p.0 q.0 i, (o.1.0, (o.1.1.0, (same p.1.0 q.1.0 i, o.1.1.1.1))))
