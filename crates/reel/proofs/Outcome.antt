-- The contract of each public function permits one outcome. Assumes nothing.
use Rattle.once.proofs.Once.{Once, same}
use Rattle.reel.proofs as reel
use Rattle.reel.specs.contracts as contracts

new-once : Once contracts.Cursor.new.ended reel.Cursor.new.Reads.Pre reel.Cursor.new.Reads.Learnt
new-once κs a h o u p q i = (same p q i, o.1)

step-once : Once contracts.Cursor.step.ended reel.Cursor.step.Reads.Pre reel.Cursor.step.Reads.Learnt
step-once κs a h o u p q i = (same p q i, o.1)
