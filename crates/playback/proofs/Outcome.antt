-- The contract of each public function permits one outcome. Assumes nothing.
use Rattle.once.proofs.Once.{Once, same}
use Rattle.playback.proofs as playback
use Rattle.playback.specs.contracts as contracts

start-once : Once contracts.start.ended playback.start.Reads.Pre playback.start.Reads.Learnt
start-once κs a h o u p q i = (same p q i, o.1)

is-over-once : Once contracts.is_over.ended playback.is_over.Reads.Pre playback.is_over.Reads.Learnt
is-over-once κs a h o u p q i = (same p q i, o.1)

end-once : Once contracts.end.ended playback.end.Reads.Pre playback.end.Reads.Learnt
end-once κs a h o u p q i = (same p q i, o.1)

pass-once : Once contracts.pass.ended playback.pass.Reads.Pre playback.pass.Reads.Learnt
pass-once κs a h o u p q i = (same p.0 q.0 i, (o.1.0, (same p.1 q.1 i, o.1.1.1)))

play-once : Once contracts.play.ended playback.play.Reads.Pre playback.play.Reads.Learnt
play-once κs a h o u p q i = (same p.0 q.0 i, (o.1.0, (same p.1 q.1 i, o.1.1.1)))
