-- The contract of each public function permits one outcome. Assumes nothing.
use Rattle.once.proofs.Once.{Once, same}
use Rattle.spans.proofs as spans
use Rattle.spans.specs.contracts as contracts

write-once : Once contracts.write.ended spans.write.Reads.Pre spans.write.Reads.Learnt
write-once κs a h o u p q i = (o.0, (same p q i, o.1.1))

slide-once : Once contracts.slide.ended spans.slide.Reads.Pre spans.slide.Reads.Learnt
slide-once κs a h o u p q i = (o.0, (same p q i, o.1.1))

slide-up-once : Once contracts.slide_up.ended spans.slide_up.Reads.Pre spans.slide_up.Reads.Learnt
slide-up-once κs a h o u p q i = (o.0, (same p q i, o.1.1))

zero-once : Once contracts.zero.ended spans.zero.Reads.Pre spans.zero.Reads.Learnt
zero-once κs a h o u p q i = (o.0, (same p q i, o.1.1))

put-word-once : Once contracts.put_word.ended spans.put_word.Reads.Pre spans.put_word.Reads.Learnt
put-word-once κs a h o u p q i = (o.0, (same p q i, o.1.1))
