-- The contract of each public function permits one outcome. Assumes nothing.
use Rattle.once.proofs.Once.{Once, same}
use Rattle.status_list.proofs as status_list
use Rattle.status_list.specs.contracts as contracts

next-once : Once contracts.next.ended status_list.next.Reads.Pre status_list.next.Reads.Learnt
next-once κs a h o u p q i = (same p q i, o.1)

line-of-once : Once contracts.line_of.ended status_list.line_of.Reads.Pre status_list.line_of.Reads.Learnt
line-of-once κs a h o u p q i = (same p q i, o.1)

is-blank-once : Once contracts.is_blank.ended status_list.is_blank.Reads.Pre status_list.is_blank.Reads.Learnt
is-blank-once κs a h o u p q i = (same p q i, o.1)
