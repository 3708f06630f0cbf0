-- The contract of each public function permits one outcome. Assumes nothing.
use Rattle.once.proofs.Once.{Once, same}
use Rattle.table.proofs as table
use Rattle.table.specs.contracts as contracts

table-once : Once contracts.table.ended table.table.Reads.Pre table.table.Reads.Learnt
table-once κs a h o u p q i = (same p q i, o.1)

forms-once : Once contracts.forms.ended table.forms.Reads.Pre table.forms.Reads.Learnt
forms-once κs a h o u p q i = (same p q i, o.1)

row-at-once : Once contracts.row_at.ended table.row_at.Reads.Pre table.row_at.Reads.Learnt
row-at-once κs a h o u p q i = (same p q i, o.1)

head-at-once : Once contracts.head_at.ended table.head_at.Reads.Pre table.head_at.Reads.Learnt
head-at-once κs a h o u p q i = (same p q i, o.1)

narrow-field-once : Once contracts.narrow_field.ended table.narrow_field.Reads.Pre table.narrow_field.Reads.Learnt
narrow-field-once κs a h o u p q i = (same p q i, o.1)

plain-field-once : Once contracts.plain_field.ended table.plain_field.Reads.Pre table.plain_field.Reads.Learnt
plain-field-once κs a h o u p q i = (same p q i, o.1)

put-plain-once : Once contracts.put_plain.ended table.put_plain.Reads.Pre table.put_plain.Reads.Learnt
put-plain-once κs a h o u p q i = (o.0, (same p q i, o.1.1))

yes-no-once : Once contracts.yes_no.ended table.yes_no.Reads.Pre table.yes_no.Reads.Learnt
yes-no-once κs a h o u p q i = (same p q i, o.1)
