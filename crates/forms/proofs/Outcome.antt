-- The contract of each public function permits one outcome. Assumes nothing.
use Rattle.once.proofs.Once.{Once, same}
use Rattle.forms.proofs as forms
use Rattle.forms.specs.contracts as contracts

other-form-once : Once contracts.other_form.ended forms.other_form.Reads.Pre forms.other_form.Reads.Learnt
other-form-once κs a h o u p q i = (same p q i, o.1)

both-forms-once : Once contracts.both_forms.ended forms.both_forms.Reads.Pre forms.both_forms.Reads.Learnt
both-forms-once κs a h o u p q i = (same p q i, o.1)
