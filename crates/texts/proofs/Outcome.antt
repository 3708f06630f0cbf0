-- The contract of each public function permits one outcome.
-- Assumes nothing.
use Rattle.once.proofs.Once.{Once, same}
use Rattle.texts.proofs as texts
use Rattle.texts.specs.contracts as contracts

put-byte-once : Once contracts.put_byte.ended texts.put_byte.Reads.Pre texts.put_byte.Reads.Learnt
put-byte-once κs a h o u p q i = (same p.ends q.ends i, (same p.stands q.stands i, o.1.1))

put-text-once : Once contracts.put_text.ended texts.put_text.Reads.Pre texts.put_text.Reads.Learnt
put-text-once κs a h o u p q i = (same p.ends q.ends i, (same p.stands q.stands i, o.1.1))

last-digit-once : Once contracts.last_digit.ended texts.last_digit.Reads.Pre texts.last_digit.Reads.Learnt
last-digit-once κs a h o u p q i = (same p q i, o.1)

put-decimal-once : Once contracts.put_decimal.ended texts.put_decimal.Reads.Pre texts.put_decimal.Reads.Learnt
put-decimal-once κs a h o u p q i = (same p.ends q.ends i, (same p.stands q.stands i, o.1.1))

put-word-once : Once contracts.put_word.ended texts.put_word.Reads.Pre texts.put_word.Reads.Learnt
put-word-once κs a h o u p q i = (same p.ends q.ends i, (same p.stands q.stands i, o.1.1))

put-piece-once : Once contracts.put_piece.ended texts.put_piece.Reads.Pre texts.put_piece.Reads.Learnt
put-piece-once κs a h o u p q i = (same p.ends q.ends i, (same p.stands q.stands i, o.1.1))

put-form-once : Once contracts.put_form.ended texts.put_form.Reads.Pre texts.put_form.Reads.Learnt
put-form-once κs a h o u p q i = (same p.ends q.ends i, (same p.stands q.stands i, o.1.1))
