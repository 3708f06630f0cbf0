-- `put_line` meets its contract: a line by what the decoder answers.
-- Assumes nothing.
use mathlib.Core.Path.{◌≡◌, ap, sym}
use native.Mathlib.Omega.{arith}
use borrow.Author.Rules.{rules}
use Rattle.std.proofs.lemmas.List.{length-take-le}
use lib.ListN.{length}
use Rattle.dump_text.proofs.Writing.{puts-as}
use Rattle.dump_text.proofs.Arguments.{handed-held, handed-kind, handed-refusal}
use Rattle.dump_text.proofs.put_line.Goals as goal

pub shared_ref_as_front-put_kind : goal.shared_ref_as_front-put_kind
shared_ref_as_front-put_kind c =
    let n : length c.in-Ok.d.args ≡ 9 = search rules in
    omega (arith, n, handed-held _ _ _ c.decode-answer.ensures c.in-Ok.is)

pub slice_bounds-put_kind-end : goal.slice_bounds-put_kind-end
slice_bounds-put_kind-end c = sym (length-take-le _ _ (handed-held _ _ _ c.decode-answer.ensures c.in-Ok.is))

pub put_kind-requires : goal.put_kind-requires
put_kind-requires c =
    let a = c.args in
    omega (arith, ap length (handed-kind a.frame.now c.decode-answer.result c.decode-answer.ensures a.index c.in-Ok.d c.in-Ok.is))

pub put_refusal-requires : goal.put_refusal-requires
put_refusal-requires c =
    let a = c.args in
    omega (arith, ap length (handed-refusal a.frame.now c.decode-answer.result c.decode-answer.ensures a.index c.in-Err.why c.in-Err.is))

pub returns-in-Ok : goal.returns-in-Ok
returns-in-Ok c =
    let a = c.args in
    puts-as _ (handed-kind a.frame.now c.decode-answer.result c.decode-answer.ensures a.index c.in-Ok.d c.in-Ok.is) c.put_kind.ensures

pub returns-in-Err : goal.returns-in-Err
returns-in-Err c =
    let a = c.args in
    puts-as _ (handed-refusal a.frame.now c.decode-answer.result c.decode-answer.ensures a.index c.in-Err.why c.in-Err.is) c.put_refusal.ensures
