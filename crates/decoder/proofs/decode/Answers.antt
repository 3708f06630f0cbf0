use mathlib.Core.Path.{sym, ap, ◌∙◌}
use Rattle.std.specs.Prelude.{Err}
use Rattle.std.proofs.lemmas.Result.{err_from_is_err_and}
use Rattle.decoder.specs.Decoding.{decoded}
use Rattle.decoder.proofs.Returns.{decode-short, row-place, row-length, decode-row, decode-refused}
use Rattle.decoder.proofs.decode.Goals as goal

pub returns-then-n-lt2 : goal.returns-then-n-lt2
unfolding decoded
returns-then-n-lt2 c = ap decoded (sym (decode-short c.args.frame.now c.if-n-lt2.true))

pub returns-in_err-i : goal.returns-in_err-i
unfolding decoded
returns-in_err-i c =
    let o = c.opcode_of in
    let p = err_from_is_err_and c.from_residual.result c.from_residual.ensures.1 in
    p.1 ∙ ap Err p.2
    ∙ ap decoded (decode-refused c.args.frame.now o.result c.seek.result o.ensures c.seek.ensures _ c.in_err-i.was c.if-n-lt2.false)

pub judge-requires : goal.judge-requires
judge-requires c =
    let f = c.args.frame.now in
    let o = c.opcode_of in (
      row-place f o.result c.seek.result o.ensures c.seek.ensures _ c.in_ok-i.was,
      row-length f o.result c.seek.result o.ensures c.seek.ensures _ c.in_ok-i.was,
    )

pub returns : goal.returns
returns c =
    let f = c.args.frame.now in
    let o = c.opcode_of in
    c.judge.ensures
    ∙ ap decoded (decode-row f o.result c.seek.result o.ensures c.seek.ensures _ c.in_ok-i.was c.if-n-lt2.false)
