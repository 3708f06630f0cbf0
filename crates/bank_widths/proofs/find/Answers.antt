use mathlib.Core.Path.{◌≡◌, sym, ◌∙◌}
use native.Mathlib.Omega.{arith}
use lib.ListN.{length-take}
use Rattle.std.proofs.Common.{rules}
use Rattle.std.specs.Prelude.{Err}
use Rattle.bank_widths.proofs.Banks.{found-judged, found-kept, found_left, found-out, found-written, lengths-say}
use Rattle.bank_widths.proofs.find.Goals as goal

pub returns-then-not-lengths_right-clause-value : goal.returns-then-not-lengths_right-clause-value
returns-then-not-lengths_right-clause-value c = found-out _ c.args.out.now (sym c.lengths_right.ensures ∙ c.if-not-lengths_right.true)

pub returns-then-not-lengths_right-clause-out_after : goal.returns-then-not-lengths_right-clause-out_after
returns-then-not-lengths_right-clause-out_after c = found_left c.args.needs.now _ (sym c.lengths_right.ensures ∙ c.if-not-lengths_right.true)

pub put_codes-requires : goal.put_codes-requires
put_codes-requires c =
    let m = lengths-say _ _ (sym c.lengths_right.ensures ∙ c.if-not-lengths_right.false) in
    omega (arith, m.1)

pub slice_bounds-codes-end : goal.slice_bounds-codes-end
slice_bounds-codes-end c =
    let m = lengths-say _ _ (sym c.lengths_right.ensures ∙ c.if-not-lengths_right.false) in
    omega (arith, m.1)

pub slice_bounds-write-end : goal.slice_bounds-write-end
slice_bounds-write-end c =
    let m = lengths-say _ _ (sym c.lengths_right.ensures ∙ c.if-not-lengths_right.false) in
    simp length-take (omega (arith, m.1))

pub returns-in_err-count-clause-value : goal.returns-in_err-count-clause-value
returns-in_err-count-clause-value c =
    let h = sym c.lengths_right.ensures ∙ c.if-not-lengths_right.false in
    let told : c.from_residual.result ≡ Err c.in_err-count.field-0.0 = search rules in
    told ∙ c.in_err-count.ensures.value ∙ found-judged _ c.args.out.now h

pub returns-in_err-count-clause-out_after : goal.returns-in_err-count-clause-out_after
returns-in_err-count-clause-out_after c =
    let h = sym c.lengths_right.ensures ∙ c.if-not-lengths_right.false in
    found-kept c.args.needs.now _ h _ (sym c.in_err-count.ensures.value)

pub returns-clause-value : goal.returns-clause-value
returns-clause-value c =
    let h = sym c.lengths_right.ensures ∙ c.if-not-lengths_right.false in
    c.in_ok-count.ensures.value ∙ found-judged _ c.args.out.now h

pub returns-clause-out_after : goal.returns-clause-out_after
returns-clause-out_after c =
    let ns = c.args.needs.now in
    let h = sym c.lengths_right.ensures ∙ c.if-not-lengths_right.false in
    let p = c.in_ok-count.ensures in
    c.write.ensures ∙ found-written ns c.args.out.now h _ c.put_codes.new.codes (sym p.value) p.needs_after
