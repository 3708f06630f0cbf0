-- Each answer has the rules that are kept, where the next one is judged: then the rule that is broken, or none.
use mathlib.Core.Path.{sym, ◌∙◌, ◌≡◌}
use mathlib.Core.Bool.{true}
use borrow.Author.Tests.{eq-eqb, ne_eqb}
use Rattle.locker_profile.specs.Rules.{crc, header, optimisation, rate, rules, spreading_factor, syncword, width}
use Rattle.locker_profile.proofs.Rules.{fails-place, kept-none}
use Rattle.locker_profile.proofs.Paths.{broken, kept}
use Rattle.locker_profile.proofs.first_broken.Goals as goal

pub returns-then-breaks_spreading_factor : goal.returns-then-breaks_spreading_factor
returns-then-breaks_spreading_factor c = sym (fails-place 1 0 rules _ (broken _ _ c.breaks_spreading_factor.ensures c.if-breaks_spreading_factor.true))

pub returns-then-breaks_width : goal.returns-then-breaks_width
returns-then-breaks_width c =
    let kept-1 : spreading_factor c.args.lora ≡ true = kept _ _ c.breaks_spreading_factor.ensures c.if-breaks_spreading_factor.false in
    sym (fails-place 1 1 rules _ (kept-1, broken _ _ c.breaks_width.ensures c.if-breaks_width.true))

pub returns-then-breaks_rate : goal.returns-then-breaks_rate
returns-then-breaks_rate c =
    let kept-1 : spreading_factor c.args.lora ≡ true = kept _ _ c.breaks_spreading_factor.ensures c.if-breaks_spreading_factor.false in
    let kept-2 : width c.args.lora ≡ true = kept _ _ c.breaks_width.ensures c.if-breaks_width.false in
    sym (fails-place 1 2 rules _ (kept-1, (kept-2, broken _ _ c.breaks_rate.ensures c.if-breaks_rate.true)))

pub returns-then-lora-code : goal.returns-then-lora-code
unfolding header
returns-then-lora-code c =
    let kept-1 : spreading_factor c.args.lora ≡ true = kept _ _ c.breaks_spreading_factor.ensures c.if-breaks_spreading_factor.false in
    let kept-2 : width c.args.lora ≡ true = kept _ _ c.breaks_width.ensures c.if-breaks_width.false in
    let kept-3 : rate c.args.lora ≡ true = kept _ _ c.breaks_rate.ensures c.if-breaks_rate.false in
    sym (fails-place 1 3 rules _
    (kept-1, (kept-2, (kept-3, ne_eqb _ 0 (λ z. c.if-lora-code.true (z ∙ sym c.code.ensures))))))

pub returns-then-lora-ne1 : goal.returns-then-lora-ne1
unfolding header crc
returns-then-lora-ne1 c =
    let kept-1 : spreading_factor c.args.lora ≡ true = kept _ _ c.breaks_spreading_factor.ensures c.if-breaks_spreading_factor.false in
    let kept-2 : width c.args.lora ≡ true = kept _ _ c.breaks_width.ensures c.if-breaks_width.false in
    let kept-3 : rate c.args.lora ≡ true = kept _ _ c.breaks_rate.ensures c.if-breaks_rate.false in
    let kept-4 : header c.args.lora ≡ true = eq-eqb _ 0 (c.if-lora-code.false ∙ c.code.ensures) in
    sym (fails-place 1 4 rules _ (kept-1, (kept-2, (kept-3, (kept-4, ne_eqb _ 1 c.if-lora-ne1.true)))))

pub returns-then-lora-ne18 : goal.returns-then-lora-ne18
unfolding header crc syncword
returns-then-lora-ne18 c =
    let kept-1 : spreading_factor c.args.lora ≡ true = kept _ _ c.breaks_spreading_factor.ensures c.if-breaks_spreading_factor.false in
    let kept-2 : width c.args.lora ≡ true = kept _ _ c.breaks_width.ensures c.if-breaks_width.false in
    let kept-3 : rate c.args.lora ≡ true = kept _ _ c.breaks_rate.ensures c.if-breaks_rate.false in
    let kept-4 : header c.args.lora ≡ true = eq-eqb _ 0 (c.if-lora-code.false ∙ c.code.ensures) in
    let kept-5 : crc c.args.lora ≡ true = eq-eqb _ 1 c.if-lora-ne1.false in
    sym (fails-place 1 5 rules _ (kept-1, (kept-2, (kept-3, (kept-4, (kept-5, ne_eqb _ 0x12 c.if-lora-ne18.true))))))

pub returns-then-lora-due : goal.returns-then-lora-due
unfolding header crc syncword optimisation
returns-then-lora-due c =
    let kept-1 : spreading_factor c.args.lora ≡ true = kept _ _ c.breaks_spreading_factor.ensures c.if-breaks_spreading_factor.false in
    let kept-2 : width c.args.lora ≡ true = kept _ _ c.breaks_width.ensures c.if-breaks_width.false in
    let kept-3 : rate c.args.lora ≡ true = kept _ _ c.breaks_rate.ensures c.if-breaks_rate.false in
    let kept-4 : header c.args.lora ≡ true = eq-eqb _ 0 (c.if-lora-code.false ∙ c.code.ensures) in
    let kept-5 : crc c.args.lora ≡ true = eq-eqb _ 1 c.if-lora-ne1.false in
    let kept-6 : syncword c.args.lora ≡ true = eq-eqb _ 0x12 c.if-lora-ne18.false in
    sym (fails-place 1 6 rules _
    (kept-1, (kept-2, (kept-3, (kept-4, (kept-5, (kept-6, ne_eqb _ _ (λ z. c.if-lora-due.true (z ∙ sym c.due.ensures)))))))))

pub returns : goal.returns
unfolding header crc syncword optimisation
returns c =
    let kept-1 : spreading_factor c.args.lora ≡ true = kept _ _ c.breaks_spreading_factor.ensures c.if-breaks_spreading_factor.false in
    let kept-2 : width c.args.lora ≡ true = kept _ _ c.breaks_width.ensures c.if-breaks_width.false in
    let kept-3 : rate c.args.lora ≡ true = kept _ _ c.breaks_rate.ensures c.if-breaks_rate.false in
    let kept-4 : header c.args.lora ≡ true = eq-eqb _ 0 (c.if-lora-code.false ∙ c.code.ensures) in
    let kept-5 : crc c.args.lora ≡ true = eq-eqb _ 1 c.if-lora-ne1.false in
    let kept-6 : syncword c.args.lora ≡ true = eq-eqb _ 0x12 c.if-lora-ne18.false in
    sym (kept-none 1 rules _
    (kept-1, (kept-2, (kept-3, (kept-4, (kept-5, (kept-6, (eq-eqb _ _ (c.if-lora-due.false ∙ c.due.ensures), tt))))))))
