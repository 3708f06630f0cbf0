use Rattle.std.proofs.Common.{ℕ, ◌-◌, ap, arith, length, refl, take, ◌∙◌}
use Rattle.front.proofs.Readers.{span-none, moved-fetches, slid-span, slid-long}
use Rattle.front.proofs.Front.refill.Goals as goal

pub returns-then-have-from : goal.returns-then-have-from
returns-then-have-from c = moved-fetches _ _ _ _ _ _ (span-none _ _ _ c.then-have-from.either) refl c.read_on.ensures

pub returns : goal.returns
returns c =
    let a = c.args in
    let n : ℕ = a.have - a.from in
    moved-fetches _ _ _ _ _ _
    (ap (take n) c.slide.ensures ∙ slid-span a.s.now a.from a.have (omega arith) (omega arith))
    (ap length c.slide.ensures ∙ slid-long a.s.now a.from a.have (omega arith) (omega arith))
    c.read_on-2.ensures
