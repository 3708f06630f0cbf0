use mathlib.Core.Path.{ap, ◌∙◌}
use lib.Dec.{leb}
use Prim.Native.Nat.{ℕ}
use Rattle.std.proofs.Common.{rules}
use Rattle.std.specs.List.{filter}
use Rattle.bank_widths.proofs.Passing.{passed-most}
use Rattle.bank_widths.proofs.greatest.Goals as goal

-- the chain from its last call back to the keys
pub returns-clause-most : goal.returns-clause-most
returns-clause-most c =
    let m = c.max.ensures.runs in
    let f = c.filter.ensures.runs m.0 m.0.seen m.1 in
    let k = c.copied.ensures.runs f.0 f.0.seen f.1 in
    let i = c.iter.ensures.runs k.0 k.0.seen in
    let keys = k.2.2 ∙ i.4 (k.2.0 ∙ f.2.0 ∙ m.2) ∙ ap (λ s. s.rest.now) k.1 ∙ c.iter.ensures.rest in
    let passed = f.2.4 (λ (k : ℕ). leb k c.args.limit) (search rules) ∙ ap (filter (λ (k : ℕ). leb k c.args.limit)) keys in
    passed-most c.args.limit _ m.0.items passed m.0.len m.0.at m.0.long m.0.reads _ _ m.3
