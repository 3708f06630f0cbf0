-- `with_proposal` meets its contract: by what is found so far.
-- Assumes nothing.
use mathlib.Core.Path.{ap, ◌∙◌}
use Prim.Native.Nat.{ℕ}
use Rattle.std.specs.Prelude.{Ok}
use Rattle.bank_list.specs.declared.Found.TheVariants.{Proposals}
use Rattle.bank_list.specs.declared.Listed.{Listed}
use Rattle.bank_list.specs.Banks.{put_at}
use Rattle.bank_list.proofs.States.{proposal-first, proposal-proposals, proposal-surplus}
use Rattle.bank_list.proofs.with_proposal.Goals as goal

pub returns-then-count-eq0 : goal.returns-then-count-eq0
returns-then-count-eq0 c p w e = ap (λ (x : Listed). Ok x) c.put.ensures ∙ proposal-first _ _ _ _ _ p e c.in-Needs.is c.if-count-eq0.true

pub returns-else-count-eq0 : goal.returns-else-count-eq0
returns-else-count-eq0 c p w e = proposal-surplus _ _ _ _ _ p e c.in-Needs.is c.if-count-eq0.false

pub returns-in-Proposals : goal.returns-in-Proposals
returns-in-Proposals c p w e =
    let a = c.args in
    let n = c.in-Proposals.count in
    ap (λ (x : Listed). Ok x) (c.put-in-Proposals.ensures ∙ ap (λ (m : ℕ). put_at (Proposals m) n a.need a.code a.l) c.one_more.ensures)
    ∙ proposal-proposals _ _ _ _ _ p w e c.in-Proposals.is
