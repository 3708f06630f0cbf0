-- `with_need` meets its contract: by what is found so far.
-- Assumes nothing.
use mathlib.Core.Path.{ap, ◌∙◌}
use Prim.Native.Nat.{ℕ}
use Rattle.std.specs.Prelude.{Ok}
use Rattle.bank_list.specs.declared.Found.TheVariants.{Needs}
use Rattle.bank_list.specs.declared.Listed.{Listed}
use Rattle.bank_list.specs.Banks.{put_at}
use Rattle.bank_list.proofs.States.{need-needs, need-proposals}
use Rattle.bank_list.proofs.with_need.Goals as goal

pub returns-in-Needs : goal.returns-in-Needs
returns-in-Needs c p w e =
    let a = c.args in
    let n = c.in-Needs.count in
    ap (λ (x : Listed). Ok x) (c.put.ensures ∙ ap (λ (m : ℕ). put_at (Needs m) n a.need 0 a.l) c.one_more.ensures)
    ∙ need-needs _ _ _ _ p e c.in-Needs.is

pub returns-in-Proposals : goal.returns-in-Proposals
returns-in-Proposals c p w e = need-proposals _ _ _ _ p e c.in-Proposals.is
