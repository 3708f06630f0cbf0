use mathlib.Core.Path.{ap, refl, sym, ◌∙◌}
use mathlib.Core.List.{List}
use Prim.Native.Nat.{ℕ}
use native.Mathlib.Nat.{sub-zero}
use native.Mathlib.Omega.{arith}
use lib.ListN.{take}
use Rattle.decoder.specs.Decoding.{decode}
use Rattle.std.specs.Prelude.{Ok}
use Rattle.locker_profile.specs.Steps.{handed, withheld}
use Rattle.locker_profile.proofs.Asking.{ask-held, ask-missing, ask-most}
use Rattle.locker_profile.proofs.asked.Goals as goal

pub slice_bounds-arguments_of-end : goal.slice_bounds-arguments_of-end
slice_bounds-arguments_of-end c =
    omega (arith, ask-most c.args.kind c.requires _ refl _ c.in-Ok.n (sym c.in-Ok.is ∙ c.ask-answer.ensures.0))

pub returns-in-Ok : goal.returns-in-Ok
returns-in-Ok c =
    let m = c.in-Ok.n in
    ap (λ (l : List ℕ). Ok l)
    (c.arguments_of-args.ensures ∙ ap (λ (j : ℕ). handed (decode (take j c.ask-answer.new.out))) (sub-zero m))
    ∙ ask-held _ c.requires _ refl _ m _ (sym c.in-Ok.is ∙ c.ask-answer.ensures.0) c.ask-answer.ensures.1

pub returns-in-Err : goal.returns-in-Err
returns-in-Err c =
    ap withheld c.missing.ensures
    ∙ ask-missing _ c.requires _ refl _ c.in-Err.why (sym c.in-Err.is ∙ c.ask-answer.ensures.0)
