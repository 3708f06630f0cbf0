-- `body` meets its contract: by whether a carriage return is taken off.
-- Assumes nothing.
use mathlib.Core.Path.{◌≡◌, ap, ◌∙◌}
use mathlib.Core.Bool.{false, true}
use mathlib.Core.List.{List, [], ◌∷◌}
use Prim.Native.Nat.{ℕ, ◌+◌, ◌-◌}
use denote.Ref.{Bor}
use lib.Dec.{eqb}
use lib.ListN.{drop, length, take}
use lib.Pointwise.{pointwise}
use Rattle.std.specs.Prelude.{None, Option, Some}
use Rattle.std.specs.Option.{MatchOption, unwrap_or}
use Rattle.bank_list.specs.Lines.{body_of}
use Rattle.bank_list.proofs.Said.{body-cut, body-whole}
use Rattle.bank_list.proofs.body.Goals as goal

module _ (line : Bor (List ℕ)) where
  abbrev l : List ℕ
  l = line.now

  abbrev Cut : Bor (List ℕ) → Type 0
  Cut x = (pointwise eqb (drop (length l - 1) l) (13 ∷ []) ≡ true) × (x.now ≡ take (length l - 1) l) × (length x.now + 1 ≡ length l)

  taken : (r : Option (Bor (List ℕ))) → MatchOption r (pointwise eqb (drop (length l - 1) l) (13 ∷ []) ≡ false) Cut → (unwrap_or r line).now ≡ body_of l
  taken None m = body-whole l m
  taken (Some x) m = m.1 ∙ body-cut l m.0

pub returns : goal.returns
returns c = ap (λ (x : Bor (List ℕ)). x.now) c.unwrap_or.ensures ∙ taken c.args.line c.strip_suffix.result c.strip_suffix.ensures.cases
