use mathlib.Core.Path.{◌≡◌, refl, sym, ap, ◌∙◌}
use mathlib.Core.Bool.{cond}
use mathlib.Core.List.{List, [], ◌∷◌, ◌++◌}
use Prim.Native.Nat.{ℕ, ◌+◌}
use native.Mathlib.Numerals.{add-one}
use native.Mathlib.Omega.{arith}
use lib.ListN.{get_or, take}
use Rattle.rx_bw.specs.Width.{is_named}
use Rattle.rx_bw.proofs.Names.{names_at}
use Rattle.bank_widths.specs.Keys.{key_of, keys_below, listed_keys}
use Rattle.bank_widths.proofs.put_keys.Goals as goal

pub loop-code-init : goal.loop-code-init
unfolding keys_below
loop-code-init c = (omega arith, omega arith, refl)

pub put_key-count-requires : goal.put_key-count-requires
put_key-count-requires c = (
  omega arith,
  ap (λ (l : List ℕ). get_or l c.loop-code.code 0) c.rx_bw_names-names.ensures ∙ names_at c.loop-code.code (omega arith),
)

pub loop-code-preserved : goal.loop-code-preserved
unfolding keys_below
loop-code-preserved c =
    let p = c.put_key-count.ensures in
    let l = c.loop-code in
    let more : List ℕ = cond (is_named l.code) (key_of l.code ∷ []) [] in
    let next : take l.count l.all ++ more ≡ keys_below (l.code + 1) = ap (λ (ks : List ℕ). ks ++ more) l.invariant.2 ∙ sym (ap keys_below (add-one l.code)) in
    (omega arith, p.upper_bound.1 ∙ l.invariant.1, p.keys_after ∙ next)

pub returns : goal.returns
unfolding listed_keys
returns c =
    let l = c.loop-code in
    let last : l.code ≡ 256 = omega arith in
    (omega arith, l.invariant.2 ∙ ap keys_below last)
