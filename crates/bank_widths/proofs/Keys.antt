-- The list of keys, code by code: a code without a name adds none (`keys-pass`), and one with a name adds its key (`keys-next`).
-- Assumes nothing.
use mathlib.Core.Path.{◌≡◌, ap, sym, ◌∙◌}
use mathlib.Core.Bool.{Bool, true, false, cond, not}
use mathlib.Core.List.{List, [], ◌∷◌, ◌++◌, append-nil}
use Prim.Native.Nat.{ℕ, ◌+◌, ◌<◌}
use native.Mathlib.Numerals.{add-one}
use borrow.Author.Tests.{eq-eqb, ne_eqb}
use lib.ListN.{length, set, take}
use lib.Seq.{take-suc-set}
use Rattle.rx_bw.specs.Width.{is_named, name_of}
use Rattle.rx_bw.proofs.Names.{named-name}
use Rattle.bank_widths.specs.Keys.{key_of}

module _ (ks : List ℕ) (n c name : ℕ) (e : name ≡ name_of c) where
  pub keys-pass : name ≡ 0 → take n ks ≡ take n ks ++ cond (is_named c) (key_of c ∷ []) []
  keys-pass z =
      let no : is_named c ≡ false = named-name c ∙ ap not (eq-eqb (name_of c) 0 (sym e ∙ z)) in
      sym (ap (λ (b : Bool). take n ks ++ cond b (key_of c ∷ []) []) no ∙ append-nil (take n ks))

  pub keys-next : (name ≡ 0 → ⊥) → n < length ks → {k : ℕ} → k ≡ key_of c → take (n + 1) (set ks n k) ≡ take n ks ++ cond (is_named c) (key_of c ∷ []) []
  keys-next z h {k} f =
      let yes : is_named c ≡ true = named-name c ∙ ap not (ne_eqb (name_of c) 0 (λ w. z (e ∙ w))) in
      ap (λ (m : ℕ). take m (set ks n k)) (add-one n)
      ∙ take-suc-set ks n k h
      ∙ ap (λ (x : ℕ). take n ks ++ (x ∷ [])) f
      ∙ sym (ap (λ (b : Bool). take n ks ++ cond b (key_of c ∷ []) []) yes)

-- what the check tries at the goals of `put_key`
pub ruleset key_steps = (keys-pass, keys-next)
