-- What a caller of `decode` learns from the record that it hands over: the answer of the specification, without the zeros behind it.
-- Assumes nothing.
use mathlib.Core.Path.{◌≡◌, refl, sym, ap, ap₂, ◌∙◌}
use mathlib.Core.List.{◌++◌}
use Prim.Native.Nat.{◌-◌}
use Rattle.std.specs.Prelude.{Result, Ok, Err}
use lib.ListN.{length, take, replicate}
use lib.Seq.{take_at}
use Rattle.refusal.specs.declared.Refusal.{Refusal}
use Rattle.decoder.specs.declared.Decoded.{Decoded}
use Rattle.decoder.specs.Decoding.{Reading, reading, refuses, decoded}
use Rattle.decoder.proofs.Apart.{err-ok}

pub decoded-reading : (x : Reading) (a : Result Decoded Refusal) (d : Decoded) → a ≡ decoded x → a ≡ Ok d → x ≡ reading d.kind (take d.count d.args)
unfolding decoded
decoded-reading (refuses r) a d e h = absurd (err-ok (sym e ∙ h))
decoded-reading (reading k vs) a d e h =
    let z : ◌≡◌ {A = Result Decoded Refusal} (Ok d) (decoded (reading k vs)) = sym h ∙ e in
    let q : d ≡ record { kind = k; count = length vs; args = vs ++ replicate (9 - length vs) 0 } = cc in
    ap₂ reading (sym (ap (λ (y : Decoded). y.kind) q))
    (sym (ap (λ (y : Decoded). take y.count y.args) q ∙ take_at vs (replicate (9 - length vs) 0) (length vs) refl))

pub decoded-refuses : (x : Reading) (a : Result Decoded Refusal) (r : Refusal) → a ≡ decoded x → a ≡ Err r → x ≡ refuses r
unfolding decoded
decoded-refuses (refuses s) a r e h =
    let z : ◌≡◌ {A = Result Decoded Refusal} (Err s) (Err r) = sym e ∙ h in
    let q : s ≡ r = cc in
    ap refuses q
decoded-refuses (reading k vs) a r e h = absurd (err-ok (sym h ∙ e))
