-- What the decoder hands over: at most nine arguments and no more than its array has, and the line that the frame prints as.
-- Assumes nothing.
use mathlib.Core.Path.{◌≡◌, sym, ap, ◌∙◌}
use mathlib.Core.List.{List, [], ◌++◌}
use Prim.Native.Nat.{ℕ, ◌+◌, ◌-◌, ◌≤◌}
use native.Mathlib.Omega.{arith}
use Rattle.std.specs.Prelude.{Result, Ok, Err}
use lib.ListN.{length, get_or, take, drop, replicate, length-append, length-take}
use Rattle.refusal.specs.declared.Refusal.{Refusal}
use Rattle.table.specs.Table.{rows, count_of, numbers_of}
use Rattle.decoder.specs.declared.Decoded.{Decoded}
use Rattle.table.specs.Narrowed.{Ready}
use Rattle.decoder.specs.Decoding.{Reading, reading, refuses, decode, decoded}
use Rattle.table.proofs.Rows.{ready}
use Rattle.codec.proofs.Accepted.{Inside, inside, Read, decode-read}
use Rattle.decoder.proofs.Apart.{err-ok}
use Rattle.decoder.proofs.Handed.{decoded-reading, decoded-refuses}
use Rattle.dump_text.specs.Text.{line_of}

pub decode-few : (f : List ℕ) (k : ℕ) (vs : List ℕ) → decode f ≡ reading k vs → length vs ≤ 9
decode-few f k vs e =
    let d : Read f k vs = decode-read f k vs e in
    let r : List ℕ = get_or rows d.at [] in
    let n : Inside (numbers_of r) vs = inside 1 (numbers_of r) vs d.none in
    let z : Ready r = ready d.at d.row in
    omega (arith, n.long, z.few, length-take (count_of r) (drop 4 r))

-- no more arguments than the array has
pub handed-held : (x : Reading) (a : Result Decoded Refusal) (d : Decoded) → a ≡ decoded x → a ≡ Ok d → d.count ≤ length d.args
unfolding decoded
handed-held (refuses why) a d e h = absurd (err-ok (sym e ∙ h))
handed-held (reading k vs) a d e h =
    let zeros : List ℕ = replicate (9 - length vs) 0 in
    let z : ◌≡◌ {A = Result Decoded Refusal} (Ok d) (decoded (reading k vs)) = sym h ∙ e in
    let q : d ≡ record { kind = k; count = length vs; args = vs ++ zeros } = cc in
    let l : length d.args ≡ length vs + length zeros = ap (λ (y : Decoded). length y.args) q ∙ length-append vs zeros in
    omega (arith, ap (λ (y : Decoded). y.count) q)

-- the line of the frame, by what is handed over
module _ (f : List ℕ) (a : Result Decoded Refusal) (e : a ≡ decoded (decode f)) (index : ℕ) where
  pub handed-kind : (d : Decoded) → a ≡ Ok d → line_of index (decode f) ≡ line_of index (reading d.kind (take d.count d.args))
  handed-kind d h = ap (line_of index) (decoded-reading _ _ d e h)

  pub handed-refusal : (why : Refusal) → a ≡ Err why → line_of index (decode f) ≡ line_of index (refuses why)
  handed-refusal why h = ap (line_of index) (decoded-refuses _ _ _ e h)
