-- `hz_of` is the exact width rounded down: in parts of a Hz it is not above the width, and one Hz more is. For every width.
-- Assumes nothing.
use Prim.Native.Nat.{ℕ, ◌+◌, ◌*◌, ◌/◌, ◌≤◌, ◌<◌}
use native.Mathlib.Omega.{arith}
use native.Mathlib.Nat.{div-add-mod', mod-lt}
use lib.Dec.{T, ltb, ltb→lt}
use Rattle.cmd_lora.specs.declared.LoraBw.{LoraBw}
use Rattle.cmd_lora.specs.declared.LoraBw.TheVariants.{Bw7, Bw15, Bw31, Bw62, Bw125, Bw250, Bw500, Bw1000, Bw10, Bw20, Bw41, Bw83, Bw101, Bw203, Bw406, Bw812}
use Rattle.cmd_lora.specs.Methods.{exact_width, hz_of}

floor-below : (n d : ℕ) → n / d * d ≤ n
floor-below n d = omega (arith, div-add-mod' n d)

floor-next : (n d : ℕ) → 0 < d → n < n / d * d + d
floor-next n d h = omega (arith, div-add-mod' n d, mod-lt n h)

parted : (w : LoraBw) → T (ltb 0 (exact_width w).parts)
parted Bw7 = tt
parted Bw15 = tt
parted Bw31 = tt
parted Bw62 = tt
parted Bw125 = tt
parted Bw250 = tt
parted Bw500 = tt
parted Bw1000 = tt
parted Bw10 = tt
parted Bw20 = tt
parted Bw41 = tt
parted Bw83 = tt
parted Bw101 = tt
parted Bw203 = tt
parted Bw406 = tt
parted Bw812 = tt

pub hz-below : (w : LoraBw) → hz_of w * (exact_width w).parts ≤ (exact_width w).hz
hz-below w = floor-below (exact_width w).hz (exact_width w).parts

pub hz-next : (w : LoraBw) → (exact_width w).hz < hz_of w * (exact_width w).parts + (exact_width w).parts
hz-next w = floor-next (exact_width w).hz (exact_width w).parts (ltb→lt _ _ (parted w))
