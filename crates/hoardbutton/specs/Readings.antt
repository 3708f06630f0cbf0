-- The widths of `LoraBw` by code.
-- Assumes nothing.
use Rattle.std.specs.Prelude.{ℕ, cond, List, [], ◌∷◌, ltb, get_or}
use Rattle.cmd_lora.specs.declared.LoraBw.{LoraBw}
use Rattle.cmd_lora.specs.declared.LoraBw.TheVariants.{Bw7, Bw15, Bw31, Bw62, Bw125, Bw250, Bw500, Bw1000, Bw10, Bw20, Bw41, Bw83, Bw101, Bw203, Bw406, Bw812}
use Rattle.cmd_lora.specs.Methods.{hz_of}

-- the widths in the order of their codes, 0 to 15 (`widths-codes`, proofs/Whole.antt)
abbrev pub widths : List LoraBw
widths = Bw7 ∷ Bw15 ∷ Bw31 ∷ Bw62 ∷ Bw125 ∷ Bw250 ∷ Bw500 ∷ Bw1000 ∷ Bw10 ∷ Bw20 ∷ Bw41 ∷ Bw83 ∷ Bw101 ∷ Bw203 ∷ Bw406 ∷ Bw812 ∷ []

abbrev pub bw_of : ℕ → LoraBw
bw_of code = get_or widths code Bw7

abbrev pub hz_c : ℕ → ℕ
hz_c code = cond (ltb code 16) (hz_of (bw_of code)) 0
