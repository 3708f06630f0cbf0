-- The rules of the locker profile, over what three settings say (REFERENCE, "Locker profile"). Each is a test of its own; which one is told is
-- the list's order.
-- Assumes nothing.
use Rattle.std.specs.Prelude.{ℕ, suc, ◌*◌, ◌^◌, Bool, cond, ◌&&◌, ◌||◌, List, [], ◌∷◌, eqb, leb, Option, None, Some}
use Rattle.cmd_lora.specs.Codes.{header_type_code, ldro_code, lora_bw_code, lora_cr_code, sf_code}
use Rattle.cmd_lora.specs.Methods.{Width, exact_width, over}
use Rattle.cmd_lora.specs.declared.Sf.TheVariants.{Sf7, Sf12}
use Rattle.cmd_lora.specs.declared.LoraBw.{LoraBw}
use Rattle.cmd_lora.specs.declared.LoraBw.TheVariants.{Bw125, Bw250}
use Rattle.cmd_lora.specs.declared.LoraCr.TheVariants.{Cr1Ham45Si, Cr4Ham12Si}
use Rattle.cmd_lora.specs.declared.Ldro.TheVariants.{Off, On}
use Rattle.cmd_lora.specs.declared.HeaderType.TheVariants.{Explicit}
use Rattle.enums.specs.Enums.{lora_bw, values_of}
use Rattle.locker_profile.specs.declared.Lora.{Lora}

-- ---- how long a symbol lasts

-- a fraction of a second: seconds over parts
pub record Time : Type 0 where
  pub seconds : ℕ
  pub parts : ℕ

-- 2^sf over the width
abbrev pub symbol_of : ℕ → Width → Time
symbol_of sf w = record { seconds = 2 ^ sf * w.parts; parts = w.hz }

abbrev pub milliseconds : ℕ → Time
milliseconds n = record { seconds = n; parts = 1000 }

-- whether a time is at least another: products are compared, so that nothing is rounded
abbrev pub is_at_least : Time → Time → Bool
is_at_least t u = leb (u.seconds * t.parts) (t.seconds * u.parts)

-- the exact width that has a code, of these; 0 Hz where none has it, which no frame can say
unfoldable pub width_in : List LoraBw → ℕ → Width
width_in [] c = over 0 1
width_in (w ∷ ws) c = cond (eqb (lora_bw_code w) c) (exact_width w) (width_in ws c)

-- the exact width of a code (REFERENCE, "Widths")
abbrev pub width_of : ℕ → Width
width_of c = width_in (values_of lora_bw) c

-- a symbol is long from 16 ms on
unfoldable pub is_long : ℕ → Width → Bool
is_long sf w = is_at_least (symbol_of sf w) (milliseconds 16)

-- ---- the rules

-- a spreading factor of 7 to 12
unfoldable pub spreading_factor : Lora → Bool
spreading_factor x = leb (sf_code Sf7) x.sf && leb x.sf (sf_code Sf12)

-- 125 or 250 kHz
unfoldable pub width : Lora → Bool
width x = eqb x.lora_bw (lora_bw_code Bw125) || eqb x.lora_bw (lora_bw_code Bw250)

-- one of the four coding rates with short interleaving, whose codes are neighbours; no coding is none of them
unfoldable pub rate : Lora → Bool
rate x = leb (lora_cr_code Cr1Ham45Si) x.lora_cr && leb x.lora_cr (lora_cr_code Cr4Ham12Si)

-- packets carry their header
unfoldable pub header : Lora → Bool
header x = eqb x.header_type (header_type_code Explicit)

-- packets carry a CRC
unfoldable pub crc : Lora → Bool
crc x = eqb x.crc_en 1

-- kind 4 has the syncword 0x12
unfoldable pub syncword : Lora → Bool
syncword x = eqb x.syncword 0x12

-- low data rate optimisation is due where a symbol is long, and only there
unfoldable pub due_for : Lora → ℕ
due_for x = cond (is_long x.sf (width_of x.lora_bw)) (ldro_code On) (ldro_code Off)

-- it is on where it is due, and off where it is not
unfoldable pub optimisation : Lora → Bool
optimisation x = eqb x.ldro (due_for x)

-- in the order in which they are told
abbrev pub rules : List (Lora → Bool)
rules = spreading_factor ∷ width ∷ rate ∷ header ∷ crc ∷ syncword ∷ optimisation ∷ []

-- the place of the first test that fails, where the list's first has the place n; none where all hold
unfoldable pub first_broken : ℕ → List (Lora → Bool) → Lora → Option ℕ
first_broken n [] x = None
first_broken n (t ∷ ts) x = cond (t x) (first_broken (suc n) ts x) (Some n)
