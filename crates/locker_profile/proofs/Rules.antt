-- The first test of a list that fails, and what the seven rules ask in numbers.
--     kept-none, none_kept        no test fails exactly if each holds
--     fails-place, place-fails    the place is that of a test which fails while those before it hold, and of no other
--     place-most                  and lies in the list
--     spreading-factor-is and its like      each rule in numbers: it is kept exactly if they are so, whatever the other arguments are
--     kept-means, means-kept      and so all seven
--     passing                     and by the names of the enums: which spreading factors, widths and rates pass rules 1 to 3
--     long-pairs                  of the pairs that rules 1 and 2 let through, three have long symbols
--     sixteen-long                a symbol of 16 ms sharp would be long,
--     never-sharp                 but no spreading factor and width have one
-- Assumes nothing.
use mathlib.Core.Path.{ap, refl, sym, ◌∙◌, ◌≡◌}
use mathlib.Core.Bool.{Bool, cond, false, false≢true, true, ◌&&◌, ◌||◌}
use mathlib.Core.List.{List, [], ◌∷◌}
use mathlib.Core.Logic.{inl, inr, ◌↔◌, ◌⊎◌}
use Prim.Native.Nat.{ℕ, suc, zero, ◌*◌, ◌+◌, ◌<◌, ◌≤◌, ◌^◌}
use native.Mathlib.Omega.{arith}
use borrow.Author.Tests.{eq-eqb, eqb-true, le-leb, leb-true}
use lib.Dec.{eqb, leb}
use lib.ListN.{length}
use Rattle.std.specs.Prelude.{None, Some}
use Rattle.settings.proofs.Settings.{both}
use Rattle.cmd_lora.specs.Codes.{lora_bw_code, lora_cr_code, sf_code}
use Rattle.cmd_lora.specs.Methods.{Width, exact_width, over}
use Rattle.cmd_lora.specs.declared.LoraBw.{LoraBw}
use Rattle.cmd_lora.specs.declared.LoraBw.TheVariants.{Bw125, Bw250}
use Rattle.cmd_lora.specs.declared.LoraCr.{LoraCr}
use Rattle.cmd_lora.specs.declared.LoraCr.TheVariants.{Cr1Ham45Si, Cr2Ham23Si, Cr3Ham47Si, Cr4Ham12Si}
use Rattle.cmd_lora.specs.declared.Sf.{Sf}
use Rattle.cmd_lora.specs.declared.Sf.TheVariants.{Sf7, Sf8, Sf9, Sf10, Sf11, Sf12}
use Rattle.enums.specs.Enums as enums
use Rattle.locker_profile.specs.declared.Lora.{Lora}
use Rattle.locker_profile.specs.Rules.{crc, due_for, first_broken, header, is_long, optimisation, rate, rules}
use Rattle.locker_profile.specs.Rules.{spreading_factor, syncword, width, width_in, width_of}

-- ---- a list of tests

-- each holds
abbrev pub AllKept : List (Lora → Bool) → Lora → Type 0
AllKept [] x = Unit
AllKept (t ∷ ts) x = (t x ≡ true) × AllKept ts x

-- the one with i before it fails, and those before it hold
abbrev pub FirstFails : ℕ → List (Lora → Bool) → Lora → Type 0
FirstFails i [] x = ⊥
FirstFails zero (t ∷ ts) x = t x ≡ false
FirstFails (suc i) (t ∷ ts) x = (t x ≡ true) × FirstFails i ts x

some-none : (n : ℕ) → Some n ≡ None → ⊥
some-none n e = let z : ◌≡◌ {A = ℕ} 0 1 = cc in omega arith

pub kept-none : (n : ℕ) (ts : List (Lora → Bool)) (x : Lora) → AllKept ts x → first_broken n ts x ≡ None
unfolding first_broken
kept-none n [] x h = refl
kept-none n (t ∷ ts) x h = rw h.0 (kept-none (suc n) ts x h.1)

pub none_kept : (n : ℕ) (ts : List (Lora → Bool)) (x : Lora) → first_broken n ts x ≡ None → AllKept ts x
unfolding first_broken
none_kept n [] x e = tt
none_kept n (t ∷ ts) x e = by (t x) refl e (none_kept (suc n) ts x)
  where
    by : (b : Bool) → t x ≡ b → cond b (first_broken (suc n) ts x) (Some n) ≡ None → (first_broken (suc n) ts x ≡ None → AllKept ts x)
        → (t x ≡ true) × AllKept ts x
    by true w q r = (w, r q)
    by false w q r = absurd (some-none n q)

pub fails-place : (n i : ℕ) (ts : List (Lora → Bool)) (x : Lora) → FirstFails i ts x → first_broken n ts x ≡ Some (n + i)
unfolding first_broken
fails-place n i [] x h = absurd h
fails-place n zero (t ∷ ts) x h = rw h (let z : n ≡ n + 0 = omega arith in ap (λ (m : ℕ). Some m) z)
fails-place n (suc i) (t ∷ ts) x h =
    rw h.0 (let z : suc n + i ≡ n + suc i = omega arith in fails-place (suc n) i ts x h.1 ∙ ap (λ (m : ℕ). Some m) z)

-- a test that fails first, at the place m where the list's first has the place n
pub record Failing (n m : ℕ) (ts : List (Lora → Bool)) (x : Lora) : Type 0 where
  pub before : ℕ
  pub there : m ≡ n + before
  pub fails : FirstFails before ts x

pub place-fails : (n m : ℕ) (ts : List (Lora → Bool)) (x : Lora) → first_broken n ts x ≡ Some m → Failing n m ts x
unfolding first_broken
place-fails n m [] x e = absurd (some-none m (sym e))
place-fails n m (t ∷ ts) x e = by (t x) refl e (place-fails (suc n) m ts x)
  where
    by : (b : Bool) → t x ≡ b → cond b (first_broken (suc n) ts x) (Some n) ≡ Some m → (first_broken (suc n) ts x ≡ Some m → Failing (suc n) m ts x)
        → Failing n m (t ∷ ts) x
    by true w q r = let f = r q in record { before = suc f.before; there = omega (arith, f.there); fails = (w, f.fails) }
    by false w q r = let same : n ≡ m = cc in record { before = 0; there = omega (arith, same); fails = w }

pub fails-within : (i : ℕ) (ts : List (Lora → Bool)) (x : Lora) → FirstFails i ts x → i < length ts
fails-within i [] x h = absurd h
fails-within zero (t ∷ ts) x h = omega arith
fails-within (suc i) (t ∷ ts) x h = omega (arith, fails-within i ts x h.1)

pub place-most : (n m : ℕ) (ts : List (Lora → Bool)) (x : Lora) → first_broken n ts x ≡ Some m → (n ≤ m) × (m < n + length ts)
place-most n m ts x e =
    let f = place-fails n m ts x e in
    (omega (arith, f.there), omega (arith, f.there, fails-within f.before ts x f.fails))

-- ---- each rule in numbers

-- 16 ms or more: 2^sf over hz / parts is at least 16 / 1000
abbrev pub Long : ℕ → Width → Type 0
Long sf w = 16 * w.hz ≤ 2 ^ sf * w.parts * 1000

either : (x y : Bool) → x || y ≡ true → (x ≡ true) ⊎ (y ≡ true)
either true y e = inl refl
either false y e = inr e

-- a number between two, and a number that is another
between : (least most v : ℕ) → (leb least v && leb v most ≡ true) ↔ ((least ≤ v) × (v ≤ most))
between least most v = (
  λ e. let h = both (leb least v) (leb v most) e in (leb-true least v h.0, leb-true v most h.1),
  λ h. rw (le-leb least v h.0, le-leb v most h.1),
)

equals : (v n : ℕ) → (eqb v n ≡ true) ↔ (v ≡ n)
equals v n = (eqb-true v n, eq-eqb v n)

module _ (x : Lora) where
  pub spreading-factor-is : (spreading_factor x ≡ true) ↔ ((7 ≤ x.sf) × (x.sf ≤ 12))
  unfolding spreading_factor
  spreading-factor-is = between 7 12 x.sf

  -- the codes of 125 and 250 kHz
  pub width_is : (width x ≡ true) ↔ ((x.lora_bw ≡ 4) ⊎ (x.lora_bw ≡ 5))
  unfolding width
  width_is = ((λ e. which (either (eqb x.lora_bw 4) (eqb x.lora_bw 5) e)), wide)
    where
      which : (eqb x.lora_bw 4 ≡ true) ⊎ (eqb x.lora_bw 5 ≡ true) → (x.lora_bw ≡ 4) ⊎ (x.lora_bw ≡ 5)
      which (inl e) = inl (eqb-true x.lora_bw 4 e)
      which (inr e) = inr (eqb-true x.lora_bw 5 e)

      wide : (x.lora_bw ≡ 4) ⊎ (x.lora_bw ≡ 5) → eqb x.lora_bw 4 || eqb x.lora_bw 5 ≡ true
      wide (inl e) = rw e
      wide (inr e) = rw e

  pub rate-is : (rate x ≡ true) ↔ ((1 ≤ x.lora_cr) × (x.lora_cr ≤ 4))
  unfolding rate
  rate-is = between 1 4 x.lora_cr

  pub header_is : (header x ≡ true) ↔ (x.header_type ≡ 0)
  unfolding header
  header_is = equals x.header_type 0

  pub crc-is : (crc x ≡ true) ↔ (x.crc_en ≡ 1)
  unfolding crc
  crc-is = equals x.crc_en 1

  pub syncword-is : (syncword x ≡ true) ↔ (x.syncword ≡ 0x12)
  unfolding syncword
  syncword-is = equals x.syncword 0x12

  abbrev lasts : Type 0
  lasts = Long x.sf (width_of x.lora_bw)

  is-long : is_long x.sf (width_of x.lora_bw) ≡ true → lasts
  unfolding is_long
  is-long e = leb-true _ _ e

  long-is : lasts → is_long x.sf (width_of x.lora_bw) ≡ true
  unfolding is_long
  long-is h = le-leb _ _ h

  due-on : lasts → due_for x ≡ 1
  unfolding due_for
  due-on h = rw (long-is h)

  due-off : (lasts → ⊥) → due_for x ≡ 0
  unfolding due_for
  due-off n = by (is_long x.sf (width_of x.lora_bw)) refl
    where
      by : (b : Bool) → is_long x.sf (width_of x.lora_bw) ≡ b → cond {A = ℕ} b 1 0 ≡ 0
      by true e = absurd (n (is-long e))
      by false e = refl

  -- on from 16 ms on, and off below
  pub optimisation-is : (optimisation x ≡ true) ↔ ((lasts → x.ldro ≡ 1) × ((lasts → ⊥) → x.ldro ≡ 0))
  unfolding optimisation
  optimisation-is = (
    λ e. let o : x.ldro ≡ due_for x = eqb-true x.ldro (due_for x) e in ((λ h. o ∙ due-on h), λ n. o ∙ due-off n),
    λ h. eq-eqb x.ldro (due_for x) (by (is_long x.sf (width_of x.lora_bw)) refl h.0 h.1),
  )
    where
      by : (b : Bool) → is_long x.sf (width_of x.lora_bw) ≡ b → (lasts → x.ldro ≡ 1) → ((lasts → ⊥) → x.ldro ≡ 0) → x.ldro ≡ due_for x
      by true e on off = on (is-long e) ∙ sym (due-on (is-long e))
      by false e on off = off (λ h. false≢true (sym e ∙ long-is h)) ∙ sym (due-off (λ h. false≢true (sym e ∙ long-is h)))

-- ---- all of them

pub record Keeps (x : Lora) : Type 0 where
  pub spreading_factor : (7 ≤ x.sf) × (x.sf ≤ 12)
  pub width : (x.lora_bw ≡ 4) ⊎ (x.lora_bw ≡ 5)
  pub rate : (1 ≤ x.lora_cr) × (x.lora_cr ≤ 4)
  pub header : x.header_type ≡ 0
  pub crc : x.crc_en ≡ 1
  pub syncword : x.syncword ≡ 0x12
  pub on : Long x.sf (width_of x.lora_bw) → x.ldro ≡ 1
  pub off : (Long x.sf (width_of x.lora_bw) → ⊥) → x.ldro ≡ 0

module _ (x : Lora) where
  pub kept-means : AllKept rules x → Keeps x
  kept-means (h1, (h2, (h3, (h4, (h5, (h6, (h7, u))))))) =
      record {
        spreading_factor = (spreading-factor-is x).0 h1;
        width = (width_is x).0 h2;
        rate = (rate-is x).0 h3;
        header = (header_is x).0 h4;
        crc = (crc-is x).0 h5;
        syncword = (syncword-is x).0 h6;
        on = ((optimisation-is x).0 h7).0;
        off = ((optimisation-is x).0 h7).1;
      }

  pub means-kept : Keeps x → AllKept rules x
  means-kept k = (
    (spreading-factor-is x).1 k.spreading_factor,
    (
      (width_is x).1 k.width,
      (
        (rate-is x).1 k.rate,
        ((header_is x).1 k.header, ((crc-is x).1 k.crc, ((syncword-is x).1 k.syncword, ((optimisation-is x).1 (k.on, k.off), tt)))),
      ),
    ),
  )

-- ---- the first three rules by name

-- arguments of which one counts
abbrev spread : ℕ → Lora
spread n = record { sf = n; lora_bw = 0; lora_cr = 0; ldro = 0; header_type = 0; crc_en = 0; syncword = 0 }

abbrev wide : ℕ → Lora
wide n = record { sf = 0; lora_bw = n; lora_cr = 0; ldro = 0; header_type = 0; crc_en = 0; syncword = 0 }

abbrev rated : ℕ → Lora
rated n = record { sf = 0; lora_bw = 0; lora_cr = n; ldro = 0; header_type = 0; crc_en = 0; syncword = 0 }

-- the values of a list that pass a test
abbrev those : {A : Type 0} → (A → Bool) → List A → List A
those t [] = []
those t (x ∷ xs) = cond (t x) (x ∷ those t xs) (those t xs)

pub passing :
    (those (λ (s : Sf). spreading_factor (spread (sf_code s))) (enums.values_of enums.sf) ≡ Sf7 ∷ Sf8 ∷ Sf9 ∷ Sf10 ∷ Sf11 ∷ Sf12 ∷ [])
    × (those (λ (w : LoraBw). width (wide (lora_bw_code w))) (enums.values_of enums.lora_bw) ≡ Bw125 ∷ Bw250 ∷ [])
    × (those (λ (c : LoraCr). rate (rated (lora_cr_code c))) (enums.values_of enums.lora_cr)
    ≡ Cr1Ham45Si ∷ Cr2Ham23Si ∷ Cr3Ham47Si ∷ Cr4Ham12Si ∷ [])
unfolding spreading_factor width rate
passing = (refl, refl, refl)

-- ---- which symbols are long

-- whether a symbol is long, for each of these spreading factors with the width of a code
abbrev longs : List ℕ → ℕ → List Bool
longs [] w = []
longs (s ∷ ss) w = is_long s (width_of w) ∷ longs ss w

-- 7 to 12 with 125 kHz and with 250 kHz: the last two, and the last
pub long-pairs :
    (longs (7 ∷ 8 ∷ 9 ∷ 10 ∷ 11 ∷ 12 ∷ []) 4 ≡ false ∷ false ∷ false ∷ false ∷ true ∷ true ∷ [])
    × (longs (7 ∷ 8 ∷ 9 ∷ 10 ∷ 11 ∷ 12 ∷ []) 5 ≡ false ∷ false ∷ false ∷ false ∷ false ∷ true ∷ [])
unfolding is_long width_in
long-pairs = (refl, refl)

-- a symbol of 16 ms sharp would be long
pub sixteen-long : is_long 11 (over 128000 1) ≡ true
unfolding is_long
sixteen-long = refl

-- but no setting of the radio has one: whether "at least" or "more than" is said decides nothing
abbrev sharp : List Sf → LoraBw → Bool
sharp [] w = false
sharp (s ∷ ss) w = eqb (16 * (exact_width w).hz) (2 ^ sf_code s * (exact_width w).parts * 1000) || sharp ss w

abbrev any_sharp : List LoraBw → Bool
any_sharp [] = false
any_sharp (w ∷ ws) = sharp (enums.values_of enums.sf) w || any_sharp ws

pub never-sharp : any_sharp (enums.values_of enums.lora_bw) ≡ false
never-sharp = refl
