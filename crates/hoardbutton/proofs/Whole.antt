-- Nothing is cut on its way to C. Assumes nothing.
use mathlib.Core.Path.{◌≡◌, refl, sym, ap, ◌∙◌, subst}
use mathlib.Core.List.{List, [], ◌∷◌, ◌++◌}
use Prim.Native.Nat.{ℕ, suc, ◌-◌, ◌≤◌, ◌<◌}
use native.Mathlib.Omega.{arith}
use lib.IntN.{ℤ, pos, negsuc, nat_abs}
use lib.Signed.{mag}
use lib.ListN.{length, take, replicate, length-take, length-append, length-replicate}
use lib.Seq.{take_all, take-take, take-append_seam}
use Rattle.reading.specs.declared.Text.{Text}
use Rattle.reading.specs.Level.{text_of}
use Rattle.refusal.specs.declared.Refusal.{Refusal}
use Rattle.refusal.specs.Numbers.{number_of, place_of}
use Rattle.refusal.proofs.Numbers.{number-bounds}
use Rattle.decoder.specs.Decoding.{Reading, reading, refuses, decode, decoded}
use Rattle.builder.specs.Building as builder
use Rattle.builder.specs.Building.{Making, makes, built, checked, plain_by}
use Rattle.codec.proofs.Laws.{decode-kind}
use Rattle.codec.proofs.Places.{place_in, decode-place, Within, checked-within, plain-within}
use Rattle.dump_text.proofs.Arguments.{decode-few}
use Rattle.std.specs.Prelude.{Err}
use Rattle.book.specs.Book.{Read, opened_for}
use Rattle.book.specs.History.{Call, after}
use Rattle.book.proofs.Places.{after-place}
use Rattle.owners.specs.Owners.{OwnerTable}
use Rattle.sides.specs.Calls.{Request, side_call}
use Rattle.sides.proofs.Places.{side-place}
use Rattle.std.specs.Prelude.{Err}
use Rattle.bank_widths.specs.Lists.{found, judged}
use Rattle.bank_widths.proofs.Laws.{found-place, judged-place}
use Rattle.locker_profile.specs.Profile as profile
use Rattle.locker_profile.specs.Profile.{answer_for}
use Rattle.locker_profile.proofs.Bounds.{broken-bounds, profiled-place}
use Rattle.cmd_lora.specs.declared.LoraBw.{LoraBw}
use Rattle.cmd_lora.specs.Codes.{lora_bw_code}
use Rattle.status.specs.declared.CmdStatus.{CmdStatus}
use Rattle.status.specs.declared.CmdStatus.TheVariants as cmd
use Rattle.status.specs.declared.ResetSrc.{ResetSrc}
use Rattle.status.specs.declared.ResetSrc.TheVariants as reset
use Rattle.status.specs.declared.ChipModeStatus.{ChipModeStatus}
use Rattle.status.specs.declared.ChipModeStatus.TheVariants as mode
use Rattle.status.specs.Codes.{cmd_code, reset_code, mode_code}
use Rattle.hoardbutton.specs.declared.frames.HbFrame.{HbFrame}
use Rattle.hoardbutton.specs.declared.frames.HbDecoded.{HbDecoded}
use Rattle.hoardbutton.specs.Readings.{widths}
use Rattle.hoardbutton.specs.Answers.{low}
use Rattle.hoardbutton.specs.Frames.{decoded_c, frame_c}
use Rattle.hoardbutton.specs.Profiles.{profile_c}

pub beyond : (n k : ℕ) → k ≤ n → (n ≡ k → ⊥) → suc k ≤ n
beyond n k h d = omega arith

-- ---- texts

-- a text lies within its eight bytes, and no shorter text is cut
module _ (t : Text) (l : List ℕ) (e : t ≡ text_of l) where
  pub text-fits : t.len ≤ length t.bytes
  unfolding text_of
  text-fits =
      let n : length (take 8 l) ≤ length (take 8 (l ++ replicate 8 0)) = omega (arith, length-take 8 l, length-take 8 (l ++ replicate 8 0), length-append l (replicate 8 0), length-replicate {A = ℕ} 8 0) in
      subst (λ (x : Text). x.len ≤ length x.bytes) (sym e) n

  pub text-shown : length l ≤ 8 → take (t.len - 0) t.bytes ≡ l
  unfolding text_of
  text-shown h =
      let n : length (take 8 l) - 0 ≡ length l = ap (λ (x : List ℕ). length x - 0) (take_all 8 l h) ∙ omega arith in
      ap (λ (x : Text). take (x.len - 0) x.bytes) e
      ∙ ap (λ (k : ℕ). take k (take 8 (l ++ replicate 8 0))) n
      ∙ take-take (length l) 8 (l ++ replicate 8 0) h
      ∙ take-append_seam l (replicate 8 0)

pub abs-small : (z : ℤ) → mag z < 128 → nat_abs z ≤ 128
abs-small (pos n) h = omega arith
abs-small (negsuc n) h = omega arith

-- ---- the codes of a status

pub low-cmd : (x : CmdStatus) → low (cmd_code x) ≡ cmd_code x
low-cmd cmd.Fail = refl
low-cmd cmd.PErr = refl
low-cmd cmd.Ok = refl
low-cmd cmd.Data = refl
low-cmd cmd.Unknown = refl

pub low-reset : (x : ResetSrc) → low (reset_code x) ≡ reset_code x
low-reset reset.Cleared = refl
low-reset reset.Analog = refl
low-reset reset.External = refl
low-reset reset.Watchdog = refl
low-reset reset.Iocd = refl
low-reset reset.Rtc = refl
low-reset reset.Unknown = refl

pub low-mode : (x : ChipModeStatus) → low (mode_code x) ≡ mode_code x
low-mode mode.Sleep = refl
low-mode mode.Rc = refl
low-mode mode.Xosc = refl
low-mode mode.Fs = refl
low-mode mode.Rx = refl
low-mode mode.Tx = refl
low-mode mode.Unknown = refl

-- ---- frames

pub low_small : (n : ℕ) → n ≤ 255 → low n ≡ n
low_small n h = omega arith

-- what the decoder hands over
abbrev pub WholeRead : Reading → Type 0
WholeRead (reading k vs) = (low k ≡ k) × (low (length vs) ≡ length vs)
WholeRead (refuses x) = low (place_of x) ≡ place_of x

pub decoded-whole : (f : List ℕ) → WholeRead (decode f)
decoded-whole f = by (decode f) refl (decode-place f)
  where
    by : (x : Reading) → decode f ≡ x → place_in x ≤ 12 → WholeRead x
    by (reading k vs) e h = (low_small k (omega (arith, (decode-kind f k vs e).1)), low_small (length vs) (omega (arith, decode-few f k vs e)))
    by (refuses x) e h = low_small (place_of x) (omega arith)

-- what a builder hands over
abbrev pub WholeFrame : Making → Type 0
WholeFrame (makes f) = low (length f) ≡ length f
WholeFrame (builder.refuses x) = low (place_of x) ≡ place_of x

built-whole : (m : Making) → Within m → WholeFrame m
built-whole (makes f) w = low_small (length f) (omega (arith, w.long))
built-whole (builder.refuses x) w = low_small (place_of x) (omega (arith, w.place))

pub checked-whole : (k : ℕ) (vs : List ℕ) → WholeFrame (checked k vs)
checked-whole k vs = built-whole (checked k vs) (checked-within k vs)

pub plain-whole : (k : ℕ) (vs : List ℕ) → WholeFrame (plain_by k vs)
plain-whole k vs = built-whole (plain_by k vs) (plain-within k vs)

-- so each struct has what was made or read, and zeros beside a refusal
abbrev pub FrameSays : Making → HbFrame → Type 0
FrameSays (makes f) r = (r.refusal ≡ 0) × (r.place ≡ 0) × (r.len ≡ length f)
FrameSays (builder.refuses x) r = (r.refusal ≡ number_of x) × (r.place ≡ place_of x) × (r.len ≡ 0)

built-handed : (m : Making) → WholeFrame m → FrameSays m (frame_c (built m))
unfolding built
built-handed (makes f) w = (refl, refl, w)
built-handed (builder.refuses x) w = (refl, w, refl)

pub checked-handed : (k : ℕ) (vs : List ℕ) → FrameSays (checked k vs) (frame_c (built (checked k vs)))
checked-handed k vs = built-handed (checked k vs) (checked-whole k vs)

pub plain-handed : (k : ℕ) (vs : List ℕ) → FrameSays (plain_by k vs) (frame_c (built (plain_by k vs)))
plain-handed k vs = built-handed (plain_by k vs) (plain-whole k vs)

abbrev pub ReadingSays : Reading → HbDecoded → Type 0
ReadingSays (reading k vs) r = (r.refusal ≡ 0) × (r.place ≡ 0) × (r.kind ≡ k) × (r.count ≡ length vs)
ReadingSays (refuses x) r = (r.refusal ≡ number_of x) × (r.place ≡ place_of x) × (r.kind ≡ 0) × (r.count ≡ 0)

pub decoded-handed : (f : List ℕ) → ReadingSays (decode f) (decoded_c (decoded (decode f)))
unfolding decoded
decoded-handed f = by (decode f) (decoded-whole f)
  where
    by : (x : Reading) → WholeRead x → ReadingSays x (decoded_c (decoded x))
    by (reading k vs) w = (refl, refl, w.0, w.1)
    by (refuses x) w = (refl, w, refl, refl)

-- ---- the book

-- of every call: what an answer's place is, it is for C
pub book-whole : (c : Call) (b : List ℕ) (x : Refusal) → (after c b).answer ≡ Err x → low (place_of x) ≡ place_of x
book-whole c b x e = low_small (place_of x) (omega (arith, after-place b c x e))

-- so of a side's
pub side-whole : (t : OwnerTable) (w : ℕ) (c : Request) (o b : List ℕ) (x : Refusal) → (side_call t w c o b).answer ≡ Err x → low (place_of x) ≡ place_of x
side-whole t w c o b x e = low_small (place_of x) (omega (arith, side-place b t w c o x e))

-- ---- banks

low-bank : (x : Refusal) → place_of x ≤ 32 → low (place_of x) ≡ place_of x
low-bank x h = low_small (place_of x) (omega (arith, h))

pub widths-check-whole : (ns cs : List ℕ) (x : Refusal) → judged ns cs ≡ Err x → low (place_of x) ≡ place_of x
widths-check-whole ns cs x e = low-bank x (judged-place ns cs x e)

pub widths-find-whole : (ns : List ℕ) (m : ℕ) (x : Refusal) → found ns m ≡ Err x → low (place_of x) ≡ place_of x
widths-find-whole ns m x e = low-bank x (found-place ns m x e)

-- ---- the locker profile

pub profile-whole : (b : List ℕ) (x : Refusal) → answer_for b ≡ profile.Refused x → low (place_of x) ≡ place_of x
profile-whole b x e = low_small (place_of x) (omega (arith, profiled-place b x e))

-- with neither a refusal nor a rule, it is a yes: no broken rule is 0
pub profile-yes : (b : List ℕ) → (profile_c (answer_for b)).refusal ≡ 0 → (profile_c (answer_for b)).value ≡ 0 → answer_for b ≡ profile.Yes
profile-yes b = by (answer_for b) refl
  where
    by : (a : profile.Answer) → answer_for b ≡ a → (profile_c a).refusal ≡ 0 → (profile_c a).value ≡ 0 → a ≡ profile.Yes
    by profile.Yes e z w = refl
    by (profile.Broken n) e z w = absurd (omega (arith, (broken-bounds (opened_for Read b) n e).0))
    by (profile.Refused x) e z w = absurd (omega (arith, (number-bounds x).0))

-- and else the rule is one of the seven
pub profile-rule : (b : List ℕ) → (profile_c (answer_for b)).value ≤ 7
profile-rule b = by (answer_for b) refl
  where
    by : (a : profile.Answer) → answer_for b ≡ a → (profile_c a).value ≤ 7
    by profile.Yes e = omega arith
    by (profile.Broken n) e = (broken-bounds (opened_for Read b) n e).1
    by (profile.Refused x) e = omega arith

-- ---- the widths stand in the order of their codes

abbrev pub codes_in : List LoraBw → List ℕ
codes_in [] = []
codes_in (w ∷ ws) = lora_bw_code w ∷ codes_in ws

pub widths-codes : codes_in widths ≡ 0 ∷ 1 ∷ 2 ∷ 3 ∷ 4 ∷ 5 ∷ 6 ∷ 7 ∷ 8 ∷ 9 ∷ 10 ∷ 11 ∷ 12 ∷ 13 ∷ 14 ∷ 15 ∷ []
widths-codes = refl
