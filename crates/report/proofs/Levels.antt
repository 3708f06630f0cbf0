-- The text of a level or a ratio as `reading` hands it over: it is whole, and the bytes in front of its zeros are the text.
-- Assumes nothing.
use mathlib.Core.Path.{◌≡◌, sym, ap, ap₂, ◌∙◌}
use mathlib.Core.List.{List, [], ◌∷◌, ◌++◌}
use Prim.Native.Nat.{ℕ, ◌-◌, ◌≤◌, ◌<◌}
use native.Mathlib.Omega.{arith}
use lib.IntN.{ℤ, pos, negsuc, nat_abs}
use lib.Signed.{mag}
use lib.ListN.{length, take, replicate, length-take, length-append, length-replicate}
use lib.Seq.{take_all, take-take, take-append_seam}
use Rattle.reading.specs.Level.{snr_text, text_of}
use Rattle.reading.specs.declared.Text.{Text}
use Rattle.reading.proofs.Texts.{snr-length}
use Rattle.texts.specs.Words.{spaced}
use Rattle.texts.specs.Written.{Puts}
use Rattle.texts.proofs.Writing.{puts_then, puts-as}
use Rattle.texts.proofs.Forms.{spaced-two}

module _ {t : Text} (l : List ℕ) (e : t ≡ text_of l) where
  abbrev padded : List ℕ
  padded = l ++ replicate 8 0

  pub text-held : t.len ≤ length t.bytes
  unfolding text_of
  text-held =
      let n : t.len ≡ length (take 8 l) = ap (λ (u : Text). u.len) e in
      let b : length t.bytes ≡ length (take 8 padded) = ap (λ (u : Text). length u.bytes) e in
      omega (arith, length-take 8 l, length-take 8 padded, length-append l (replicate 8 0))

  -- as the part of the bytes from 0 to the length is handed on
  text-part : length l ≤ 8 → take (t.len - 0) t.bytes ≡ l
  unfolding text_of
  text-part h =
      let n : t.len - 0 ≡ length l = ap (λ (u : Text). u.len - 0) e ∙ ap (λ (x : List ℕ). length x - 0) (take_all 8 l h) ∙ omega arith in
      let b : t.bytes ≡ take 8 padded = ap (λ (u : Text). u.bytes) e in
      ap₂ take n b ∙ take-take (length l) 8 padded h ∙ take-append_seam l (replicate 8 0)

  module _ (a : List ℕ) {o p q : List ℕ} {at r s : ℕ} where
    pub field-text : length l ≤ 8 → Puts (spaced (a ∷ []) []) at o r p → Puts (spaced (take (t.len - 0) t.bytes ∷ []) []) r p s q
        → Puts (spaced (a ∷ l ∷ []) []) at o s q
    field-text h u v = puts-as _ (ap (λ (x : List ℕ). spaced (a ∷ x ∷ []) []) (sym (text-part h)) ∙ spaced-two a _) (puts_then u v)

-- the text of a count of eight bits
abs-small : (z : ℤ) → mag z < 128 → nat_abs z ≤ 128
abs-small (pos n) h = omega arith
abs-small (negsuc n) h = omega arith

pub snr-fits : (z : ℤ) → mag z < 128 → length (snr_text z) ≤ 8
snr-fits z h = omega (arith, snr-length z (abs-small z h))
